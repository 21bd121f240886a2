use Rattle.std.proofs.Common.{rules, ◌≡◌, ◌∙◌, ap, ap₂, Some, true}
use Rattle.std.proofs.lemmas.Result.{IfOk-weaker}
use Rattle.clap.specs.Words.{App, Rule, rule_of, with_rule}
use Rattle.clap.specs.Simple.{app_of_fields}
use Rattle.program_words.specs.Commands.{words_rule}
use Rattle.program_words.proofs.Ranges.{range_of, some_range}
use Rattle.program_words.proofs.command.positional_words.Goals as goal

pub returns : goal.returns
returns c =
    let numbers = some_range c.num_args-words.result.num_vals _ c.num_args-words.ensures.1 in
    let range = numbers.2 ∙ ap₂ range_of c.new-2.ensures.start c.new-2.ensures.end in
    let rule_is : rule_of c.num_args-words.result ≡ words_rule = ap rule_of c.num_args-words.ensures.0
    ∙ ap (λ o. rule_of (record c.required.result { num_vals = o })) (numbers.1 ∙ ap Some range)
    ∙ ap (λ a. rule_of (record a { num_vals = Some (range_of 1 2) })) c.required.ensures
    ∙ ap (λ (r : Rule). record r { required = true; range = Some (range_of 1 2) }) c.new.ensures.rule in
    let app_is = ap app_of_fields c.disable_help_flag.ensures ∙ ap (λ f. app_of_fields (record f { disable_help_flag = true })) c.no_binary_name.ensures
    ∙ ap (λ (a : App). record a { top = record a.top { no_binary_name = true; disable_help_flag = true } }) c.new-3.ensures.app in
    IfOk-weaker c.arg.result _ _ (λ r adds. adds.shape (search rules) ∙ ap₂ with_rule app_is rule_is) c.arg.ensures
