use Rattle.std.proofs.Common.{rules, [], ◌∷◌}
use Rattle.sql_lex.specs.declared.keyword.Keyword.TheVariants as words
use Rattle.sql_syntax.specs.Tokens.{code}
use Rattle.sql_syntax.specs.Expressions.{constant}
use Rattle.sql_parse_expressions.proofs.BuiltIns.{keeps_tail, called_as}
use Rattle.sql_parse_tokens.proofs.Reading.{again}
use Rattle.sql_parse_expressions.proofs.calls.name_const_call.Goals as goal

pub returns-then-not-is_mark : goal.returns-then-not-is_mark
returns-then-not-is_mark c = keeps_tail (code words.NameConst ∷ []) (λ t a. a) c.args.depth constant _ c.args.rest _ _ c.in_ok-word.ensures c.if-not-is_mark.ensures c.column.ensures

pub returns-in_err-rest : goal.returns-in_err-rest
returns-in_err-rest c = rw (c.in_ok-word.ensures, ← c.if-not-is_mark.ensures) (search rules)

pub returns : goal.returns
returns c =
    rw (called_as (code words.NameConst ∷ []) (λ t a. a) c.args.depth _ (λ m. constant) c.args.rest _ _ _ c.in_ok-word.ensures c.if-not-is_mark.ensures c.in_ok-rest.ensures.reads, again (constant.read c.in_ok-rest.rest)) c.constant.ensures
