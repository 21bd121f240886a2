-- The command that reads the words, as the definitions of `clap` see it.
use Rattle.std.specs.Prelude.{Some, true, codes}
use Rattle.clap.specs.Words.{App, Rule, new_app, new_rule, with_rule}

-- the argument: one or two words
abbrev pub words_rule : Rule
words_rule = record (new_rule (codes "words")) {
  required = true;
  range = Some (record { start_inclusive = 1; end_inclusive = 2 });
}

-- a command that has this argument and no flags, and is handed the words without the program's name
abbrev pub positional_words : App
positional_words =
    let app = new_app (codes "cedarchisel") in
    with_rule (record app { top = record app.top { no_binary_name = true; disable_help_flag = true } }) words_rule
