-- Why the parser gives no statement for a text, by what the text is.
use Rattle.std.specs.Prelude.{◌≡◌}
use Rattle.sql_parse.specs.declared.parsing.ParseRefusal.{ParseRefusal}
use Rattle.sql_parse.specs.declared.parsing.ParseRefusal.TheVariants.{Syntax, Deep, NoMemory}
use Rattle.text_answers.specs.Answers.{TextAnswer, a_syntax_error, too_deep}

-- the place of the error, too deep, or memory is short
abbrev pub IsRefusedText : TextAnswer → ParseRefusal → Type 0
IsRefusedText answer (Syntax at) = answer ≡ a_syntax_error at
IsRefusedText answer Deep = answer ≡ too_deep
IsRefusedText answer NoMemory = Unit {0}
