use Rattle.sql_lex.proofs.Spelled.{name_spells, word_spells, number_spells, text_spells, hex_spells, space_spells}
use Rattle.sql_lex.proofs.written.written_is_read.Goals as goal

pub returns-clause-name : goal.returns-clause-name
returns-clause-name c = name_spells

pub returns-clause-word : goal.returns-clause-word
returns-clause-word c = word_spells

pub returns-clause-number : goal.returns-clause-number
returns-clause-number c = number_spells

pub returns-clause-string : goal.returns-clause-string
returns-clause-string c = text_spells

pub returns-clause-hexadecimal : goal.returns-clause-hexadecimal
returns-clause-hexadecimal c = hex_spells

pub returns-clause-space : goal.returns-clause-space
returns-clause-space c = space_spells
