use Rattle.std.proofs.Common.{◌≡◌, ◌-◌}
use Rattle.sql_syntax.specs.Parts.{a_name, list_of}
use Rattle.sql_parse_tokens.proofs.Reading.{more_of}
use Rattle.sql_parse_tokens.proofs.parts.name_list.Given as goal

abbrev pub invariant-loop-turn : goal.invariant-loop-turn
invariant-loop-turn l = more_of a_name (l._turn-end - l._turn) l.names l.rest ≡ (list_of a_name).read l.fn.rest
