use Rattle.std.proofs.Common.{◌≡◌, ◌-◌}
use Rattle.sql_syntax.specs.Parts.{list_of}
use Rattle.sql_syntax.specs.Programs.{parameter_of}
use Rattle.sql_parse_tokens.proofs.Reading.{more_of}
use Rattle.sql_parse_definitions.proofs.heads.parameter_list.Given as goal

abbrev pub invariant-loop-turn : goal.invariant-loop-turn
invariant-loop-turn l = more_of (parameter_of l.may_in l.depth) (l._turn-end - l._turn) l.parameters l.rest ≡ (list_of (parameter_of l.may_in l.depth)).read l.fn.rest
