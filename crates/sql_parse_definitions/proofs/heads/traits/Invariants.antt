use Rattle.std.proofs.Common.{◌≡◌, ◌-◌}
use Rattle.sql_syntax.specs.Programs.{traits}
use Rattle.sql_parse_definitions.proofs.TraitSteps.{more_traits}
use Rattle.sql_parse_definitions.proofs.heads.traits.Given as goal

abbrev pub invariant-loop-turn : goal.invariant-loop-turn
invariant-loop-turn l = more_traits (l._turn-end - l._turn) l.rest ≡ traits.read l.fn.rest
