use Rattle.std.proofs.Common.{◌≡◌, ◌-◌}
use Rattle.sql_syntax.specs.Tables.{marks}
use Rattle.sql_parse_definitions.proofs.TableSteps.{more_marks}
use Rattle.sql_parse_definitions.proofs.tables.all_marks.Given as goal

abbrev pub invariant-loop-turn : goal.invariant-loop-turn
invariant-loop-turn l = more_marks l.has_key (l._turn-end - l._turn) l.marks l.rest ≡ (marks l.has_key).read l.fn.rest
