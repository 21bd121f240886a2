use Rattle.std.proofs.Common.{◌≡◌, ◌-◌}
use Rattle.std.specs.List.{list_any}
use Rattle.sql_syntax.specs.Tables.{table_parts, is_primary}
use Rattle.sql_parse_definitions.proofs.TableSteps.{more_parts}
use Rattle.sql_parse_definitions.proofs.tables.table_parts.Given as goal

abbrev pub invariant-loop-turn : goal.invariant-loop-turn
invariant-loop-turn l =
    (l.has_key ≡ list_any is_primary l.parts) × (more_parts l.depth (l._turn-end - l._turn) l.parts l.rest ≡ (table_parts l.depth).read l.fn.rest)
