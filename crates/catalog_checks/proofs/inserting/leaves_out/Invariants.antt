use Rattle.std.proofs.Common.{◌≡◌, drop}
use Rattle.std.specs.List.{list_any, enumerate_from}
use Rattle.catalog_objects.specs.catalog_rules.Checks.{is_left_out}
use Rattle.catalog_checks.proofs.inserting.leaves_out.Given as goal

abbrev pub invariant-loop-i : goal.invariant-loop-i
invariant-loop-i l = list_any (is_left_out l.definition l.names) (enumerate_from l.i (drop l.i l.definition.columns)) ≡ list_any (is_left_out l.definition l.names) (enumerate_from 0 l.definition.columns)
