use Rattle.std.proofs.Common.{◌≡◌, drop}
use Rattle.catalog_objects.specs.catalog_rules.Names.{has_twice}
use Rattle.catalog_checks.proofs.inserting.has_twice.Given as goal

abbrev pub invariant-loop-i : goal.invariant-loop-i
invariant-loop-i l = has_twice (drop l.i l.names) ≡ has_twice l.names
