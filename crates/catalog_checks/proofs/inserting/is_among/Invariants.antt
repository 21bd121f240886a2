use Rattle.std.proofs.Common.{◌≡◌, drop}
use Rattle.catalog_objects.specs.catalog_rules.Names.{is_among}
use Rattle.catalog_checks.proofs.inserting.is_among.Given as goal

abbrev pub invariant-loop-own : goal.invariant-loop-own
invariant-loop-own l = is_among (drop l.own-index l.names) l.name ≡ is_among l.names l.name
