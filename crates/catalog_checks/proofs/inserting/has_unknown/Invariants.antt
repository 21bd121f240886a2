use Rattle.std.proofs.Common.{◌≡◌, drop, not}
use Rattle.std.specs.List.{list_any}
use Rattle.catalog_objects.specs.catalog_rules.Checks.{has_column}
use Rattle.catalog_checks.proofs.inserting.has_unknown.Given as goal

abbrev pub invariant-loop-name : goal.invariant-loop-name
invariant-loop-name l = list_any (λ c. not (has_column c l.definition)) (drop l.name-index l.names) ≡ list_any (λ c. not (has_column c l.definition)) l.names
