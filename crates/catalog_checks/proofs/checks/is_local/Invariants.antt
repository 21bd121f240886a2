use Rattle.std.proofs.Common.{◌≡◌, drop}
use Rattle.catalog_objects.specs.catalog_rules.Names.{is_among}
use Rattle.catalog_checks.specs.Asking.{names_of}
use Rattle.catalog_checks.proofs.checks.is_local.Given as goal

-- none of the locals so far is the one
abbrev pub invariant-loop-local : goal.invariant-loop-local
invariant-loop-local l = is_among (names_of (drop l.local-index l.local-items)) l.name ≡ is_among (names_of l.locals) l.name
