use Rattle.std.proofs.Common.{◌≡◌, ◌≤◌, min, drop}
use Rattle.sql_tree.specs.StatementView.{view_sets}
use Rattle.catalog_objects.specs.catalog_rules.Ranks.{sets_rank}
use Rattle.catalog_checks.specs.Asking.{asked_of, sight_of}
use Rattle.catalog_checks.proofs.statements.sets.Given as goal

abbrev pub invariant-loop-set : goal.invariant-loop-set
invariant-loop-set l = (l.rank ≤ 10) × (min l.rank (sets_rank (asked_of l.checks) l.table (view_sets (drop l.set-index l.set-items)) (sight_of l.sight)) ≡ sets_rank (asked_of l.checks) l.table (view_sets l.list) (sight_of l.sight))
