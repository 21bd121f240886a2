use Rattle.std.proofs.Common.{◌≡◌, drop}
use Rattle.std.specs.List.{list_all}
use Rattle.sql_tree.specs.Well.{is_well_set}
use Rattle.sql_tree.specs.StatementView.{view_sets}
use Rattle.sql_tree.proofs.statement_rules.well_sets.Given as goal

abbrev pub invariant-loop-set : goal.invariant-loop-set
invariant-loop-set l = list_all is_well_set (view_sets (drop l.set-index l.set-items)) ≡ list_all is_well_set (view_sets l.sets)
