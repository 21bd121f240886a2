use Rattle.table_rules.specs.Leads.{Leads}
use Rattle.test_changes.proofs.change_each.Given as goal

abbrev pub invariant-loop-row : goal.invariant-loop-row
invariant-loop-row l = Leads l.fn.tables l.fn.undo l.tables l.undo
