use Rattle.table_rules.specs.Leads.{Leads}
use Rattle.test_changes.proofs.change_often.Given as goal

abbrev pub invariant-loop-key : goal.invariant-loop-key
invariant-loop-key l = Leads l.fn.tables l.fn.undo l.tables l.undo
