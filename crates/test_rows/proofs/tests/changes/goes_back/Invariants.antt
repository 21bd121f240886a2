use Rattle.std.proofs.Common.{◌≡◌, ℕ, drop, true}
use Rattle.table_rules.specs.Stores.{can_take_back}
use Rattle.test_rows.proofs.tests.changes.goes_back.Given as goal

abbrev pub invariant-loop-step : goal.invariant-loop-step
invariant-loop-step l = (mark : ℕ) → can_take_back l.tables (drop mark l.undo) ≡ true
