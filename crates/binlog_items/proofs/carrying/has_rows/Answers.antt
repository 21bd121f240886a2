use Rattle.std.proofs.Common.{rules, ◌≡◌, ◌≤◌, true, length}
use Rattle.std.proofs.lemmas.Bool.{OnTrue_at, OnTrue_from}
use Rattle.log_entry_laws.specs.log_model.Items.{CanCarryAll}
use Rattle.row_laws.specs.Laws.{AreNamed}
use Rattle.binlog_items.proofs.carrying.has_rows.Goals as goal

pub returns : goal.returns
returns c =
    let some : 1 ≤ length c.args.item.now.changes = search rules in
    let named : AreNamed c.args.item.now.defs = search rules in
    let can : c.can_carry_all.result ≡ true → CanCarryAll c.args.item.now.defs c.args.item.now.changes = λ yes. rw c.as_slice-2.ensures at (OnTrue_at yes c.can_carry_all.ensures) in
    OnTrue_from c.can_carry_all.result _ (λ yes. record { some = some; named = named; can = can yes })
