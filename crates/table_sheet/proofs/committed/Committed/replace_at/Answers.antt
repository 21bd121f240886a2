use Rattle.std.proofs.Common.{List, Option, Some, sym, ap, ◌∙◌}
use Rattle.val_types.specs.declared.value.Value.{Value}
use Rattle.row_index.specs.block_list.Layouts.{flat}
use Rattle.row_index.specs.row_sheets.Orders.{slots_of}
use Rattle.table_sheet.specs.Numbered.{row_slot, are_numbered}
use Rattle.table_sheet.proofs.Slotted.{never_none}
use Rattle.table_sheet.proofs.Settled.{has_row, numbered_set, slots_replaced, set_others}
use Rattle.table_sheet.proofs.committed.Committed.replace_at.Goals as goal

pub replace-requires : goal.replace-requires
replace-requires c = has_row c.args.self.now.rows.rows c.args.self.now.order.blocks c.args.spot c.in-Some.number c.args.self.now.numbered (sym c.in-Some.ensures)

pub invariant_of-self : goal.invariant_of-self
invariant_of-self c = record {
  numbered =
      ap (λ (rows : List (Option (List Value))). are_numbered rows (flat c.args.self.now.order.blocks)) c.replace.ensures.rows
      ∙ numbered_set c.args.self.now.rows.rows c.in-Some.number c.args.row (flat c.args.self.now.order.blocks) c.args.self.now.numbered;
}

pub returns-in-Some-clause-slots : goal.returns-in-Some-clause-slots
returns-in-Some-clause-slots c = λ d rises found.
    ap (λ (rows : List (Option (List Value))). slots_of (row_slot d rows) (flat c.args.self.now.order.blocks)) c.replace.ensures.rows
    ∙ slots_replaced d c.args.self.now.rows.rows c.args.self.now.order.blocks c.args.spot c.in-Some.number c.args.row c.args.self.now.numbered (sym c.in-Some.ensures) rises found

pub returns-in-None-clause-slots : goal.returns-in-None-clause-slots
returns-in-None-clause-slots c = λ d rises found. never_none c.args.self.now.order.blocks c.args.spot c.requires c.in-None.ensures

pub returns-in-Some-clause-others : goal.returns-in-Some-clause-others
returns-in-Some-clause-others c =
    set_others c.args.self.now.rows.rows c.replace.new.self.rows c.args.self.now.order.blocks c.args.spot c.in-Some.number (Some c.args.row) c.requires (sym c.in-Some.ensures) c.replace.ensures.rows

pub returns-in-None-clause-others : goal.returns-in-None-clause-others
returns-in-None-clause-others c = λ m differs. never_none c.args.self.now.order.blocks c.args.spot c.requires c.in-None.ensures
