use Rattle.std.proofs.Common.{List, Option, None, ap, ◌∙◌}
use Rattle.val_types.specs.declared.value.Value.{Value}
use Rattle.row_index.specs.block_list.Layouts.{flat}
use Rattle.row_index.specs.row_sheets.Orders.{slots_of}
use Rattle.table_sheet.specs.Numbered.{row_slot, are_numbered}
use Rattle.table_sheet.proofs.Settled.{numbered_taken, slots_taken, set_others}
use Rattle.table_sheet.proofs.committed.Committed.take_at.Goals as goal

pub invariant_of-self : goal.invariant_of-self
invariant_of-self c = record {
  numbered =
      ap (λ (rows : List (Option (List Value))). are_numbered rows (flat c.take-number.new.self.blocks)) c.take.ensures.rows
      ∙ numbered_taken c.args.self.now.rows.rows c.args.self.now.order.blocks c.args.spot c.take-number.result (flat c.take-number.new.self.blocks) c.args.self.now.numbered c.requires.spot c.take-number.ensures.number c.take-number.ensures.numbers
      c.requires.once;
}

pub returns-clause-slots : goal.returns-clause-slots
returns-clause-slots c = λ d key rises found.
    ap (λ (rows : List (Option (List Value))). slots_of (row_slot d rows) (flat c.take-number.new.self.blocks)) c.take.ensures.rows
    ∙ slots_taken d key c.args.self.now.rows.rows c.args.self.now.order.blocks c.args.spot c.take-number.result (flat c.take-number.new.self.blocks) c.take-number.ensures.number c.take-number.ensures.numbers c.requires.once rises found

pub returns-clause-others : goal.returns-clause-others
returns-clause-others c =
    set_others c.args.self.now.rows.rows c.take.new.self.rows c.args.self.now.order.blocks c.args.spot c.take-number.result None c.requires.spot c.take-number.ensures.number c.take.ensures.rows
