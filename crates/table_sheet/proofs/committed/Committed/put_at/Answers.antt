use Rattle.row_index.specs.block_list.Layouts.{flat}
use Rattle.table_sheet.proofs.Settled.{numbered_more, slots_more, put_others}
use Rattle.table_sheet.proofs.committed.Committed.put_at.Goals as goal

pub invariant_of-self : goal.invariant_of-self
invariant_of-self c = record {
  numbered =
      numbered_more c.args.self.now.rows.rows c.put-number.new.self.rows c.put-number.result c.args.row c.args.self.now.order.blocks c.args.spot (flat c.put.new.self.blocks) c.put-number.ensures.free c.put-number.ensures.within
      c.put-number.ensures.rows c.put.ensures.numbers c.args.self.now.numbered;
}

pub returns-clause-slots : goal.returns-clause-slots
returns-clause-slots c = λ d missing.
    slots_more d c.args.self.now.rows.rows c.put-number.new.self.rows c.put-number.result c.args.row c.args.self.now.order.blocks c.args.spot (flat c.put.new.self.blocks) c.put-number.ensures.free c.put-number.ensures.within c.put-number.ensures.rows
    c.put.ensures.numbers c.args.self.now.numbered c.requires.spot missing

pub returns-clause-others : goal.returns-clause-others
returns-clause-others c = put_others c.args.self.now.rows.rows c.put-number.new.self.rows c.put-number.result c.args.row c.put-number.ensures.free c.put-number.ensures.within c.put-number.ensures.rows
