use Rattle.row_index.specs.block_list.Layouts.{flat}
use Rattle.row_index.specs.block_list.Spots.{place}
use Rattle.value_ranges.specs.Ranges.{range_of}
use Rattle.table_sheet.specs.Numbered.{row_slot}
use Rattle.table_sheet.specs.Parts.{committed_slots}
use Rattle.table_sheet.specs.Ranges.{by_low}
use Rattle.table_sheet.proofs.Firsts.{ends_in_order, fronts_are_outside}
use Rattle.table_sheet.proofs.Ranging.{nothing_before}
use Rattle.table_sheet.proofs.committed.Committed.begin.Goals as goal

pub returns-in-Ok-clause-outside : goal.returns-in-Ok-clause-outside
returns-in-Ok-clause-outside c =
    nothing_before (range_of c.args.range) (committed_slots c.args.definition.now c.args.self.now) (place c.args.self.now.order.blocks c.first.result) c.first.ensures.place

pub returns-in-Err-clause-outside : goal.returns-in-Err-clause-outside
returns-in-Err-clause-outside c =
    let slot_at = row_slot c.args.definition.now c.args.self.now.rows.rows in
    let low = (range_of c.args.range).low in
    fronts_are_outside slot_at (range_of c.args.range) c.args.self.now.order.blocks c.in-Err.spot
    (c.in-Err.ensures.place (by_low slot_at low) (λ number answer post. post) (ends_in_order slot_at low (flat c.args.self.now.order.blocks) c.requires))
