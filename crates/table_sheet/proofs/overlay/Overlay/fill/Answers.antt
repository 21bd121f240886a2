use Rattle.std.proofs.Common.{arith}
use Rattle.table_sheet.specs.Ranked.{shown_by}
use Rattle.table_sheet.specs.Parts.{entry_slots}
use Rattle.row_index.specs.row_sheets.Slots.{rows_in}
use Rattle.row_index.specs.block_list.Layouts.{flat}
use Rattle.std.proofs.Common.{length}
use Rattle.table_sheet.proofs.Slotted.{never_none}
use Rattle.table_sheet.proofs.Above.{all_rise_of, filled_can, filled_above}
use Rattle.table_sheet.proofs.overlay.Overlay.fill.Goals as goal

pub leave-requires : goal.leave-requires
leave-requires c =
    all_rise_of c.get-table.result.now c.args.definition.now c.get-table.ensures (shown_by c.args.self.now.entries.items) c.args.self.now.indexes.items (rows_in (entry_slots c.args.definition.now c.args.self.now)) (length (flat c.args.self.now.ranks.blocks)) c.requires.above

pub enter-requires : goal.enter-requires
enter-requires c =
    filled_can c.get-table.result.now c.args.definition.now c.get-table.ensures c.args.self.now.entries.items c.fill_entry-before.new.self.entries.items c.args.self.now.ranks.blocks c.fill_entry-before.new.self.ranks.blocks c.args.spot c.in-Some.number c.args.present
    c.requires.spot c.in-Some.ensures c.requires.rises c.requires.apart c.fill_entry-before.ensures.there c.fill_entry-before.ensures.others (omega (arith, c.len.ensures.count, c.len.ensures.few)) c.args.self.now.indexes.items c.leave.new.indexes.items c.fill_entry-before.new.self.indexes.items
    c.requires.above c.leave.ensures c.fill_entry-before.ensures.indexes

pub returns-in-Some-clause-above : goal.returns-in-Some-clause-above
returns-in-Some-clause-above c =
    filled_above c.get-table.result.now c.args.definition.now c.get-table.ensures c.args.self.now.entries.items c.fill_entry-before.new.self.entries.items c.args.self.now.ranks.blocks c.fill_entry-before.new.self.ranks.blocks c.args.spot c.in-Some.number c.args.present
    c.requires.spot c.in-Some.ensures c.requires.rises c.requires.apart c.fill_entry-before.ensures.there c.fill_entry-before.ensures.others (omega (arith, c.len.ensures.count, c.len.ensures.few)) c.args.self.now.indexes.items c.leave.new.indexes.items c.fill_entry-before.new.self.indexes.items
    c.requires.above c.leave.ensures c.fill_entry-before.ensures.indexes c.enter.new.indexes.items c.enter.ensures c.fill_entry-before.ensures.ranks c.fill_entry-before.ensures.slots

pub returns-in-None-clause-above : goal.returns-in-None-clause-above
returns-in-None-clause-above c = never_none c.args.self.now.ranks.blocks c.args.spot c.requires.spot c.in-None.ensures

pub returns-in-None-clause-before : goal.returns-in-None-clause-before
returns-in-None-clause-before c = λ d. never_none c.args.self.now.ranks.blocks c.args.spot c.requires.spot c.in-None.ensures

pub returns-in-None-clause-slots : goal.returns-in-None-clause-slots
returns-in-None-clause-slots c = λ d key rises found. never_none c.args.self.now.ranks.blocks c.args.spot c.requires.spot c.in-None.ensures
