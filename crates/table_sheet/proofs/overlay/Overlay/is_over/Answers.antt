use Rattle.row_index.specs.block_list.Spots.{place}
use Rattle.value_ranges.specs.Ranges.{range_of}
use Rattle.table_sheet.proofs.Ranging.{entry_behind, no_entry_behind}
use Rattle.table_sheet.proofs.overlay.Overlay.is_over.Goals as goal

pub returns-in-Some : goal.returns-in-Some
returns-in-Some c = λ out.
    entry_behind c.get-table.result.now c.args.definition.now c.args.self.now (place c.args.self.now.ranks.blocks c.args.at) (range_of c.args.range) c.in-Some.entry.now c.get-bearer.result.now c.row_is_to.result
    c.get-table.ensures c.get-bearer.ensures c.in-Some.ensures c.row_is_to.ensures out

pub returns-in-None : goal.returns-in-None
returns-in-None c = λ out. no_entry_behind c.args.definition.now c.args.self.now (place c.args.self.now.ranks.blocks c.args.at) (range_of c.args.range) c.in-None.ensures
