use Rattle.row_index.specs.block_list.Layouts.{flat}
use Rattle.val_types.specs.Keys.{primary_key}
use Rattle.row_index.specs.row_sheets.Orders.{by_key}
use Rattle.row_index.proofs.of_row_sheets.Orders.{in_order}
use Rattle.table_sheet.specs.Ranked.{entry_slot}
use Rattle.table_sheet.proofs.overlay.Overlay.search_row.Goals as goal

pub returns-clause-found : goal.returns-clause-found
returns-clause-found g c =
    let slot_at = entry_slot c.args.definition.now c.args.self.now.entries.items in
    c.search.ensures.place (by_key slot_at (primary_key c.args.definition.now c.args.row.now)) (λ number answer post. post) (in_order slot_at (primary_key c.args.definition.now c.args.row.now) (flat c.args.self.now.ranks.blocks) c.requires)
