use Rattle.row_index.specs.block_list.Layouts.{flat}
use Rattle.row_index.specs.row_sheets.Orders.{by_key}
use Rattle.row_index.proofs.of_row_sheets.Orders.{in_order}
use Rattle.table_sheet.specs.Numbered.{row_slot}
use Rattle.table_sheet.proofs.committed.Committed.search.Goals as goal

pub returns-clause-found : goal.returns-clause-found
returns-clause-found g c =
    let slot_at = row_slot c.args.definition.now c.args.self.now.rows.rows in
    c.search.ensures.place (by_key slot_at c.args.key.now) (λ number answer post. post) (in_order slot_at c.args.key.now (flat c.args.self.now.order.blocks) c.requires)
