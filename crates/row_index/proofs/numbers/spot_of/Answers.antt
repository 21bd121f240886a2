use Rattle.val_types.specs.Keys.{values_at}
use Rattle.block_list.specs.Layouts.{flat}
use Rattle.row_sheets.specs.Orders.{by_key}
use Rattle.row_sheets.proofs.Orders.{in_order}
use Rattle.row_index.specs.Numbers.{number_slot}
use Rattle.row_index.proofs.numbers.spot_of.Goals as goal

pub returns-clause-found : goal.returns-clause-found
returns-clause-found g c =
    let slot_at = number_slot c.args.key.now (g.R.RowsByNumber.row_of c.args.rows.now) in
    let values = values_at c.args.key.now.columns c.args.row.now in
    c.find.ensures.place (by_key slot_at values) (λ number answer post. post) (in_order slot_at values (flat c.args.numbers.now.blocks) c.requires)
