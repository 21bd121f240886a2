use Rattle.block_list.specs.Layouts.{flat}
use Rattle.row_sheets.specs.Orders.{by_key}
use Rattle.row_sheets.proofs.Orders.{in_order}
use Rattle.row_index.specs.Numbers.{number_slot}
use Rattle.row_index.proofs.numbers.spot_in.Goals as goal

pub returns-clause-found : goal.returns-clause-found
returns-clause-found g c =
    let slot_at = number_slot c.args.key.now (g.R.RowsByNumber.row_of c.args.rows.now) in
    c.search.ensures.place (by_key slot_at c.args.values.now) (λ number answer post. post) (in_order slot_at c.args.values.now (flat c.args.numbers.now.blocks) c.requires)
