use Rattle.sql_tree.specs.Statement.{delete_rows}
use Rattle.sql_reach.specs.Closing.{closed}
use Rattle.name_const.proofs.statements.close_delete.Goals as goal

pub returns : goal.returns
unfolding closed
returns c =
    let table = c.in_ok-duplicate.ensures in
    let filter = c.in_ok-close_option.ensures in
    let order = c.in_ok-close_order.ensures in
    let limit = c.in_ok-close_count_if.ensures in
    λ i. delete_rows (table i) (filter i) (order i) (limit i)
