use Rattle.key_order.proofs.OneRow.{edge_as}
use Rattle.key_order.proofs.edges.row_at_edge.Goals as goal

pub returns-then-is_one : goal.returns-then-is_one
returns-then-is_one c =
    edge_as c.args.outside.now c.args.from.now c.args.tables.now.tables c.edge_of.result c.in-None.is (c.edge_of.ensures _ (c.is_one.ensures c.if-is_one.true))
