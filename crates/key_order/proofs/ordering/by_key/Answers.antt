use Rattle.key_order.proofs.Ordered.{as_they_stand, the_other_way}
use Rattle.key_order.proofs.ordering.by_key.Goals as goal

pub returns-then-are_columns : goal.returns-then-are_columns
returns-then-are_columns c =
    as_they_stand c.args.outside.now c.args.definition.now c.args.order.now _ _ _ c.args.rows c.as_slice.ensures c.as_slice-primary.ensures c.are_columns.ensures c.if-are_columns.true

pub returns-then-are_columns-2 : goal.returns-then-are_columns-2
returns-then-are_columns-2 c =
    the_other_way c.args.outside.now c.args.definition.now c.args.order.now _ _ _ c.args.rows c.turned.result c.as_slice-2.ensures c.as_slice-primary.ensures c.are_columns-2.ensures c.if-are_columns-2.true
    c.turned.ensures
