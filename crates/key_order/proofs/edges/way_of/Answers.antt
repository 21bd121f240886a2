use Rattle.key_order.proofs.Ordered.{as_they_stand, the_other_way}
use Rattle.std.proofs.Common.{refl}
use Rattle.key_order.proofs.OneRow.{nothing_turns}
use Rattle.key_order.proofs.edges.way_of.Goals as goal

pub returns-then-is_empty : goal.returns-then-is_empty
returns-then-is_empty c = nothing_turns c.args.outside.now c.args.definition.now c.args.order.now c.is_empty.result c.is_empty.ensures c.if-is_empty.true

pub returns-then-are_columns : goal.returns-then-are_columns
returns-then-are_columns c =
    λ rows. as_they_stand c.args.outside.now c.args.definition.now c.args.order.now _ _ _ rows c.as_slice.ensures c.as_slice-primary.ensures c.are_columns.ensures c.if-are_columns.true

pub returns-then-are_columns-2 : goal.returns-then-are_columns-2
returns-then-are_columns-2 c =
    λ rows. the_other_way c.args.outside.now c.args.definition.now c.args.order.now _ _ _ rows _ c.as_slice-2.ensures c.as_slice-primary.ensures c.are_columns-2.ensures c.if-are_columns-2.true refl
