use Rattle.std.proofs.Common.{rules, ◌≡◌, Some, subst}
use Rattle.val_types.specs.declared.definitions.TableDef.{TableDef}
use Rattle.sql_tree.specs.View.{view_orders}
use Rattle.key_order.specs.Given.{IsWay}
use Rattle.key_order.proofs.OneRow.{edge_so}
use Rattle.key_order.proofs.edges.edge_of.Goals as goal

pub returns : goal.returns
returns c =
    let same : c.get.result.now ≡ c.in_ok-definition.definition = search rules in
    let way = subst (λ (d : TableDef). IsWay c.args.outside.now d (view_orders c.args.order.now) (Some c.in-Some-way_of.down)) same c.in-Some-way_of.ensures in
    λ limit one.
    edge_so (Unit {0}) c.args.outside.now c.args.name.now (view_orders c.args.order.now) limit c.args.tables.now c.in-Some.at c.in_ok-definition.definition c.in-Some-way_of.down
    c.in_ok-rows.rows c.tables_are_kept.ensures (search rules) (search rules) way (c.in_ok-rows.ensures _ (search rules)) one
