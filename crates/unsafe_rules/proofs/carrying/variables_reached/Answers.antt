use Rattle.std.proofs.Common.{◌≡◌, rules}
use Rattle.std.specs.Prelude.{filter_map}
use Rattle.node_walk.specs.catalog_objects.Keys.{objects_of}
use Rattle.session_ctx.specs.catalog_rules.Nodes.{nodes_of}
use Rattle.sql_reach.specs.Carrying.{in_byte_order, user_variable_at}
use Rattle.sql_reach.specs.Reach.{reached_nodes}
use Rattle.sql_tree.specs.StatementView.{view}
use Rattle.unsafe_rules.specs.Places.{places_of}
use Rattle.unsafe_rules.proofs.Valued.{names_reached}
use Rattle.unsafe_rules.proofs.carrying.variables_reached.Goals as goal

pub returns : goal.returns
returns c =
    let law = names_reached c.names_are_in_byte_order.ensures (objects_of c.args.objects.now) (nodes_of (view c.args.s.now)) (places_of c.args.found.now) c.requires in
    let names : c.put_programs.new.names ≡ in_byte_order (filter_map user_variable_at (reached_nodes (objects_of c.args.objects.now) (nodes_of (view c.args.s.now)))) = search (rules, law) in
    search (rules, names)
