use Rattle.node_walk.specs.catalog_objects.Keys.{objects_of}
use Rattle.session_ctx.specs.catalog_rules.Nodes.{nodes_of}
use Rattle.sql_tree.specs.StatementView.{view}
use Rattle.unsafe_rules.specs.Places.{places_of}
use Rattle.unsafe_rules.specs.Reaching.{NoneBelow}
use Rattle.unsafe_rules.proofs.reaching.next_reached.Given as goal

-- no object that the loop has passed is reached and was not found
abbrev pub invariant-loop-at : goal.invariant-loop-at
invariant-loop-at l = NoneBelow (objects_of l.objects) (nodes_of (view l.s)) (places_of l.found) l.at
