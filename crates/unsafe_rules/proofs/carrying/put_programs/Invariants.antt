use Rattle.std.proofs.Common.{◌≡◌, drop, flat_map}
use Rattle.node_walk.specs.catalog_objects.Keys.{objects_of}
use Rattle.sql_reach.specs.Reach.{body_nodes}
use Rattle.statement_names.specs.Naming.{nodes_put}
use Rattle.unsafe_rules.specs.Places.{places_of}
use Rattle.unsafe_rules.specs.Reaching.{at_places}
use Rattle.unsafe_rules.proofs.carrying.put_programs.Given as goal

abbrev pub invariant-loop-at : goal.invariant-loop-at
invariant-loop-at l =
    nodes_put (flat_map body_nodes (at_places (places_of l.found) l.at (objects_of (drop l.at l.objects)))) l.names
    ≡ nodes_put (flat_map body_nodes (at_places (places_of l.found) 0 (objects_of l.objects))) l.fn.names
