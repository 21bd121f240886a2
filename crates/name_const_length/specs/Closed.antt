-- The parts of a statement with locals closed in.
use Rattle.std.specs.Prelude.{ℕ, List, map, Option}
use Rattle.std.specs.Option.{option_map}
use Rattle.sql_tree.specs.Tree.{Tree, Trees, Arms, Part, Query, Selected, Aggregates, Origin, Orders}
use Rattle.sql_tree.specs.Statement.{Supply}
use Rattle.sql_tree.specs.declared.expressions.Count.{Count}
use Rattle.sql_tree.specs.declared.expressions.Limit.{Limit}
use Rattle.sql_locals.specs.declared.locals.Local.{Local}
use Rattle.sql_reach.specs.Closing.{closed_name, closed_count, limit_mapped, tree_mapped, trees_mapped, arms_mapped, part_mapped, query_mapped, selected_mapped, aggregates_mapped, origin_mapped, orders_mapped, set_mapped, supply_mapped}

module _ (locals : List Local) where
  abbrev pub closed_tree : Tree → Tree
  closed_tree t = tree_mapped (closed_name locals) (closed_count locals) t

  abbrev pub closed_trees : Trees → Trees
  closed_trees ts = trees_mapped (closed_name locals) (closed_count locals) ts

  abbrev pub closed_arms : Arms → Arms
  closed_arms arms = arms_mapped (closed_name locals) (closed_count locals) arms

  abbrev pub closed_part : Part → Part
  closed_part o = part_mapped (closed_name locals) (closed_count locals) o

  abbrev pub closed_query : Query → Query
  closed_query q = query_mapped (closed_name locals) (closed_count locals) q

  abbrev pub closed_selected : Selected → Selected
  closed_selected w = selected_mapped (closed_name locals) (closed_count locals) w

  abbrev pub closed_aggregates : Aggregates → Aggregates
  closed_aggregates rest = aggregates_mapped (closed_name locals) (closed_count locals) rest

  abbrev pub closed_origin : Origin → Origin
  closed_origin o = origin_mapped (closed_name locals) (closed_count locals) o

  abbrev pub closed_orders : Orders → Orders
  closed_orders os = orders_mapped (closed_name locals) (closed_count locals) os

  abbrev pub closed_limit : Option Limit → Option Limit
  closed_limit l = option_map (limit_mapped (closed_name locals) (closed_count locals)) l

  abbrev pub closed_count_if : Option Count → Option Count
  closed_count_if c = option_map (closed_count locals) c

  abbrev pub closed_set : List ℕ × Tree → List ℕ × Tree
  closed_set s = set_mapped (closed_name locals) (closed_count locals) s

  abbrev pub closed_sets : List (List ℕ × Tree) → List (List ℕ × Tree)
  closed_sets ss = map closed_set ss

  abbrev pub closed_rows : List Trees → List Trees
  closed_rows rs = map closed_trees rs

  abbrev pub closed_supply : Supply → Supply
  closed_supply from = supply_mapped (closed_name locals) (closed_count locals) from
