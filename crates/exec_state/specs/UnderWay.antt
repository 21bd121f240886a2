-- What is under way, as the definitions have it: the tables that are named, and the functions.
use Rattle.std.specs.Prelude.{[], ◌∷◌, ◌++◌}
use Rattle.sql_tree.specs.View.{view_tree, view_trees}
use Rattle.sql_tree.specs.StatementView.{view}
use Rattle.sql_meaning.specs.catalog_rules.Nodes.{no_sight, nodes_of, nodes_of_tree, nodes_of_trees}
use Rattle.sql_meaning.specs.Frames.{Running}
use Rattle.sql_meaning.specs.Running.{tables_named}
use Rattle.exec_state.specs.declared.running.Running.{Running as Chain, fold-Running}
use Rattle.exec_state.specs.declared.running.Running.TheOpen.{Running-F}

abbrev under_step : Running-F Running → Running
under_step Running-F.Nothing = record { tables = []; functions = [] }
under_step (Running-F.Statement s outer) = record { tables = tables_named (nodes_of (view s.now)) ++ outer.now.tables; functions = outer.now.functions }
under_step (Running-F.Tables names outer) = record { tables = names.now ++ outer.now.tables; functions = outer.now.functions }
under_step (Running-F.Expressions es outer) =
    record { tables = tables_named (nodes_of_trees (view_trees es.now) no_sight) ++ outer.now.tables; functions = outer.now.functions }
under_step (Running-F.Expression e outer) =
    record { tables = tables_named (nodes_of_tree (view_tree e.now) no_sight) ++ outer.now.tables; functions = outer.now.functions }
under_step (Running-F.Function name outer) = record { tables = outer.now.tables; functions = name.now ∷ outer.now.functions }

abbrev pub under_way : Chain → Running
under_way = fold-Running Running under_step
