-- What is under way where a statement or some expressions run by themselves.
use Rattle.std.proofs.Common.{◌≡◌, ℕ, List, [], ◌++◌, ap, ◌∙◌, rules}
use Rattle.std.specs.Borrow.{Bor}
use Rattle.std.proofs.lemmas.List.{append-nil}
use Rattle.val_types.specs.declared.list.List.{List as Items}
use Rattle.sql_tree.specs.View.{view_trees}
use Rattle.sql_tree.specs.declared.expressions.Expr.{Expr}
use Rattle.statement_names.specs.catalog_rules.Nodes.{nodes_of_trees, no_sight}
use Rattle.statement_names.specs.sql_meaning.Frames.{Running}
use Rattle.statement_names.specs.sql_meaning.Running.{tables_named}
use Rattle.exec_state.specs.declared.running.Running.{Running as Chain, Tables, Expressions, the_lemmas}
use Rattle.exec_state.specs.UnderWay.{under_way}

abbrev pub nothing_running : Running
nothing_running = record { tables = []; functions = [] }

abbrev over : List (List ℕ) → Running → Running
over tables outer = record { tables = tables ++ outer.tables; functions = outer.functions }

abbrev alone : List (List ℕ) → Running
alone tables = record { tables = tables; functions = [] }

behind : (tables : List (List ℕ)) (outer : Running) → outer ≡ nothing_running → over tables outer ≡ alone tables
behind tables outer e = ap (over tables) e ∙ ap alone (append-nil tables)

pub tables_alone : (names : Bor (Items (Items ℕ))) (outer : Bor Chain) → under_way outer.now ≡ nothing_running
    → under_way (Tables names outer) ≡ record { tables = names.now; functions = [] }
tables_alone names outer e =
    let is : under_way (Tables names outer) ≡ record { tables = names.now ++ (under_way outer.now).tables; functions = (under_way outer.now).functions } = search (rules, the_lemmas) in
    is ∙ behind names.now (under_way outer.now) e

pub expressions_alone : (es : Bor (Items Expr)) (outer : Bor Chain) → under_way outer.now ≡ nothing_running
    → under_way (Expressions es outer) ≡ record { tables = tables_named (nodes_of_trees (view_trees es.now) no_sight); functions = [] }
expressions_alone es outer e =
    let is : under_way (Expressions es outer) ≡ record { tables = tables_named (nodes_of_trees (view_trees es.now) no_sight) ++ (under_way outer.now).tables; functions = (under_way outer.now).functions } = search (rules, the_lemmas) in
    is ∙ behind (tables_named (nodes_of_trees (view_trees es.now) no_sight)) (under_way outer.now) e
