-- What the walk asks says for which reasons a statement is unsafe, and what it carries.
use Rattle.std.proofs.Common.{◌≡◌, ℕ, Bool, true, false, List, [], ◌∷◌, cond, filter, refl, ap, Bor}
use Rattle.std.specs.List.{list_any}
use Rattle.val_types.specs.declared.ops.Func.{Func}
use Rattle.sql_tree.specs.Statement.{Statement}
use Rattle.sql_tree.specs.declared.expressions.Count.{Count}
use Rattle.session_ctx.specs.catalog_rules.Objects.{Object}
use Rattle.session_ctx.specs.catalog_rules.Nodes.{Node, Sight, a_name, a_column, a_new_column, an_old_column, an_inserted_value, a_user_variable, a_system_variable, a_built_in, a_random_number, a_function_call, a_table_read, a_limit, a_statement, nodes_of}
use Rattle.node_walk.specs.catalog_objects.Keys.{objects_of}
use Rattle.node_walk.specs.catalog_objects.declared.object.Object as code
use Rattle.sql_reach.specs.Carrying.{asks_last_id, draws}
use Rattle.sql_reach.specs.Reasons.{Reason, a_function, a_variable, a_limited, a_counted_select, a_counted_program, two_keys, ignored_select, replaced_select, updated_select, all_reasons, names_unsafe_function, names_server_id, is_limited, inserts_counted, selects_counted, updates_by_two_keys, ignores_select, replaces_select, updates_select, reason_holds, reasons}
use Rattle.node_walk.specs.declared.asking.Ask.TheVariants as asks
use Rattle.node_walk.specs.Asking.{asks_node}
use Rattle.unsafe_rules.specs.declared.unsafety.Reasons.{Reasons}
use Rattle.unsafe_rules.specs.Unsafe.{has_reason, reasons_in}
use Rattle.unsafe_rules.proofs.Elements.{any_same}

-- ---- node by node

by_node : (C : Node → Type 0) → ((sight : Sight) (n : List ℕ) → C (a_name sight n))
    → ((sight : Sight) (t : List ℕ) (c : List ℕ) → C (a_column sight t c))
    → ((c : List ℕ) → C (a_new_column c))
    → ((c : List ℕ) → C (an_old_column c))
    → ((sight : Sight) (c : List ℕ) → C (an_inserted_value sight c))
    → ((n : List ℕ) → C (a_user_variable n))
    → ((n : List ℕ) → C (a_system_variable n))
    → ((f : Func) → C (a_built_in f))
    → C a_random_number
    → ((n : List ℕ) (count : ℕ) → C (a_function_call n count))
    → ((t : List ℕ) → C (a_table_read t))
    → ((c : Count) → C (a_limit c))
    → ((s : Statement) → C (a_statement s))
    → (node : Node) → C node
by_node C on0 on1 on2 on3 on4 on5 on6 on7 on8 on9 on10 on11 on12 (a_name sight n) = on0 sight n
by_node C on0 on1 on2 on3 on4 on5 on6 on7 on8 on9 on10 on11 on12 (a_column sight t c) = on1 sight t c
by_node C on0 on1 on2 on3 on4 on5 on6 on7 on8 on9 on10 on11 on12 (a_new_column c) = on2 c
by_node C on0 on1 on2 on3 on4 on5 on6 on7 on8 on9 on10 on11 on12 (an_old_column c) = on3 c
by_node C on0 on1 on2 on3 on4 on5 on6 on7 on8 on9 on10 on11 on12 (an_inserted_value sight c) = on4 sight c
by_node C on0 on1 on2 on3 on4 on5 on6 on7 on8 on9 on10 on11 on12 (a_user_variable n) = on5 n
by_node C on0 on1 on2 on3 on4 on5 on6 on7 on8 on9 on10 on11 on12 (a_system_variable n) = on6 n
by_node C on0 on1 on2 on3 on4 on5 on6 on7 on8 on9 on10 on11 on12 (a_built_in f) = on7 f
by_node C on0 on1 on2 on3 on4 on5 on6 on7 on8 on9 on10 on11 on12 a_random_number = on8
by_node C on0 on1 on2 on3 on4 on5 on6 on7 on8 on9 on10 on11 on12 (a_function_call n count) = on9 n count
by_node C on0 on1 on2 on3 on4 on5 on6 on7 on8 on9 on10 on11 on12 (a_table_read t) = on10 t
by_node C on0 on1 on2 on3 on4 on5 on6 on7 on8 on9 on10 on11 on12 (a_limit c) = on11 c
by_node C on0 on1 on2 on3 on4 on5 on6 on7 on8 on9 on10 on11 on12 (a_statement s) = on12 s

-- built-ins whose value differs
pub functions_asked : (nodes : List Node) → list_any (asks_node asks.UnsafeFunction) nodes ≡ list_any names_unsafe_function nodes
functions_asked nodes = any_same (asks_node asks.UnsafeFunction) names_unsafe_function nodes (by_node (λ node. asks_node asks.UnsafeFunction node ≡ names_unsafe_function node) (λ sight n. refl) (λ sight t c. refl) (λ c. refl) (λ c. refl) (λ sight c. refl) (λ n. refl) (λ n. refl) (λ f. refl) refl (λ n count. refl) (λ t. refl) (λ c. refl) (λ s. refl))

-- @@server_id
pub server_ids_asked : (nodes : List Node) → list_any (asks_node asks.ServerId) nodes ≡ list_any names_server_id nodes
server_ids_asked nodes = any_same (asks_node asks.ServerId) names_server_id nodes (by_node (λ node. asks_node asks.ServerId node ≡ names_server_id node) (λ sight n. refl) (λ sight t c. refl) (λ c. refl) (λ c. refl) (λ sight c. refl) (λ n. refl) (λ n. refl) (λ f. refl) refl (λ n count. refl) (λ t. refl) (λ c. refl) (λ s. refl))

-- LIMIT
pub limits_asked : (nodes : List Node) → list_any (asks_node asks.Limit) nodes ≡ list_any is_limited nodes
limits_asked nodes = any_same (asks_node asks.Limit) is_limited nodes (by_node (λ node. asks_node asks.Limit node ≡ is_limited node) (λ sight n. refl) (λ sight t c. refl) (λ c. refl) (λ c. refl) (λ sight c. refl) (λ n. refl) (λ n. refl) (λ f. refl) refl (λ n count. refl) (λ t. refl) (λ c. refl) (λ s. refl))

-- rows of a SELECT for a table with AUTO_INCREMENT
pub counted_selects_asked : (objects : Bor (List code.Object)) → (nodes : List Node) → list_any (asks_node (asks.SelectsCounted objects)) nodes ≡ list_any (selects_counted (objects_of objects.now)) nodes
counted_selects_asked objects nodes = any_same (asks_node (asks.SelectsCounted objects)) (selects_counted (objects_of objects.now)) nodes (by_node (λ node. asks_node (asks.SelectsCounted objects) node ≡ (selects_counted (objects_of objects.now)) node) (λ sight n. refl) (λ sight t c. refl) (λ c. refl) (λ c. refl) (λ sight c. refl) (λ n. refl) (λ n. refl) (λ f. refl) refl (λ n count. refl) (λ t. refl) (λ c. refl) (λ s. refl))

-- rows for one
pub counted_inserts_asked : (objects : Bor (List code.Object)) → (nodes : List Node) → list_any (asks_node (asks.InsertsCounted objects)) nodes ≡ list_any (inserts_counted (objects_of objects.now)) nodes
counted_inserts_asked objects nodes = any_same (asks_node (asks.InsertsCounted objects)) (inserts_counted (objects_of objects.now)) nodes (by_node (λ node. asks_node (asks.InsertsCounted objects) node ≡ (inserts_counted (objects_of objects.now)) node) (λ sight n. refl) (λ sight t c. refl) (λ c. refl) (λ c. refl) (λ sight c. refl) (λ n. refl) (λ n. refl) (λ f. refl) refl (λ n count. refl) (λ t. refl) (λ c. refl) (λ s. refl))

-- updates by two keys
pub two_keys_asked : (objects : Bor (List code.Object)) → (nodes : List Node) → list_any (asks_node (asks.TwoKeys objects)) nodes ≡ list_any (updates_by_two_keys (objects_of objects.now)) nodes
two_keys_asked objects nodes = any_same (asks_node (asks.TwoKeys objects)) (updates_by_two_keys (objects_of objects.now)) nodes (by_node (λ node. asks_node (asks.TwoKeys objects) node ≡ (updates_by_two_keys (objects_of objects.now)) node) (λ sight n. refl) (λ sight t c. refl) (λ c. refl) (λ c. refl) (λ sight c. refl) (λ n. refl) (λ n. refl) (λ f. refl) refl (λ n count. refl) (λ t. refl) (λ c. refl) (λ s. refl))

-- INSERT IGNORE, REPLACE and INSERT with ON DUPLICATE KEY UPDATE of a SELECT
pub ignored_asked : (nodes : List Node) → list_any (asks_node asks.IgnoresSelect) nodes ≡ list_any ignores_select nodes
ignored_asked nodes = any_same (asks_node asks.IgnoresSelect) ignores_select nodes (by_node (λ node. asks_node asks.IgnoresSelect node ≡ ignores_select node) (λ sight n. refl) (λ sight t c. refl) (λ c. refl) (λ c. refl) (λ sight c. refl) (λ n. refl) (λ n. refl) (λ f. refl) refl (λ n count. refl) (λ t. refl) (λ c. refl) (λ s. refl))

pub replaced_asked : (nodes : List Node) → list_any (asks_node asks.ReplacesSelect) nodes ≡ list_any replaces_select nodes
replaced_asked nodes = any_same (asks_node asks.ReplacesSelect) replaces_select nodes (by_node (λ node. asks_node asks.ReplacesSelect node ≡ replaces_select node) (λ sight n. refl) (λ sight t c. refl) (λ c. refl) (λ c. refl) (λ sight c. refl) (λ n. refl) (λ n. refl) (λ f. refl) refl (λ n count. refl) (λ t. refl) (λ c. refl) (λ s. refl))

pub updated_asked : (nodes : List Node) → list_any (asks_node asks.UpdatesSelect) nodes ≡ list_any updates_select nodes
updated_asked nodes = any_same (asks_node asks.UpdatesSelect) updates_select nodes (by_node (λ node. asks_node asks.UpdatesSelect node ≡ updates_select node) (λ sight n. refl) (λ sight t c. refl) (λ c. refl) (λ c. refl) (λ sight c. refl) (λ n. refl) (λ n. refl) (λ f. refl) refl (λ n count. refl) (λ t. refl) (λ c. refl) (λ s. refl))

-- LAST_INSERT_ID(), and RAND()
pub last_ids_asked : (nodes : List Node) → list_any (asks_node asks.LastInsertId) nodes ≡ list_any asks_last_id nodes
last_ids_asked nodes = any_same (asks_node asks.LastInsertId) asks_last_id nodes (by_node (λ node. asks_node asks.LastInsertId node ≡ asks_last_id node) (λ sight n. refl) (λ sight t c. refl) (λ c. refl) (λ c. refl) (λ sight c. refl) (λ n. refl) (λ n. refl) (λ f. refl) refl (λ n count. refl) (λ t. refl) (λ c. refl) (λ s. refl))

pub draws_asked : (nodes : List Node) → list_any (asks_node asks.RandomNumber) nodes ≡ list_any draws nodes
draws_asked nodes = any_same (asks_node asks.RandomNumber) draws nodes (by_node (λ node. asks_node asks.RandomNumber node ≡ draws node) (λ sight n. refl) (λ sight t c. refl) (λ c. refl) (λ c. refl) (λ sight c. refl) (λ n. refl) (λ n. refl) (λ f. refl) refl (λ n count. refl) (λ t. refl) (λ c. refl) (λ s. refl))

-- ---- reason by reason

parts_hold : (catalog : List Object) (nodes : List Node) (r : Reasons)
    → r.function ≡ reason_holds catalog nodes a_function → r.variable ≡ reason_holds catalog nodes a_variable → r.limit ≡ reason_holds catalog nodes a_limited
    → r.counted_select ≡ reason_holds catalog nodes a_counted_select → r.counted_program ≡ reason_holds catalog nodes a_counted_program → r.two_keys ≡ reason_holds catalog nodes two_keys
    → r.ignored_select ≡ reason_holds catalog nodes ignored_select → r.replaced_select ≡ reason_holds catalog nodes replaced_select → r.updated_select ≡ reason_holds catalog nodes updated_select
    → (reason : Reason) → has_reason r reason ≡ reason_holds catalog nodes reason
parts_hold catalog nodes r e0 e1 e2 e3 e4 e5 e6 e7 e8 a_function = e0
parts_hold catalog nodes r e0 e1 e2 e3 e4 e5 e6 e7 e8 a_variable = e1
parts_hold catalog nodes r e0 e1 e2 e3 e4 e5 e6 e7 e8 a_limited = e2
parts_hold catalog nodes r e0 e1 e2 e3 e4 e5 e6 e7 e8 a_counted_select = e3
parts_hold catalog nodes r e0 e1 e2 e3 e4 e5 e6 e7 e8 a_counted_program = e4
parts_hold catalog nodes r e0 e1 e2 e3 e4 e5 e6 e7 e8 two_keys = e5
parts_hold catalog nodes r e0 e1 e2 e3 e4 e5 e6 e7 e8 ignored_select = e6
parts_hold catalog nodes r e0 e1 e2 e3 e4 e5 e6 e7 e8 replaced_select = e7
parts_hold catalog nodes r e0 e1 e2 e3 e4 e5 e6 e7 e8 updated_select = e8

kept_same : (b c : Bool) (reason : Reason) (xs ys : List Reason) → b ≡ c → xs ≡ ys → cond b (reason ∷ xs) xs ≡ cond c (reason ∷ ys) ys
kept_same true true reason xs ys e f = ap (λ (l : List Reason). reason ∷ l) f
kept_same true false reason xs ys e f = cc
kept_same false true reason xs ys e f = cc
kept_same false false reason xs ys e f = f

filtered_same : (p q : Reason → Bool) → ((reason : Reason) → p reason ≡ q reason) → (some : List Reason) → filter p some ≡ filter q some
filtered_same p q same [] = refl
filtered_same p q same (reason ∷ some) = kept_same (p reason) (q reason) reason _ _ (same reason) (filtered_same p q same some)

-- where each part holds as its reason does, they are the reasons
pub reasons_are : (catalog : List Object) (s : Statement) (r : Reasons)
    → r.function ≡ reason_holds catalog (nodes_of s) a_function → r.variable ≡ reason_holds catalog (nodes_of s) a_variable → r.limit ≡ reason_holds catalog (nodes_of s) a_limited
    → r.counted_select ≡ reason_holds catalog (nodes_of s) a_counted_select → r.counted_program ≡ reason_holds catalog (nodes_of s) a_counted_program
    → r.two_keys ≡ reason_holds catalog (nodes_of s) two_keys → r.ignored_select ≡ reason_holds catalog (nodes_of s) ignored_select
    → r.replaced_select ≡ reason_holds catalog (nodes_of s) replaced_select → r.updated_select ≡ reason_holds catalog (nodes_of s) updated_select
    → reasons_in r ≡ reasons catalog s
unfolding reasons
reasons_are catalog s r e0 e1 e2 e3 e4 e5 e6 e7 e8 =
    filtered_same (has_reason r) (reason_holds catalog (nodes_of s)) (parts_hold catalog (nodes_of s) r e0 e1 e2 e3 e4 e5 e6 e7 e8) all_reasons
