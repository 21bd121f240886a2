-- The tables that are named, the LIMITs that are ill, and the checks.
use Rattle.std.proofs.Common.{◌≡◌, ℕ, true, false, ◌||◌, List, [], ◌∷◌, ◌++◌, Option, Some, None, refl, sym, ap, ◌∙◌, Err, Ok}
use Rattle.std.specs.List.{cons_option, list_any}
use Rattle.std.specs.Option.{option_map_or}
use Rattle.std.specs.Borrow.{Bor}
use Rattle.std.proofs.lemmas.List.Folds.{list_any-append}
use Rattle.val_types.specs.declared.refusal.SqlRefusal.TheVariants.{Sql}
use Rattle.sql_tree.specs.Statement.{Statement}
use Rattle.sql_locals.specs.declared.locals.Local.{Local}
use Rattle.catalog_checks.specs.catalog_rules.Names.{is_among, same_name}
use Rattle.catalog_checks.specs.catalog_rules.Nodes.{Node, a_name, a_column, a_new_column, an_old_column, an_inserted_value, a_user_variable, a_system_variable, a_built_in, a_random_number, a_function_call, a_table_read, a_limit, a_statement, nodes_of, table_at}
use Rattle.sql_evaluation.specs.sql_meaning.Frames.{World}
use Rattle.sql_evaluation.specs.sql_meaning.Running.{Body, tables_named, is_ill_limit, checked, body_checked, changes_running, scope_of}
use Rattle.catalog_checks.specs.catalog_rules.Checks.{statement_refusal}
use Rattle.sql_evaluation.specs.Seen.{Anywhere}
use Rattle.node_walk.specs.declared.asking.Ask.TheVariants.{IllLimit, Table}
use Rattle.node_walk.specs.Asking.{asks_node}

-- ---- tables

-- a table that may be there, in front of others
first_named : (name : List ℕ) (o : Option (List ℕ)) (rest : List (List ℕ)) → is_among (cons_option o rest) name ≡ (option_map_or (same_name name) o false || is_among rest name)
first_named name None rest = refl
first_named name (Some t) rest = refl

asks_its_table : (name : Bor (List ℕ)) (node : Node) → asks_node (Table name) node ≡ option_map_or (same_name name.now) (table_at node) false
asks_its_table name (a_name sight n) = refl
asks_its_table name (a_column sight t c) = refl
asks_its_table name (a_new_column c) = refl
asks_its_table name (an_old_column c) = refl
asks_its_table name (an_inserted_value sight c) = refl
asks_its_table name (a_user_variable n) = refl
asks_its_table name (a_system_variable n) = refl
asks_its_table name (a_built_in f) = refl
asks_its_table name a_random_number = refl
asks_its_table name (a_function_call n count) = refl
asks_its_table name (a_table_read t) = refl
asks_its_table name (a_limit c) = refl
asks_its_table name (a_statement s) = refl

pub named_there : (name : Bor (List ℕ)) (ns : List Node) → list_any (asks_node (Table name)) ns ≡ is_among (tables_named ns) name.now
named_there name [] = refl
named_there name (node ∷ ns) =
    ap (λ b. b || list_any (asks_node (Table name)) ns) (asks_its_table name node)
    ∙ ap (λ b. option_map_or (same_name name.now) (table_at node) false || b) (named_there name ns)
    ∙ sym (first_named name.now (table_at node) (tables_named ns))

pub joined_names : (xs ys : List (List ℕ)) (name : List ℕ) → is_among (xs ++ ys) name ≡ (is_among xs name || is_among ys name)
joined_names xs ys name = list_any-append (same_name name) xs ys

-- ---- LIMITs

asks_ill : (locals : Bor (List Local)) (node : Node) → asks_node (IllLimit locals) node ≡ is_ill_limit locals.now node
asks_ill locals (a_name sight n) = refl
asks_ill locals (a_column sight t c) = refl
asks_ill locals (a_new_column c) = refl
asks_ill locals (an_old_column c) = refl
asks_ill locals (an_inserted_value sight c) = refl
asks_ill locals (a_user_variable n) = refl
asks_ill locals (a_system_variable n) = refl
asks_ill locals (a_built_in f) = refl
asks_ill locals a_random_number = refl
asks_ill locals (a_function_call n count) = refl
asks_ill locals (a_table_read t) = refl
asks_ill locals (a_limit c) = refl
asks_ill locals (a_statement s) = refl

pub limited_there : (locals : Bor (List Local)) (ns : List Node) → list_any (asks_node (IllLimit locals)) ns ≡ list_any (is_ill_limit locals.now) ns
limited_there locals [] = refl
limited_there locals (node ∷ ns) =
    ap (λ b. b || list_any (asks_node (IllLimit locals)) ns) (asks_ill locals node) ∙ ap (λ b. is_ill_limit locals.now node || b) (limited_there locals ns)

-- ---- the checks of a step

pub refused : (refusal : Option ℕ) (locals : List Local) (ns : List Node) (code : ℕ) → refusal ≡ Some code → Anywhere (Err (Sql code)) (checked refusal locals ns)
refused refusal locals ns code e = record { ends = λ scene. rw e refl }

pub limit_refused : (refusal : Option ℕ) (locals : List Local) (ns : List Node) → refusal ≡ None → list_any (is_ill_limit locals) ns ≡ true → Anywhere (Err (Sql 30002)) (checked refusal locals ns)
limit_refused refusal locals ns e ill = record { ends = λ scene. rw (e, ill) refl }

pub let_pass : (refusal : Option ℕ) (locals : List Local) (ns : List Node) → refusal ≡ None → list_any (is_ill_limit locals) ns ≡ false → Anywhere (Ok tt) (checked refusal locals ns)
let_pass refusal locals ns e well = record { ends = λ scene. rw (e, well) refl }

pub statement_refused : (world : World) (body : Body) (s : Statement) (code : ℕ) → statement_refusal world.setting.catalog (scope_of body) s ≡ Some code → Anywhere (Err (Sql code)) (body_checked world body s)
statement_refused world body s code e = record { ends = λ scene. rw e refl }

pub statement_ill : (world : World) (body : Body) (s : Statement) → statement_refusal world.setting.catalog (scope_of body) s ≡ None
    → list_any (is_ill_limit body.locals) (nodes_of s) ≡ true → Anywhere (Err (Sql 30002)) (body_checked world body s)
statement_ill world body s e ill = record { ends = λ scene. rw (e, ill) refl }

pub statement_in_use : (world : World) (body : Body) (s : Statement) → statement_refusal world.setting.catalog (scope_of body) s ≡ None
    → list_any (is_ill_limit body.locals) (nodes_of s) ≡ false → changes_running world s ≡ true → Anywhere (Err (Sql 1442)) (body_checked world body s)
statement_in_use world body s e well used = record { ends = λ scene. rw (e, well, used) refl }

pub statement_passes : (world : World) (body : Body) (s : Statement) → statement_refusal world.setting.catalog (scope_of body) s ≡ None
    → list_any (is_ill_limit body.locals) (nodes_of s) ≡ false → changes_running world s ≡ false → Anywhere (Ok tt) (body_checked world body s)
statement_passes world body s e well free = record { ends = λ scene. rw (e, well, free) refl }

pub ruleset checks = (refused, limit_refused, let_pass, statement_refused, statement_ill, statement_in_use, statement_passes)
