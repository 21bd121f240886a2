-- Whole statements with locals closed in, with the checks of what is running round them.
use Rattle.std.proofs.Common.{◌≡◌, ℕ, List, [], ◌∷◌, ◌++◌, Bool, true, false, Option, Some, None, refl, sym, ◌∙◌, cond, arith}
use Rattle.std.specs.Prelude.{flat_map, filter_map, nat_le, length, Result, Ok, Err}
use Rattle.std.specs.List.{cons_option}
use Rattle.std.proofs.lemmas.Bool.{leb-true, le-leb}
use Rattle.val_types.specs.declared.value.Value.TheVariants.{Null, Int, Text}
use Rattle.val_types.specs.Errors.{too_long_for_column}
use Rattle.sql_tree.specs.Statement.{Statement, create_table, create_function, create_procedure, create_trigger, drop_table, drop_function, drop_procedure, drop_trigger, truncate, insert_into, replace_into, update_rows, delete_rows, select, evaluate, set_all, call_procedure, begin, commit, rollback, savepoint, rollback_to, release_savepoint, block, if_steps, while_steps, return_value}
use Rattle.sql_tree.specs.declared.statements.SqlType.TheVariants as types
use Rattle.sql_locals.specs.declared.locals.Local.{Local}
use Rattle.sql_locals.specs.Locals.{find_local}
use Rattle.sql_reach.specs.catalog_rules.Nodes.{Sight, no_sight, Node, a_name, nodes_of, nodes_of_tree, nodes_of_trees, table_at, table_changed}
use Rattle.sql_reach.specs.sql_meaning.Scenes.{undone}
use Rattle.sql_reach.specs.sql_meaning.Frames.{Context, Setting, World, only_locals}
use Rattle.sql_reach.specs.sql_meaning.Values.{values}
use Rattle.sql_reach.specs.sql_meaning.Running.{tables_named, level_of, forced_for, effect, evaluation, perform}
use Rattle.sql_reach.specs.Closing.{statement_mapped, trees_mapped, const_if, closed_name, closed_count, closed}
use Rattle.name_const_laws.specs.Laws.{FittedIsShort, ClosedDoesTheSame, ClosedGivesTheSame}
use Rattle.name_const_laws.proofs.Asking.{Alike, trees_asked, statement_asked}
use Rattle.name_const_laws.proofs.Values.{values_closed}
use Rattle.name_const_laws.proofs.Changes.{perform_closed}

-- ---- the tables that are named

-- what is there, as a list
abbrev pub listed : {A : Type 0} → Option A → List A
listed None = []
listed (Some a) = a ∷ []

one_listed : {A B : Type 0} (f : A → Option B) (o : Option B) (rest rest' : List B) → rest ≡ rest' → cons_option o rest ≡ listed o ++ rest'
one_listed f None rest rest' e = e
one_listed f (Some b) rest rest' e = λ i. b ∷ e i

pub all_listed : {A B : Type 0} (f : A → Option B) (as' : List A) → filter_map f as' ≡ flat_map (λ a. listed (f a)) as'
all_listed f [] = refl
all_listed f (a ∷ as') = one_listed f (f a) (filter_map f as') (flat_map (λ x. listed (f x)) as') (all_listed f as')

abbrev table_asked : Node → List (List ℕ)
table_asked node = listed (table_at node)

const_names_none : (n : List ℕ) (sight : Sight) (o : Option Local) → Alike table_asked table_asked (nodes_of_tree (const_if n o) sight) (a_name sight n ∷ [])
const_names_none n sight None = record { same = refl }
const_names_none n sight (Some l) = record { same = refl }

name_names_none : (locals : List Local) (n : List ℕ) (sight : Sight) → Alike table_asked table_asked (nodes_of_tree (closed_name locals n) sight) (a_name sight n ∷ [])
name_names_none locals n sight = const_names_none n sight (find_local locals n)

same_tables : (a b : List Node) → Alike table_asked table_asked a b → tables_named a ≡ tables_named b
same_tables a b h = all_listed table_at a ∙ h.same ∙ sym (all_listed table_at b)

-- ---- what does not change with closing

table_asked_still : (named : _) (counted : _) (s : Statement) → table_changed (statement_mapped named counted s) ≡ table_changed s
table_asked_still named counted (insert_into ignore t cs from us) = refl
table_asked_still named counted (replace_into t cs from) = refl
table_asked_still named counted (update_rows t ss w os l) = refl
table_asked_still named counted (delete_rows t w os l) = refl
table_asked_still named counted (select q) = refl
table_asked_still named counted (evaluate ts) = refl
table_asked_still named counted (create_table t) = refl
table_asked_still named counted (create_function p) = refl
table_asked_still named counted (create_procedure p) = refl
table_asked_still named counted (create_trigger t) = refl
table_asked_still named counted (drop_table n) = refl
table_asked_still named counted (drop_function n) = refl
table_asked_still named counted (drop_procedure n) = refl
table_asked_still named counted (drop_trigger n) = refl
table_asked_still named counted (truncate n) = refl
table_asked_still named counted (set_all as') = refl
table_asked_still named counted (call_procedure n ts) = refl
table_asked_still named counted begin = refl
table_asked_still named counted commit = refl
table_asked_still named counted rollback = refl
table_asked_still named counted (savepoint n) = refl
table_asked_still named counted (rollback_to n) = refl
table_asked_still named counted (release_savepoint n) = refl
table_asked_still named counted (block ds ss) = refl
table_asked_still named counted (if_steps bs o) = refl
table_asked_still named counted (while_steps c ss) = refl
table_asked_still named counted (return_value t) = refl

forced_still : (named : _) (counted : _) (context : Context) (s : Statement) → forced_for context (statement_mapped named counted s) ≡ forced_for context s
forced_still named counted context (insert_into ignore t cs from us) = refl
forced_still named counted context (replace_into t cs from) = refl
forced_still named counted context (update_rows t ss w os l) = refl
forced_still named counted context (delete_rows t w os l) = refl
forced_still named counted context (select q) = refl
forced_still named counted context (evaluate ts) = refl
forced_still named counted context (create_table t) = refl
forced_still named counted context (create_function p) = refl
forced_still named counted context (create_procedure p) = refl
forced_still named counted context (create_trigger t) = refl
forced_still named counted context (drop_table n) = refl
forced_still named counted context (drop_function n) = refl
forced_still named counted context (drop_procedure n) = refl
forced_still named counted context (drop_trigger n) = refl
forced_still named counted context (truncate n) = refl
forced_still named counted context (set_all as') = refl
forced_still named counted context (call_procedure n ts) = refl
forced_still named counted context begin = refl
forced_still named counted context commit = refl
forced_still named counted context rollback = refl
forced_still named counted context (savepoint n) = refl
forced_still named counted context (rollback_to n) = refl
forced_still named counted context (release_savepoint n) = refl
forced_still named counted context (block ds ss) = refl
forced_still named counted context (if_steps bs o) = refl
forced_still named counted context (while_steps c ss) = refl
forced_still named counted context (return_value t) = refl

-- ---- the laws

-- a session in which a statement that names some tables runs
abbrev in_session : Setting → ℕ → List (List ℕ) → World
in_session setting nesting tables = record { setting = setting; below = level_of setting nesting; running = record { tables = tables; functions = [] } }

pub does_the_same : ClosedDoesTheSame
unfolding effect closed
does_the_same setting nesting locals s scene short =
    let after = statement_mapped (closed_name locals) (closed_count locals) s in
    let tables = same_tables (nodes_of after) (nodes_of s) (statement_asked table_asked table_asked (closed_name locals) (closed_count locals) (λ x e. refl) (name_names_none locals) (λ c. refl) s (λ i. listed (table_asked_still (closed_name locals) (closed_count locals) s i)) (λ e. record { same = refl })) in
    let forced = forced_still (closed_name locals) (closed_count locals) setting.context s in
    (λ i. undone (perform (in_session setting nesting (tables i)) (only_locals []) (forced i) after) scene)
    ∙ (λ i. undone (perform_closed locals short (in_session setting nesting (tables_named (nodes_of s))) (forced_for setting.context s) s i) scene)

pub gives_the_same : ClosedGivesTheSame
unfolding evaluation
gives_the_same setting nesting locals ts scene short =
    let after = trees_mapped (closed_name locals) (closed_count locals) ts in
    let tables = same_tables (nodes_of_trees after no_sight) (nodes_of_trees ts no_sight) (trees_asked table_asked table_asked (closed_name locals) (closed_count locals) (λ x e. refl) (name_names_none locals) (λ c. refl) ts no_sight) in
    (λ i. undone (values (in_session setting nesting (tables i)) (only_locals []) after) scene)
    ∙ (λ i. undone (values_closed locals short (in_session setting nesting (tables_named (nodes_of_trees ts no_sight))) (only_locals locals) ts i) scene)

-- ---- short values

abbrev fit : Result (Unit {0}) ℕ
fit = Ok tt

short_within : (most n : ℕ) → nat_le most 65535 ≡ true → nat_le n most ≡ true → nat_le n 65535 ≡ true
short_within most n e f = le-leb n 65535 (omega (arith, leb-true most 65535 e, leb-true n most f))

fits_within : (b : Bool) → cond b fit (Err too_long_for_column) ≡ fit → b ≡ true
fits_within true e = refl
fits_within false e = cc

pub fitted_short : FittedIsShort
fitted_short kind Null size e = refl
fitted_short kind (Int n) size e = refl
fitted_short types.Int (Text t) size e = cc
fitted_short types.BigInt (Text t) size e = cc
fitted_short (types.Varchar most) (Text t) size e = short_within most (length t) size (fits_within (nat_le (length t) most) e)
