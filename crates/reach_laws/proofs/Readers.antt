-- A statement that does not write changes nothing.
use Rattle.std.proofs.Common.{◌≡◌, ℕ, inl, inr, true, false, ◌||◌, List, [], ◌∷◌, flat_map, Option, Some, None, ℤ, refl}
use Rattle.std.specs.Prelude.{unwrap_or}
use Rattle.std.specs.List.{AllByRecursion, list_any}
use Rattle.std.proofs.lemmas.Bool.{or_parts}
use Rattle.val_types.specs.declared.ops.Func.{Func}
use Rattle.val_types.specs.declared.ops.Func0.{Func0}
use Rattle.auto_inc.specs.Counting.{value_for}
use Rattle.table_rules.specs.Tables.{Table}
use Rattle.table_rules.specs.Stored.{table_named}
use Rattle.sql_tree.specs.Statement.{Statement, create_table, create_function, create_procedure, create_trigger, drop_table, drop_function, drop_procedure, drop_trigger, truncate, insert_into, replace_into, update_rows, delete_rows, select, evaluate, set_all, call_procedure, begin, commit, rollback, savepoint, rollback_to, release_savepoint, block, if_steps, while_steps, return_value}
use Rattle.sql_tree.specs.declared.statements.Cause.{Cause}
use Rattle.sql_reach.specs.catalog_rules.Objects.{function, body_of}
use Rattle.sql_reach.specs.catalog_rules.Nodes.{Node, a_name, a_column, a_new_column, an_old_column, an_inserted_value, a_user_variable, a_system_variable, a_built_in, a_random_number, a_function_call, a_table_read, a_limit, a_statement, no_sight, nodes_of, nodes_of_trees}
use Rattle.sql_reach.specs.sql_meaning.Scenes.{Scene, Ending, done, failed, Action, then_do, needed, undone_from, undone}
use Rattle.sql_reach.specs.sql_meaning.Frames.{Setting, only_locals}
use Rattle.sql_reach.specs.sql_meaning.Values.{values}
use Rattle.sql_reach.specs.sql_meaning.Running.{perform, level_of, world_of, forced_for, tables_named, effect, evaluation}
use Rattle.sql_reach.specs.sql_meaning.Leading.{scene_after, StaysAsItWas}
use Rattle.sql_reach.proofs.of_sql_meaning.Steps.{IsMoved, staying, bind_moved, pure_moved, fail_moved, table_moved, raise_moved, draw_moved, uuid_moved, spend_moved}
use Rattle.sql_reach.specs.Reach.{is_change, is_definition, holds_change, is_writing_function, causes_event, body_nodes, reached_programs, reached_nodes, writes}
use Rattle.reach_laws.specs.Members.{In}
use Rattle.reach_laws.specs.Agreeing.{SameOfSession, SameFunction, SameAt}
use Rattle.reach_laws.specs.Laws.{ReadersChangeNothing, ReadingChangesNothing}
use Rattle.reach_laws.proofs.Members.{in_front, none_in, all_in, clash}
use Rattle.reach_laws.proofs.Found.{calls_reached, bodies_reached}
use Rattle.reach_laws.proofs.Like.{IsLikeness}
use Rattle.reach_laws.proofs.Reaching.{expressions_of, Decided, IsReach}
use Rattle.reach_laws.proofs.Expressions.{IsNoStatement, expressions_plain, expressions_in}
use Rattle.reach_laws.proofs.Exact.{HasName, named_so}
use Rattle.reach_laws.proofs.LikeValues.{values_like}
use Rattle.reach_laws.proofs.LikeBodies.{statement_like, level_like}

-- ---- the first of two actions leaves tables and changes as they were

abbrev Stays : (A : Type 0) → Action A → Action A → Type 0
Stays A m m' = IsMoved StaysAsItWas m

found_still : {A : Type 0} (name : List ℕ) (f f' : Table → Action A) → ((t : Table) → HasName name t.definition → Stays A (f t) (f' t)) → (scene : Scene) (o : Option Table) → table_named name scene.tables ≡ o
    → StaysAsItWas scene (scene_after (then_do (needed 1146 o scene) f))
found_still name f f' still scene None e = record { tables = refl; changes = refl }
found_still name f f' still scene (Some t) e = (still t (named_so name scene.tables t e)).moves scene

still_law : IsLikeness Stays (Unit {0}) (Unit {0}) ⊥ HasName
still_law = record {
  bind = λ m m' f f' first rest. bind_moved staying m f first rest;
  value = λ x. pure_moved staying x;
  error = λ A code. fail_moved staying A code;
  change = λ never code change. absurd never;
  table = λ name. table_moved staying name;
  found = λ name f f' still. record { moves = λ scene. found_still name f f' still scene (table_named name scene.tables) refl };
  named = λ name d e. e;
  counter = λ name f f' still. record { moves = λ scene. (still (unwrap_or (value_for name scene.counters) 1) (unwrap_or (value_for name scene.counters) 1) (λ u. refl)).moves scene };
  raised = λ name v. raise_moved staying name v;
  drawn = λ u. draw_moved staying;
  uuid = λ u first. uuid_moved staying first;
  spent = spend_moved staying;
  left = λ f f' still. record { moves = λ scene. (still scene.turns).moves scene };
}

-- an error takes back nothing where nothing was changed
still_from : {A : Type 0} (before : Scene) (e : Ending A) → StaysAsItWas before (scene_after e) → StaysAsItWas before (scene_after (undone_from before e))
still_from before (done a scene) p = p
still_from before (failed code scene) p = record { tables = refl; changes = refl }

undone_still : {A : Type 0} (m : Action A) → IsMoved StaysAsItWas m → (scene : Scene) → StaysAsItWas scene (scene_after (undone m scene))
undone_still m still scene = still_from scene (m scene) (still.moves scene)

-- ---- a setting is the same as itself

session_self : (setting : Setting) (f : Func0) → SameOfSession setting setting f
session_self setting Func0.Now = refl
session_self setting f = refl

function_self : (setting : Setting) (f : Func) → SameFunction setting setting f
function_self setting (Func.Zero f) = session_self setting f
function_self setting (Func.One f) = tt
function_self setting (Func.Two f) = tt
function_self setting (Func.Three f) = tt
function_self setting (Func.Many f) = tt

node_self : (setting : Setting) (node : Node) → SameAt setting setting node
node_self setting (a_name sight n) = tt
node_self setting (a_column sight t c) = tt
node_self setting (a_new_column c) = tt
node_self setting (an_old_column c) = tt
node_self setting (an_inserted_value sight c) = tt
node_self setting (a_user_variable n) = refl
node_self setting (a_system_variable n) = refl
node_self setting (a_built_in f) = function_self setting f
node_self setting a_random_number = tt
node_self setting (a_function_call n count) = tt
node_self setting (a_table_read t) = tt
node_self setting (a_limit c) = tt
node_self setting (a_statement s) = tt

-- ---- changes

-- what causes an event is a change
causing : (on : List ℕ) (event : Cause) (s : Statement) → causes_event on event s ≡ true → is_change s ≡ true
causing on event (insert_into ignore t names supply sets) e = refl
causing on event (replace_into t names supply) e = refl
causing on event (update_rows t sets condition os limit) e = refl
causing on event (delete_rows t condition os limit) e = refl
causing on event (select q) e = cc
causing on event (evaluate ts) e = cc
causing on event (create_table x) e = cc
causing on event (create_function x) e = cc
causing on event (create_procedure x) e = cc
causing on event (create_trigger x) e = cc
causing on event (drop_table x) e = cc
causing on event (drop_function x) e = cc
causing on event (drop_procedure x) e = cc
causing on event (drop_trigger x) e = cc
causing on event (truncate x) e = cc
causing on event (set_all as') e = cc
causing on event (call_procedure x ts) e = cc
causing on event begin e = cc
causing on event commit e = cc
causing on event rollback e = cc
causing on event (savepoint x) e = cc
causing on event (rollback_to x) e = cc
causing on event (release_savepoint x) e = cc
causing on event (block ds ss) e = cc
causing on event (if_steps bs o) e = cc
causing on event (while_steps c ss) e = cc
causing on event (return_value x) e = cc

-- a node that is no statement holds no change
no_change : (node : Node) → IsNoStatement node → holds_change node ≡ false
no_change (a_name sight n) h = refl
no_change (a_column sight t c) h = refl
no_change (a_new_column c) h = refl
no_change (an_old_column c) h = refl
no_change (an_inserted_value sight c) h = refl
no_change (a_user_variable n) h = refl
no_change (a_system_variable n) h = refl
no_change (a_built_in f) h = refl
no_change a_random_number h = refl
no_change (a_function_call n count) h = refl
no_change (a_table_read t) h = refl
no_change (a_limit c) h = refl
no_change (a_statement s) h = absurd h

-- ---- a statement that does not write

module _ (setting : Setting) (s : Statement) (none : list_any is_writing_function (reached_programs setting.catalog (nodes_of s)) ≡ false) where
  abbrev reached : Node → Type 0
  reached node = In node (reached_nodes setting.catalog (nodes_of s)) × (holds_change node ≡ false)

  never : (one : Statement) → reached (a_statement one) → is_change one ≡ true → ⊥
  never one r e = clash (is_change one) r.1 e

  decided : (forced : Option ℤ) (auto : Option ℕ) → Decided (Unit {0}) forced auto
  decided None auto = inr tt
  decided (Some v) auto = tt

  -- a function that is called holds no change
  is_reach : IsReach (Unit {0}) (Unit {0}) ⊥ HasName setting setting reached
  is_reach = record {
    increment = refl;
    offset = refl;
    same = λ node r. node_self setting node;
    draws = λ r. tt;
    uuids = λ r. tt;
    functions = λ n count r. refl;
    calls = λ n count p r is.
        let f = calls_reached setting.catalog (nodes_of s) n count p r.0 is in
        all_in reached (nodes_of (body_of p)) (λ node i. (
          bodies_reached setting.catalog (nodes_of s) (function p) node f i,
          none_in holds_change node (nodes_of (body_of p)) (none_in is_writing_function (function p) (reached_programs setting.catalog (nodes_of s)) none f) i,
        ));
    fires = λ one on event time r e. absurd (never one r (causing on event one e));
    writes = never;
    generates = λ one t d r i k. decided None d.auto;
    expressions = λ scope e all. refl;
    statements = λ scope one all. refl;
  }

  -- expressions of the statement are reached
  plain : (ns : List Node) → AllByRecursion IsNoStatement ns → ((node : Node) → In node ns → In node (nodes_of s)) → AllByRecursion reached ns
  plain [] h i = tt
  plain (n ∷ ns) h i =
      ((in_front n (nodes_of s) (flat_map body_nodes (reached_programs setting.catalog (nodes_of s))) (i n (inl refl)), no_change n h.0), plain ns h.1 (λ node j. i node (inr j)))

pub readers_still : ReadersChangeNothing
unfolding writes effect
readers_still setting nesting locals s scene e =
    let p = or_parts (is_change s || is_definition s) (list_any is_writing_function (reached_programs setting.catalog (nodes_of s))) e in
    let q = or_parts (is_change s) (is_definition s) p.0 in
    undone_still (perform (world_of setting nesting (nodes_of s)) (only_locals locals) (forced_for setting.context s) s)
    (statement_like still_law setting setting (reached setting s p.1) (is_reach setting s p.1) nesting (only_locals locals) (forced_for setting.context s) s
    (λ c. clash (is_change s) q.0 c) (λ on event time c. absurd (clash (is_change s) q.0 (causing on event s c))) (λ t d i k. decided setting s p.1 (forced_for setting.context s) d.auto)
    (plain setting s p.1 (expressions_of s) (expressions_plain s) (expressions_in s))) scene

pub reading_still : ReadingChangesNothing
unfolding writes evaluation
reading_still setting nesting locals ts scene e =
    let s : Statement = evaluate ts in
    let p = or_parts (is_change s || is_definition s) (list_any is_writing_function (reached_programs setting.catalog (nodes_of s))) e in
    undone_still (values (world_of setting nesting (nodes_of_trees ts no_sight)) (only_locals locals) ts)
    (values_like still_law setting setting (reached setting s p.1) (is_reach setting s p.1) (record { tables = tables_named (nodes_of_trees ts no_sight); functions = [] })
    (level_of setting nesting) (level_of setting nesting) (level_like still_law setting setting (reached setting s p.1) (is_reach setting s p.1) nesting) (only_locals locals) no_sight ts
    (plain setting s p.1 (nodes_of_trees ts no_sight) (expressions_plain s) (λ node i. inr i))) scene
