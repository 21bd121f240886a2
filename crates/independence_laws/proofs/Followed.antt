-- A statement that reaches nothing of a node's own does the same from what its item carries.
use Rattle.std.proofs.Common.{◌≡◌, ◌+◌, ◌-◌, ℕ, inl, inr, Bool, true, false, not, ◌||◌, nat_eq, List, [], ◌∷◌, flat_map, cond, Option, Some, None, ℤ, pos, refl, sym, ap, ◌∙◌, subst, arith}
use Rattle.std.specs.Prelude.{codes, filter_map, unwrap_or, IfSome}
use Rattle.std.specs.List.{AllByRecursion, list_any}
use Rattle.std.specs.Map.{lookup}
use Rattle.std.specs.Cmp.Lexicographic.{pointwise}
use Rattle.std.proofs.lemmas.Bool.{or_parts}
use Rattle.val_types.specs.declared.value.Value.TheVariants.{Int}
use Rattle.val_types.specs.declared.ops.Func.{Func}
use Rattle.val_types.specs.declared.ops.Func0.{Func0}
use Rattle.sql_tree.specs.Statement.{Statement, create_table, create_function, create_procedure, create_trigger, drop_table, drop_function, drop_procedure, drop_trigger, truncate, insert_into, replace_into, update_rows, delete_rows, select, evaluate, set_all, call_procedure, begin, commit, rollback, savepoint, rollback_to, release_savepoint, block, if_steps, while_steps, return_value}
use Rattle.sql_tree.specs.declared.statements.Time.{Time}
use Rattle.sql_tree.specs.declared.statements.Cause.{Cause}
use Rattle.session_ctx.specs.catalog_rules.Names.{same_name}
use Rattle.session_ctx.specs.catalog_rules.Objects.{Object, function, reaction, function_in, trigger_for}
use Rattle.session_ctx.specs.catalog_rules.Checks.{statement_refusal, expression_refusal}
use Rattle.session_ctx.specs.catalog_rules.Nodes.{Node, a_name, a_column, a_new_column, an_old_column, an_inserted_value, a_user_variable, a_system_variable, a_built_in, a_random_number, a_function_call, a_table_read, a_limit, a_statement, nodes_of}
use Rattle.session_ctx.specs.log_entries.Variables.{variable_value}
use Rattle.session_ctx.specs.sql_meaning.Scenes.{Scene, Ending, done, failed, undone_from}
use Rattle.session_ctx.specs.sql_meaning.Frames.{Context, Setting, World, Frame, only_locals}
use Rattle.session_ctx.specs.sql_meaning.Values.{system_value}
use Rattle.session_ctx.specs.sql_meaning.Changing.{Did, replacing}
use Rattle.session_ctx.specs.sql_meaning.Running.{manner_of, perform, world_of, uses_forced, forced_for, effect}
use Rattle.session_ctx.specs.sql_meaning.Fuel.{HasMore, DoneAgain, StatementsKeep}
use Rattle.reach_laws.specs.sql_reach.Carrying.{asks_last_id, draws, user_variable_at, in_byte_order, variables_reached, if_asked, carried_by, carried}
use Rattle.reach_laws.specs.sql_reach.Reach.{causes_event, body_nodes, reached_programs, reached_nodes}
use Rattle.reach_laws.specs.sql_reach.Reasons.{is_unsafe_function, names_server_id, inserts_counted}
use Rattle.session_ctx.specs.Carrying.{StandsIn}
use Rattle.independence_laws.proofs.Relation.{AreAlike, EndsAlike}
use Rattle.independence_laws.proofs.Alike.{Known, alike_law}
use Rattle.independence_laws.specs.Followed.{names_own_function, reach_nothing_own, is_followed}
use Rattle.independence_laws.specs.Laws.{AreAlikeFor, FirstValueIsForced, StatementsAreFollowed}
use Rattle.reach_laws.specs.Agreeing.{SameOfSession, SameFunction, SameAt}
use Rattle.reach_laws.proofs.Reaching.{expressions_of, Fired, IsReach}
use Rattle.reach_laws.proofs.Expressions.{IsNoStatement, expressions_plain, expressions_in}
use Rattle.reach_laws.proofs.LikeBodies.{Causes, statement_like}
use Rattle.independence_laws.proofs.Forcing.{Goes, first_forced}
use Rattle.reach_laws.specs.Members.{In}
use Rattle.reach_laws.proofs.Members.{in_front, in_made, any_in, none_in, all_in}
use Rattle.independence_laws.proofs.Quiet.{Quiet, quiet_plain, quiet_by}
use Rattle.reach_laws.proofs.Named.{own_node}
use Rattle.reach_laws.proofs.Found.{calls_reached, triggers_reached, bodies_reached}
use Rattle.independence_laws.proofs.Variables.{in_order, looked_up, variable_in, if_some}

-- ---- one statement

module _ (setting setting' : Setting) (s : Statement) (first : Option ℤ) (same_objects : setting'.catalog ≡ setting.catalog)
    (f : reach_nothing_own setting.catalog (nodes_of s) ≡ true) (stands : StandsIn setting'.context (carried_by setting.context (reached_nodes setting.catalog (nodes_of s)) first)) where
  abbrev catalog : List Object
  catalog = setting.catalog

  abbrev context : Context
  context = setting.context

  abbrev context' : Context
  context' = setting'.context

  -- all nodes that are reached, and those of programs
  abbrev all : List Node
  all = reached_nodes catalog (nodes_of s)

  abbrev bodies : List Node
  bodies = flat_map body_nodes (reached_programs catalog (nodes_of s))

  abbrev random : Type 0
  random = list_any draws all ≡ true

  abbrev reached : Node → Type 0
  reached node = In node all × Quiet catalog node

  not_true : (b : Bool) → not b ≡ true → b ≡ false
  not_true true e = cc
  not_true false e = refl

  nothing : ((list_any names_own_function all || list_any names_server_id all) ≡ false) × (list_any (inserts_counted catalog) bodies ≡ false)
  nothing = or_parts (list_any names_own_function all || list_any names_server_id all) (list_any (inserts_counted catalog) bodies) (not_true _ f)

  no_own : list_any names_own_function all ≡ false
  no_own = (or_parts (list_any names_own_function all) (list_any names_server_id all) nothing.0).0

  no_id : list_any names_server_id all ≡ false
  no_id = (or_parts (list_any names_own_function all) (list_any names_server_id all) nothing.0).1

  asked_some : {A : Type 0} (b : Bool) (a : A) → b ≡ true → if_asked b a ≡ Some a
  asked_some true a e = refl
  asked_some false a e = cc

  last_same : (node : Node) → In node all → asks_last_id node ≡ true → context'.last_id ≡ context.last_id
  last_same node h e =
      if_some (λ id. context'.last_id ≡ id) (if_asked (list_any asks_last_id all) context.last_id) context.last_id (asked_some (list_any asks_last_id all) context.last_id (any_in asks_last_id node all h e)) stands.last_id

  own_function : (g : Func) → In (a_built_in g) all → is_unsafe_function g ≡ false
  own_function g h = none_in names_own_function (a_built_in g) all no_own h

  never : {A : Type 0} → true ≡ false → A
  never e = cc

  session_same : (g : Func0) → In (a_built_in (Func.Zero g)) all → SameOfSession setting setting' g
  session_same Func0.Now h = stands.stamp
  session_same Func0.UnixTimestamp h = stands.stamp
  session_same Func0.ConnectionId h = stands.connection
  session_same Func0.LastInsertId h = last_same (a_built_in (Func.Zero Func0.LastInsertId)) h refl
  session_same Func0.SysDate h = never (own_function (Func.Zero Func0.SysDate) h)
  session_same Func0.User h = never (own_function (Func.Zero Func0.User) h)
  session_same Func0.Uuid h = never (own_function (Func.Zero Func0.Uuid) h)
  session_same Func0.RowCount h = never (own_function (Func.Zero Func0.RowCount) h)

  function_same : (g : Func) → In (a_built_in g) all → SameFunction setting setting' g
  function_same (Func.Zero g) h = session_same g h
  function_same (Func.One g) h = tt
  function_same (Func.Two g) h = tt
  function_same (Func.Three g) h = tt
  function_same (Func.Many g) h = tt

  system_same : (n : List ℕ) → In (a_system_variable n) all → system_value context' n ≡ system_value context n
  system_same n h =
      by (same_name n (codes "auto_increment_increment")) (same_name n (codes "auto_increment_offset")) (same_name n (codes "timestamp")) (same_name n (codes "last_insert_id")) (same_name n (codes "server_id"))
      (λ e. last_same (a_system_variable n) h e) (none_in names_server_id (a_system_variable n) all no_id h)
    where
      by : (a b c d e : Bool) → (d ≡ true → context'.last_id ≡ context.last_id) → e ≡ false
          → cond a (Some (Int (pos context'.increment))) (cond b (Some (Int (pos context'.offset))) (cond c (Some (Int (pos context'.stamp))) (cond d (Some (Int context'.last_id)) (cond e (Some (Int (pos context'.server_id))) None))))
          ≡ cond a (Some (Int (pos context.increment))) (cond b (Some (Int (pos context.offset))) (cond c (Some (Int (pos context.stamp))) (cond d (Some (Int context.last_id)) (cond e (Some (Int (pos context.server_id))) None))))
      by true b c d e l q = ap (λ (k : ℕ). Some (Int (pos k))) stands.increment
      by false true c d e l q = ap (λ (k : ℕ). Some (Int (pos k))) stands.offset
      by false false true d e l q = ap (λ (k : ℕ). Some (Int (pos k))) stands.stamp
      by false false false true e l q = ap (λ (k : ℤ). Some (Int k)) (l refl)
      by false false false false true l q = never q
      by false false false false false l q = refl

  variable_same : (n : List ℕ) → In (a_user_variable n) all → variable_value context'.variables n ≡ variable_value context.variables n
  variable_same n h =
      if_some (λ v. variable_value context'.variables n ≡ v) (lookup (pointwise nat_eq n) (variables_reached context.variables all)) (variable_value context.variables n)
      (looked_up (variable_value context.variables) n (in_byte_order (filter_map user_variable_at all)) (in_order n (filter_map user_variable_at all) (variable_in n all h))) (stands.variables n)

  node_same : (node : Node) → reached node → SameAt setting setting' node
  node_same (a_name sight n) r = tt
  node_same (a_column sight t c) r = tt
  node_same (a_new_column c) r = tt
  node_same (an_old_column c) r = tt
  node_same (an_inserted_value sight c) r = tt
  node_same (a_user_variable n) r = variable_same n r.0
  node_same (a_system_variable n) r = system_same n r.0
  node_same (a_built_in g) r = function_same g r.0
  node_same a_random_number r = tt
  node_same (a_function_call n count) r = tt
  node_same (a_table_read t) r = tt
  node_same (a_limit c) r = tt
  node_same (a_statement x) r = tt

  -- the nodes of a program that is reached
  body_reached : (o : Object) → In o (reached_programs catalog (nodes_of s)) → AllByRecursion reached (body_nodes o)
  body_reached o is =
      all_in reached (body_nodes o) (λ node h.
      let inside = in_made body_nodes o node (reached_programs catalog (nodes_of s)) is h in
      (bodies_reached catalog (nodes_of s) o node is h, quiet_by catalog node (none_in (inserts_counted catalog) node bodies nothing.1 inside)))

  fires_all : (x : Statement) (on : List ℕ) (event : Cause) (time : Time) → In (a_statement x) all → causes_event on event x ≡ true → Fired setting setting' reached on time event
  fires_all x on event time h e = (λ i. trigger_for (same_objects i) on time event, λ t is. body_reached (reaction t) (triggers_reached catalog (nodes_of s) x on event time t h e is))

  is_reach : IsReach random ⊥ (Unit {0}) (Known random catalog) setting setting' reached
  is_reach = record {
    increment = stands.increment;
    offset = stands.offset;
    same = node_same;
    draws = λ r. any_in draws a_random_number all r.0 refl;
    uuids = λ r. never (own_function (Func.Zero Func0.Uuid) r.0);
    functions = λ n count r i. function_in (same_objects i) n;
    calls = λ n count p r is. body_reached (function p) (calls_reached catalog (nodes_of s) n count p r.0 is);
    fires = λ x on event time r e. fires_all x on event time r.0 e;
    writes = λ x r e. tt;
    generates = λ x t d r i is. inl (r.1 t d i is);
    expressions = λ scope e all i. expression_refusal (same_objects i) scope e;
    statements = λ scope one all i. statement_refusal (same_objects i) scope one;
  }

  -- expressions of the statement are reached
  plain : (ns : List Node) → AllByRecursion IsNoStatement ns → ((node : Node) → In node ns → In node (nodes_of s)) → AllByRecursion reached ns
  plain [] h i = tt
  plain (x ∷ xs) h i = ((in_front x (nodes_of s) bodies (i x (inl refl)), quiet_plain catalog x h.0), plain xs h.1 (λ node j. i node (inr j)))

  causes_all : Causes (alike_law random catalog) setting setting' reached is_reach s
  causes_all on event time e = fires_all s on event time (in_front (a_statement s) (nodes_of s) bodies (own_node s)) e

-- ---- the first generated value, forced

forced_perform : (g : Option ℤ) (world : World) (frame : Frame) (forced : Option ℤ) (s : Statement) (a : Scene) (did : Did) (b : Scene) → perform world frame forced s a ≡ done did b → (uses_forced s ≡ true → Goes g did.first)
    → perform world frame g s a ≡ done did b
forced_perform g world frame forced (create_table x) a did b e h = e
forced_perform g world frame forced (create_function x) a did b e h = e
forced_perform g world frame forced (create_procedure x) a did b e h = e
forced_perform g world frame forced (create_trigger x) a did b e h = e
forced_perform g world frame forced (drop_table x) a did b e h = e
forced_perform g world frame forced (drop_function x) a did b e h = e
forced_perform g world frame forced (drop_procedure x) a did b e h = e
forced_perform g world frame forced (drop_trigger x) a did b e h = e
forced_perform g world frame forced (truncate x) a did b e h = e
forced_perform g world frame forced (insert_into ignore t names supply sets) a did b e h = first_forced g world frame forced t names supply (manner_of ignore sets) a did b e (h refl)
forced_perform g world frame forced (replace_into t names supply) a did b e h = first_forced g world frame forced t names supply replacing a did b e (h refl)
forced_perform g world frame forced (update_rows t sets condition os limit) a did b e h = e
forced_perform g world frame forced (delete_rows t condition os limit) a did b e h = e
forced_perform g world frame forced (select q) a did b e h = e
forced_perform g world frame forced (evaluate ts) a did b e h = e
forced_perform g world frame forced (set_all as') a did b e h = e
forced_perform g world frame forced (call_procedure x ts) a did b e h = e
forced_perform g world frame forced begin a did b e h = e
forced_perform g world frame forced commit a did b e h = e
forced_perform g world frame forced rollback a did b e h = e
forced_perform g world frame forced (savepoint x) a did b e h = e
forced_perform g world frame forced (rollback_to x) a did b e h = e
forced_perform g world frame forced (release_savepoint x) a did b e h = e
forced_perform g world frame forced (block ds ss) a did b e h = e
forced_perform g world frame forced (if_steps bs o) a did b e h = e
forced_perform g world frame forced (while_steps c ss) a did b e h = e
forced_perform g world frame forced (return_value x) a did b e h = e

goes_own : (first : Option ℤ) → Goes (Some (unwrap_or first (pos 0))) first
goes_own None = tt
goes_own (Some v) = refl

goes_if : (forced first : Option ℤ) → IfSome first (λ v. forced ≡ Some v) → Goes forced first
goes_if forced None h = tt
goes_if forced (Some v) h = h

pub first_value_forced : FirstValueIsForced
first_value_forced world frame forced forced' s a after did goes e = forced_perform forced' world frame forced s a did after e (λ _. goes_if forced' did.first goes)

-- ---- all of it

was_done : {A : Type 0} (a : Scene) (o : Ending A) (x : A) (b : Scene) → undone_from a o ≡ done x b → o ≡ done x b
was_done a (done y c) x b e = e
was_done a (failed code c) x b e = cc

-- it ends so in the other setting, with turns to match
record Went (random : Type 0) (objects : List Object) (did : Did) (after : Scene) (o : Ending Did) : Type 0 where
  scene : Scene
  ends : o ≡ done did scene
  alike : AreAlike random objects after scene

went_by : (random : Type 0) (objects : List Object) (did : Did) (after : Scene) (o : Ending Did) → EndsAlike random objects (done did after) o → Went random objects did after o
went_by drawn objects did after (done y c) h = record { scene = c; ends = ap (λ (d : Did). done d c) (sym h.0); alike = h.1 }
went_by drawn objects did after (failed code c) h = absurd h

record More (did : Did) (c : Scene) (extra : ℕ) (o : Ending Did) : Type 0 where
  scene : Scene
  ends : o ≡ done did scene
  more : HasMore extra c scene

more_by : (did : Did) (c : Scene) (extra : ℕ) (o : Ending Did) → DoneAgain extra (done did c) o → More did c extra o
more_by did c extra (done y d) h = record { scene = d; ends = ap (λ (x : Did). done x d) (sym h.0); more = h.1 }
more_by did c extra (failed code d) h = absurd h

-- alike, and with so many turns more
alike_again : (drawn : Type 0) (objects : List Object) (s : Statement) (a b c : Scene) (extra : ℕ) → AreAlike drawn objects a b → HasMore extra b c
    → (list_any draws (reached_nodes objects (nodes_of s)) ≡ true → drawn) → AreAlikeFor objects s a c
alike_again drawn objects s a b c extra like more draw = record {
  tables = more.tables ∙ like.tables;
  theirs = like.theirs;
  changes = more.changes ∙ like.changes;
  turns = omega (arith, like.turns, more.turns);
  seeds = λ d. more.seeds ∙ like.seeds (draw d);
}

with_turns : ℕ → Scene → Scene
with_turns n b = record b { turns = n }

-- the first value, or 0 where none was generated
abbrev value_or_none : Did → ℤ
value_or_none did = unwrap_or did.first (pos 0)

pub statements_followed : StatementsKeep → StatementsAreFollowed
unfolding effect carried is_followed with_turns
statements_followed keep setting setting' nesting nesting' locals s a b after did f same_objects stands l begins e =
    let frame : Frame = only_locals locals in
    let v : ℤ = value_or_none did in
    let world : World = world_of setting nesting (nodes_of s) in
    let world' : World = world_of setting' nesting (nodes_of s) in
    let own = forced_perform (Some v) world frame (forced_for setting.context s) s a did after (was_done a _ did after e) (λ _. goes_own did.first) in
    let b0 : Scene = with_turns a.turns b in
    let drawn : Type 0 = random setting setting' s did.first same_objects f stands in
    let start : AreAlike drawn setting.catalog a b0 = record { tables = begins.tables; changes = begins.changes; turns = refl; seeds = begins.seeds; theirs = begins.theirs } in
    let same = statement_like (alike_law drawn setting.catalog) setting setting' (reached setting setting' s did.first same_objects f stands)
    (is_reach setting setting' s did.first same_objects f stands) nesting frame (Some v) s
    (λ e. tt) (causes_all setting setting' s did.first same_objects f stands) (λ t d i is. tt)
    (plain setting setting' s did.first same_objects f stands (expressions_of s) (expressions_plain s) (expressions_in s)) in
    let went = went_by drawn setting.catalog did after (perform world' frame (Some v) s b0)
    (subst (λ (o : Ending Did). EndsAlike drawn setting.catalog o (perform world' frame (Some v) s b0)) own (same.alike a b0 start)) in
    let theirs = forced_perform (forced_for setting'.context s) world' frame (Some v) s b0 did went.scene went.ends
    (λ u. subst (λ (o : Option ℤ). Goes o did.first) (sym (ap (λ (t : Bool). cond t setting'.context.forced None) u)) (goes_if setting'.context.forced did.first stands.forced)) in
    let extra : ℕ = b.turns - a.turns in
    let fuel : b.turns ≡ a.turns + extra = omega (arith, begins.turns) in
    let more = more_by did went.scene extra (effect setting' nesting' locals s b)
    (subst (λ (o : Ending Did). DoneAgain extra o (effect setting' nesting' locals s b)) (ap (undone_from b0) theirs)
    (keep setting' nesting nesting' extra locals s b0 b l (record { tables = refl; changes = refl; counters = refl; seeds = refl; uuids = refl; turns = fuel }))) in
    record {
      scene = more.scene;
      ends = more.ends;
      alike = alike_again drawn setting.catalog s after went.scene more.scene extra went.alike more.more (λ d. d);
    }
