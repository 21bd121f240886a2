-- A statement ends just the same in settings that are the same to what it reaches.
use Rattle.std.proofs.Common.{◌≡◌, ◌∙◌, ℕ, inr, Bool, true, false, cond, List, [], ◌∷◌, flat_map, Option, Some, None, ℤ, refl, sym, ap}
use Rattle.std.specs.Prelude.{unwrap_or}
use Rattle.std.specs.List.{AllByRecursion}
use Rattle.val_types.specs.declared.definitions.TableDef.{TableDef}
use Rattle.auto_inc.specs.Counting.{value_for}
use Rattle.table_rules.specs.Tables.{Table}
use Rattle.table_rules.specs.Stored.{has_name, table_named}
use Rattle.table_rules.proofs.Places.{name_is}
use Rattle.sql_tree.specs.Statement.{Statement}
use Rattle.sql_reach.specs.catalog_rules.Objects.{function, reaction, body_of, trigger_body}
use Rattle.sql_reach.specs.catalog_rules.Nodes.{Node, a_name, a_column, a_new_column, an_old_column, an_inserted_value, a_user_variable, a_system_variable, a_built_in, a_random_number, a_function_call, a_table_read, a_limit, a_statement, no_sight, nodes_of, nodes_of_tree}
use Rattle.sql_reach.specs.sql_meaning.Scenes.{Scene, Ending, done, failed, Action, then_do, needed, undone_from}
use Rattle.sql_reach.specs.sql_meaning.Frames.{Setting, only_locals}
use Rattle.sql_reach.specs.sql_meaning.Running.{perform, world_of, uses_forced, forced_for, effect}
use Rattle.sql_reach.specs.Reach.{body_nodes, reached_programs, reached_nodes}
use Rattle.reach_laws.specs.Members.{In}
use Rattle.reach_laws.specs.Agreeing.{AgreeOn}
use Rattle.reach_laws.specs.Laws.{ReachedIsWhatRuns}
use Rattle.reach_laws.proofs.Members.{in_front, all_in}
use Rattle.reach_laws.proofs.Named.{own_node}
use Rattle.reach_laws.proofs.Found.{calls_reached, triggers_reached, bodies_reached}
use Rattle.reach_laws.proofs.Like.{IsLikeness}
use Rattle.reach_laws.proofs.Reaching.{expressions_of, Decided, IsReach}
use Rattle.reach_laws.proofs.Expressions.{expressions_in}
use Rattle.reach_laws.proofs.LikeBodies.{Causes, statement_like}
use Rattle.reach_laws.proofs.Refusals.{SameCall, statement_refused, expression_refused}

-- two actions end just the same on each scene
abbrev SameEnding : (A : Type 0) → Action A → Action A → Type 0
SameEnding A m m' = (scene : Scene) → m scene ≡ m' scene

-- a table that is found has the name
abbrev pub HasName : List ℕ → TableDef → Type 0
HasName name d = name ≡ d.name

pub named_so : (name : List ℕ) (ts : List Table) (t : Table) → table_named name ts ≡ Some t → name ≡ t.definition.name
named_so name [] t e = cc
named_so name (x ∷ xs) t e = by (has_name name x) refl e (named_so name xs t)
  where
    by : (b : Bool) → has_name name x ≡ b → cond b (Some x) (table_named name xs) ≡ Some t → (table_named name xs ≡ Some t → name ≡ t.definition.name) → name ≡ t.definition.name
    by true same is later = let it : x ≡ t = cc in name_is name x.definition.name same ∙ ap (λ (u : Table). u.definition.name) it
    by false same is later = later is

then_same : {A B : Type 0} (f f' : A → Action B) (o : Ending A) → ((x : A) (scene : Scene) → f x scene ≡ f' x scene) → then_do o f ≡ then_do o f'
then_same f f' (done x a) same = same x a
then_same f f' (failed code a) same = refl

found_same : {A : Type 0} (name : List ℕ) (f f' : Table → Action A) → ((t : Table) → HasName name t.definition → SameEnding A (f t) (f' t)) → (scene : Scene) (o : Option Table) → table_named name scene.tables ≡ o
    → then_do (needed 1146 o scene) f ≡ then_do (needed 1146 o scene) f'
found_same name f f' same scene None e = refl
found_same name f f' same scene (Some t) e = same t (named_so name scene.tables t e) scene

same_ending : IsLikeness SameEnding (Unit {0}) (Unit {0}) (Unit {0}) HasName
same_ending = record {
  bind = λ m m' f f' first rest scene. ap (λ o. then_do o f) (first scene) ∙ then_same f f' (m' scene) rest;
  value = λ x scene. refl;
  error = λ A code scene. refl;
  change = λ u code change scene. refl;
  table = λ name scene. refl;
  found = λ name f f' same scene. found_same name f f' same scene (table_named name scene.tables) refl;
  named = λ name d e. e;
  counter = λ name f f' same scene. same (unwrap_or (value_for name scene.counters) 1) (unwrap_or (value_for name scene.counters) 1) (λ u. refl) scene;
  raised = λ name v scene. refl;
  drawn = λ u scene. refl;
  uuid = λ u first scene. refl;
  spent = λ scene. refl;
  left = λ f f' same scene. same scene.turns scene;
}

module _ (setting setting' : Setting) (s : Statement) (agree : AgreeOn (reached_nodes setting.catalog (nodes_of s)) setting setting') where
  abbrev reached : Node → Type 0
  reached node = In node (reached_nodes setting.catalog (nodes_of s))

  abbrev bodies : List Node
  bodies = flat_map body_nodes (reached_programs setting.catalog (nodes_of s))

  abbrev Call : Node → Type 0
  Call node = SameCall setting.catalog setting'.catalog agree.tables agree.procedures node

  -- a node that is reached calls the same
  call_same : (node : Node) → reached node → Call node
  call_same (a_name sight n) r = tt
  call_same (a_column sight t c) r = tt
  call_same (a_new_column c) r = tt
  call_same (an_old_column c) r = tt
  call_same (an_inserted_value sight c) r = tt
  call_same (a_user_variable n) r = tt
  call_same (a_system_variable n) r = tt
  call_same (a_built_in f) r = tt
  call_same a_random_number r = tt
  call_same (a_function_call n count) r = agree.functions n count r
  call_same (a_table_read t) r = tt
  call_same (a_limit c) r = tt
  call_same (a_statement x) r = tt

  calls_same : (ns : List Node) → AllByRecursion reached ns → AllByRecursion Call ns
  calls_same [] h = tt
  calls_same (n ∷ ns) h = (call_same n h.0, calls_same ns h.1)

  decided : (forced : Option ℤ) (auto : Option ℕ) → Decided (Unit {0}) forced auto
  decided None auto = inr tt
  decided (Some v) auto = tt

  is_reach : IsReach (Unit {0}) (Unit {0}) (Unit {0}) HasName setting setting' reached
  is_reach = record {
    increment = agree.increment;
    offset = agree.offset;
    same = agree.values;
    draws = λ r. tt;
    uuids = λ r. tt;
    functions = agree.functions;
    calls = λ n count p r is. all_in reached (nodes_of (body_of p)) (λ node i. bodies_reached setting.catalog (nodes_of s) (function p) node (calls_reached setting.catalog (nodes_of s) n count p r is) i);
    fires = λ one on event time r e. (
      agree.triggers one on event time r e,
      λ t is. all_in reached (nodes_of (trigger_body t)) (λ node i. bodies_reached setting.catalog (nodes_of s) (reaction t) node (triggers_reached setting.catalog (nodes_of s) one on event time t r e is) i),
    );
    writes = λ one r e. tt;
    generates = λ one t d r i k. decided None d.auto;
    expressions = λ scope e all. expression_refused setting.catalog setting'.catalog agree.tables agree.procedures scope e (calls_same (nodes_of_tree e no_sight) all);
    statements = λ scope one all. statement_refused setting.catalog setting'.catalog agree.tables agree.procedures scope one (calls_same (nodes_of one) all);
  }

  causes_all : Causes same_ending setting setting' reached is_reach s
  causes_all on event time e = is_reach.fires s on event time (in_front (a_statement s) (nodes_of s) bodies (own_node s)) e

  own : (ns : List Node) → ((node : Node) → In node ns → In node (nodes_of s)) → AllByRecursion reached ns
  own ns inside = all_in reached ns (λ node i. in_front node (nodes_of s) bodies (inside node i))

pub reached_runs : ReachedIsWhatRuns
unfolding effect
reached_runs setting setting' nesting locals s scene agree =
    ap (undone_from scene)
    (statement_like same_ending setting setting' (reached setting setting' s agree) (is_reach setting setting' s agree) nesting (only_locals locals) (forced_for setting.context s) s
    (λ e. tt) (causes_all setting setting' s agree) (λ t d i k. decided setting setting' s agree (forced_for setting.context s) d.auto) (own setting setting' s agree (expressions_of s) (expressions_in s)) scene
    ∙ ap (λ (forced : Option ℤ). perform (world_of setting' nesting (nodes_of s)) (only_locals locals) (cond (uses_forced s) forced None) s scene) (sym agree.forced))
