-- Bodies of functions and triggers are alike, where what they reach is, and so are statements.
use Rattle.std.proofs.Common.{◌≡◌, ℕ, zero, suc, ◌==◌, List, [], map, length, zip, ◌∷◌, ◌&&◌, Bool, not, Option, Some, None, ℤ, ◌++◌, true, false, refl, sym, ap, subst, ◌∙◌}
use Rattle.std.specs.List.{AllByRecursion, list_any}
use Rattle.val_types.specs.declared.value.Value.{Value}
use Rattle.val_types.specs.declared.value.Value.TheVariants.{Null}
use Rattle.val_types.specs.declared.definitions.TableDef.{TableDef}
use Rattle.sql_tree.specs.Tree.{Tree, Part, no_part, part}
use Rattle.sql_tree.specs.Statement.{Declared, Program, Trigger, Supply}
use Rattle.sql_tree.specs.Statement.{Statement, create_table, create_function, create_procedure, create_trigger, drop_table, drop_function, drop_procedure, drop_trigger, truncate, insert_into, replace_into, update_rows, delete_rows, select, evaluate, set_all, call_procedure, begin, commit, rollback, savepoint, rollback_to, release_savepoint, block, if_steps, while_steps, return_value}
use Rattle.sql_tree.specs.Statement.{Statements, no_statement, statement, Branches, no_branch, branch, Otherwise, no_else, else_steps}
use Rattle.sql_locals.specs.Locals.{find_local}
use Rattle.sql_locals.specs.declared.locals.Local.{Local}
use Rattle.sql_tree.specs.declared.statements.SqlType.{SqlType}
use Rattle.sql_tree.specs.declared.statements.Parameter.{Parameter}
use Rattle.sql_tree.specs.declared.statements.Target.{Target}
use Rattle.sql_tree.specs.declared.statements.Time.{Time}
use Rattle.sql_tree.specs.declared.statements.Cause.{Cause}
use Rattle.sql_tree.specs.declared.statements.Cause.TheVariants as causes
use Rattle.table_rules.proofs.Places.{name_self}
use Rattle.sql_reach.specs.Reach.{causes_event, is_change}
use Rattle.sql_reach.specs.catalog_rules.Names.{is_among, place_among, same_name}
use Rattle.sql_reach.specs.catalog_rules.Objects.{function_in, trigger_for, parameters_of, result_of, body_of, trigger_body, columns_of}
use Rattle.sql_locals.specs.Types.{column_type}
use Rattle.sql_reach.specs.catalog_rules.Nodes.{Node, Sight, a_statement, a_function_call, no_sight, in_sight, sight_of_update, count_nodes, nodes_of, nodes_of_tree, nodes_of_part, nodes_of_orders, nodes_of_sets, nodes_of_supply, nodes_of_declared, nodes_of_steps, nodes_of_branches, nodes_of_otherwise}
use Rattle.sql_reach.specs.catalog_rules.Checks.{statement_refusal, expression_refusal}
use Rattle.sql_reach.specs.sql_meaning.Scenes.{Action, ◌>>=◌, pure, fail, needed, require, each, carried_on, spend_turn}
use Rattle.sql_reach.specs.sql_meaning.Frames.{World, Setting, Running, Below, Frame}
use Rattle.sql_reach.specs.sql_meaning.Values.{value, values, holds, rows_of_query}
use Rattle.sql_reach.specs.sql_meaning.Changing.{fitted, put_at, replacing}
use Rattle.sql_reach.specs.sql_meaning.Running.{manner_of, perform, Body, Ended, unless_returned, frame_of, scope_of, is_ill_limit, also_running, let_through, checked, body_value, changes_running, body_checked, body_perform, assign_local, assign_new, assign_one, body_set, declare_name, preset_value, declare, turns, turns_left, step, steps, step_of_branches, steps_otherwise, local_for, fitted_result, function_body, in_function, start_function, call_function, seen_as, run_trigger, fire_trigger, level_of, world_of, tables_named}
use Rattle.reach_laws.proofs.Members.{both, of_each}
use Rattle.reach_laws.proofs.Reaching.{table_inserted, expressions_of, Decided, Fired, IsReach, LikeBelow}
use Rattle.reach_laws.proofs.Like.{IsLikeness, bind_like, pure_like, fail_like, needed_like, require_like, if_like, each_like, every_like, carried_like, carry_like}
use Rattle.reach_laws.proofs.LikeValues.{around, value_like, values_like, query_like, holds_like}
use Rattle.reach_laws.proofs.LikeChanges.{Sets, Settles, Inserts, fitted_like, put_at_like, insert_into_like, update_table_like, delete_from_like}

-- a test behind a name that is the same
named : (on t : List ℕ) (b : Bool) → t ≡ on → b ≡ true → (same_name on t && b) ≡ true
named on t b e f = let own : same_name on t ≡ true = ap (same_name on) e ∙ name_self on in rw (own, f) refl

-- ---- parts that see no setting

module _ {P : (A : Type 0) → Action A → Action A → Type 0} {random exact changing : Type 0} {Known : List ℕ → TableDef → Type 0} (law : IsLikeness P random exact changing Known) where
  through_like : (o : Option ℕ) → P _ (let_through o) (let_through o)
  through_like None = pure_like law tt
  through_like (Some code) = fail_like law _ code

  checked_like : (refusal : Option ℕ) (locals : List Local) (nodes : List Node) → P _ (checked refusal locals nodes) (checked refusal locals nodes)
  checked_like refusal locals nodes = bind_like law (let_through refusal) (let_through refusal) _ _ (through_like refusal) (λ _. require_like law 30002 (not (list_any (is_ill_limit locals) nodes)))

  returned_like : (ended : Ended) (next next' : Body → Action Ended) → ((body : Body) → P _ (next body) (next' body)) → (returned : Option Value)
      → P _ (elim returned as (λ _. Action Ended) [ None ↦ next ended.body | Some v ↦ pure ended ]) (elim returned as (λ _. Action Ended) [ None ↦ next' ended.body | Some v ↦ pure ended ])
  returned_like ended next next' alike None = alike ended.body
  returned_like ended next next' alike (Some v) = pure_like law ended

  unless_like : (ended : Ended) (next next' : Body → Action Ended) → ((body : Body) → P _ (next body) (next' body)) → P _ (unless_returned ended next) (unless_returned ended next')
  unless_like ended next next' alike = returned_like ended next next' alike ended.returned

  -- turns that are there
  turns_like : (n : ℕ) (test test' : Body → Action Bool) (do_steps do_steps' : Body → Action Ended) → ((body : Body) → P _ (test body) (test' body)) → ((body : Body) → P _ (do_steps body) (do_steps' body)) → (body : Body) → P _ (turns n test do_steps body) (turns n test' do_steps' body)
  turns_like zero test test' do_steps do_steps' tested stepped body =
      bind_like law (test body) (test' body) _ _ (tested body) (λ goes. if_like law goes _ _ _ _ (fail_like law Ended 30004) (pure_like law _))
  turns_like (suc n) test test' do_steps do_steps' tested stepped body =
      bind_like law (test body) (test' body) _ _ (tested body) (λ goes. if_like law goes _ _ _ _
      (bind_like law spend_turn spend_turn _ _ law.spent (λ _. bind_like law (do_steps body) (do_steps' body) _ _ (stepped body) (λ ended. unless_like ended _ _ (turns_like n test test' do_steps do_steps' tested stepped))))
      (pure_like law _))

  turns_left_like : (test test' : Body → Action Bool) (do_steps do_steps' : Body → Action Ended) → ((body : Body) → P _ (test body) (test' body)) → ((body : Body) → P _ (do_steps body) (do_steps' body)) → (body : Body) → P _ (turns_left test do_steps body) (turns_left test' do_steps' body)
  turns_left_like test test' do_steps do_steps' tested stepped body =
      law.left (λ n. turns n test do_steps body) (λ n. turns n test' do_steps' body) (λ n. turns_like n test test' do_steps do_steps' tested stepped body)

  assign_local_like : (body : Body) (n : List ℕ) (v : Value) → P _ (assign_local body n v) (assign_local body n v)
  assign_local_like body n v =
      bind_like law (needed 1193 (find_local body.locals n)) (needed 1193 (find_local body.locals n)) _ _ (needed_like law 1193 (find_local body.locals n)) (λ l.
      bind_like law (fitted l.kind v) (fitted l.kind v) _ _ (fitted_like law l.kind v) (λ fit. pure_like law _))

  assign_new_like : (body : Body) (c : List ℕ) (v : Value) → P _ (assign_new body c v) (assign_new body c v)
  assign_new_like body c v =
      bind_like law (needed 1193 body.new_row) (needed 1193 body.new_row) _ _ (needed_like law 1193 body.new_row) (λ view.
      bind_like law (needed 1054 (place_among (columns_of view.definition) c)) (needed 1054 (place_among (columns_of view.definition) c)) _ _ (needed_like law 1054 (place_among (columns_of view.definition) c)) (λ place.
      bind_like law (put_at view.definition view.row (place, v)) (put_at view.definition view.row (place, v)) _ _ (put_at_like law view.definition view.row (place, v)) (λ row. pure_like law _)))

  assign_one_like : (body : Body) (a : Target × Value) → P _ (assign_one body a) (assign_one body a)
  assign_one_like body (Target.Plain n, v) = assign_local_like body n v
  assign_one_like body (Target.New c, v) = assign_new_like body c v
  assign_one_like body (Target.User n, v) = fail_like law Body 30005
  assign_one_like body (Target.System n, v) = fail_like law Body 30005

  declare_name_like : (kind : SqlType) (v : Value) (body : Body) (n : List ℕ) → P _ (declare_name kind v body n) (declare_name kind v body n)
  declare_name_like kind v body n = bind_like law (fitted (column_type kind) v) (fitted (column_type kind) v) _ _ (fitted_like law (column_type kind) v) (λ fit. pure_like law _)

  local_like : (p : Parameter × Value) → P _ (local_for p) (local_for p)
  local_like p = bind_like law (fitted (column_type p.0.kind) p.1) (fitted (column_type p.0.kind) p.1) _ _ (fitted_like law (column_type p.0.kind) p.1) (λ fit. pure_like law _)

  result_like : (kind : Option SqlType) (v : Value) → P _ (fitted_result kind v) (fitted_result kind v)
  result_like None v = pure_like law v
  result_like (Some kind) v = fitted_like law (column_type kind) v

  -- what is there, and that it is
  bind_needed : {A B : Type 0} (code : ℕ) (o : Option A) (f f' : A → Action B) → ((x : A) → o ≡ Some x → P B (f x) (f' x)) → P B (needed code o >>= f) (needed code o >>= f')
  bind_needed {A = A} {B = B} code None f f' rest = law.error B code
  bind_needed code (Some x) f f' rest = rest x refl

-- ---- statements without the checks round them

module _ {P : (A : Type 0) → Action A → Action A → Type 0} {random exact changing : Type 0} {Known : List ℕ → TableDef → Type 0} (law : IsLikeness P random exact changing Known)
    (setting setting' : Setting) (reached : Node → Type 0) (reach : IsReach random exact changing Known setting setting' reached) where
  abbrev Same : {A : Type 0} → Action A → Action A → Type 0
  Same {A = A} m m' = P A m m'

  abbrev All : List Node → Type 0
  All ns = AllByRecursion reached ns

  -- the triggers for what a statement causes are the same, and reached
  abbrev pub Causes : Statement → Type 0
  Causes s = (on : List ℕ) (event : Cause) (time : Time) → causes_event on event s ≡ true → Fired setting setting' reached on time event

  -- and it generates nothing, or its first value is forced, or counters are the same
  abbrev pub Decides : Option ℤ → Statement → Type 0
  Decides forced s = (t : List ℕ) (d : TableDef) → table_inserted s ≡ Some t → Known t d → Decided exact forced d.auto

  -- and it is no change, or changes may be made
  abbrev pub Writes : Statement → Type 0
  Writes s = is_change s ≡ true → changing

  -- the expressions of a change, a SELECT or a DO are reached
  abbrev pub Reads : Statement → Type 0
  Reads s = All (expressions_of s)

  abbrev more_running : List Node → Running → Running
  more_running nodes running = record { tables = tables_named nodes ++ running.tables; functions = running.functions }

  module _ (running : Running) (below below' : Below) (h : LikeBelow P setting setting' reached below below') where
    abbrev one : World
    one = around setting below running

    abbrev other : World
    other = around setting' below' running

    inserting : (may : changing) (ignore : Bool) (t : List ℕ) (names : Option (List (List ℕ))) (supply : Supply) (sets : List (List ℕ × Tree)) (forced : Option ℤ) → Causes (insert_into ignore t names supply sets) → Decides forced (insert_into ignore t names supply sets)
        → Sets law setting setting' reached reach may running below below' h (sight_of_update t) sets → Inserts law setting setting' reached reach may running below below' h forced (sight_of_update t) t (manner_of ignore sets)
    inserting may ignore t names supply [] forced c d n = record {
      decided = λ x e. d t x refl e;
      fires = λ x e time. c x.name causes.Insert time (named x.name t _ (law.named t x e) refl);
      settles = λ x e. neither ignore x;
    }
      where
        neither : (b : Bool) (x : TableDef) → Settles law setting setting' reached reach may running below below' h x (sight_of_update t) (manner_of b [])
        neither true x = tt
        neither false x = tt
    inserting may ignore t names supply (s ∷ ss) forced c d n = record {
      decided = λ x e. d t x refl e;
      fires = λ x e time. c x.name causes.Insert time (named x.name t _ (law.named t x e) refl);
      settles = λ x e. (λ time. c x.name causes.Update time (named x.name t _ (law.named t x e) refl), n);
    }

    replacing_all : (may : changing) (t : List ℕ) (names : Option (List (List ℕ))) (supply : Supply) (forced : Option ℤ) → Causes (replace_into t names supply) → Decides forced (replace_into t names supply)
        → Inserts law setting setting' reached reach may running below below' h forced no_sight t replacing
    replacing_all may t names supply forced c d = record {
      decided = λ x e. d t x refl e;
      fires = λ x e time. c x.name causes.Insert time (named x.name t _ (law.named t x e) refl);
      settles = λ x e time. c x.name causes.Delete time (named x.name t _ (law.named t x e) refl);
    }

    pub perform_like : (frame : Frame) (forced : Option ℤ) (s : Statement) → Writes s → Causes s → Decides forced s → Reads s → Same (perform one frame forced s) (perform other frame forced s)
    perform_like frame forced (insert_into ignore t names supply sets) w c d n =
        let p = both reached (nodes_of_supply supply no_sight) (nodes_of_sets sets (sight_of_update t)) n in
        let q = of_each reached (λ (s : List ℕ × Tree). nodes_of_tree s.1 (sight_of_update t)) sets p.1 in
        insert_into_like law setting setting' reached reach (w refl) running below below' h frame forced (sight_of_update t) t names supply (manner_of ignore sets) (inserting (w refl) ignore t names supply sets forced c d q) p.0
    perform_like frame forced (replace_into t names supply) w c d n = insert_into_like law setting setting' reached reach (w refl) running below below' h frame forced no_sight t names supply replacing (replacing_all (w refl) t names supply forced c d) n
    perform_like frame forced (update_rows t sets condition os limit) w c d n =
        let sight : Sight = in_sight t no_sight in
        let p = both reached (nodes_of_sets sets sight ++ nodes_of_part condition sight ++ nodes_of_orders os sight) (count_nodes limit) n in
        let q = both reached (nodes_of_sets sets sight ++ nodes_of_part condition sight) (nodes_of_orders os sight) p.0 in
        let r = both reached (nodes_of_sets sets sight) (nodes_of_part condition sight) q.0 in
        update_table_like law setting setting' reached reach (w refl) running below below' h frame sight t sets condition os limit
        (λ x e time. c x.name causes.Update time (named x.name t _ (law.named t x e) refl))
        (of_each reached (λ (s : List ℕ × Tree). nodes_of_tree s.1 sight) sets r.0) r.1 q.1
    perform_like frame forced (delete_rows t condition os limit) w c d n =
        let sight : Sight = in_sight t no_sight in
        let p = both reached (nodes_of_part condition sight ++ nodes_of_orders os sight) (count_nodes limit) n in
        let q = both reached (nodes_of_part condition sight) (nodes_of_orders os sight) p.0 in
        delete_from_like law setting setting' reached reach (w refl) running below below' h frame sight t condition os limit (λ x e time. c x.name causes.Delete time (named x.name t _ (law.named t x e) refl)) q.0 q.1
    perform_like frame forced (select q) w c d n = bind_like law (rows_of_query one frame q) (rows_of_query other frame q) _ _ (query_like law setting setting' reached reach running below below' h frame no_sight q n) (λ shown. pure_like law _)
    perform_like frame forced (evaluate ts) w c d n = bind_like law (values one frame ts) (values other frame ts) _ _ (values_like law setting setting' reached reach running below below' h frame no_sight ts n) (λ vs. pure_like law _)
    perform_like frame forced (create_table t) w c d n = pure_like law _
    perform_like frame forced (create_function p) w c d n = pure_like law _
    perform_like frame forced (create_procedure p) w c d n = pure_like law _
    perform_like frame forced (create_trigger t) w c d n = pure_like law _
    perform_like frame forced (drop_table x) w c d n = pure_like law _
    perform_like frame forced (drop_function x) w c d n = pure_like law _
    perform_like frame forced (drop_procedure x) w c d n = pure_like law _
    perform_like frame forced (drop_trigger x) w c d n = pure_like law _
    perform_like frame forced (truncate x) w c d n = pure_like law _
    perform_like frame forced (set_all as') w c d n = pure_like law _
    perform_like frame forced (call_procedure x ts) w c d n = pure_like law _
    perform_like frame forced begin w c d n = pure_like law _
    perform_like frame forced commit w c d n = pure_like law _
    perform_like frame forced rollback w c d n = pure_like law _
    perform_like frame forced (savepoint x) w c d n = pure_like law _
    perform_like frame forced (rollback_to x) w c d n = pure_like law _
    perform_like frame forced (release_savepoint x) w c d n = pure_like law _
    perform_like frame forced (block ds ss) w c d n = pure_like law _
    perform_like frame forced (if_steps bs o) w c d n = pure_like law _
    perform_like frame forced (while_steps x ss) w c d n = pure_like law _
    perform_like frame forced (return_value e) w c d n = pure_like law _

  -- ---- steps of a body

  -- a statement of a body is reached
  causes_in : (s : Statement) → reached (a_statement s) → Causes s
  causes_in s r on event time e = reach.fires s on event time r e

  decides_in : (s : Statement) → reached (a_statement s) → Decides None s
  decides_in s r t d e q = reach.generates s t d r e q

  module _ (running : Running) (below below' : Below) (h : LikeBelow P setting setting' reached below below') where
    abbrev near : World
    near = around setting below running

    abbrev far : World
    far = around setting' below' running

    body_value_like : (body : Body) (e : Tree) → All (nodes_of_tree e no_sight) → Same (body_value near body e) (body_value far body e)
    body_value_like body e n =
        bind_like law (checked (expression_refusal setting.catalog (scope_of body) e) body.locals (nodes_of_tree e no_sight)) (checked (expression_refusal setting'.catalog (scope_of body) e) body.locals (nodes_of_tree e no_sight)) _ _
        (subst (λ (o : Option ℕ). Same (checked (expression_refusal setting.catalog (scope_of body) e) body.locals (nodes_of_tree e no_sight)) (checked o body.locals (nodes_of_tree e no_sight))) (sym (reach.expressions (scope_of body) e n))
        (checked_like law (expression_refusal setting.catalog (scope_of body) e) body.locals (nodes_of_tree e no_sight))) (λ _.
        value_like law setting setting' reached reach (more_running (nodes_of_tree e no_sight) running) below below' h (frame_of body) no_sight e n)

    body_checked_like : (body : Body) (s : Statement) → All (nodes_of s) → Same (body_checked near body s) (body_checked far body s)
    body_checked_like body s n =
        bind_like law (checked (statement_refusal setting.catalog (scope_of body) s) body.locals (nodes_of s)) (checked (statement_refusal setting'.catalog (scope_of body) s) body.locals (nodes_of s)) _ _
        (subst (λ (o : Option ℕ). Same (checked (statement_refusal setting.catalog (scope_of body) s) body.locals (nodes_of s)) (checked o body.locals (nodes_of s))) (sym (reach.statements (scope_of body) s n))
        (checked_like law (statement_refusal setting.catalog (scope_of body) s) body.locals (nodes_of s))) (λ _.
        require_like law 1442 (not (changes_running near s)))

    body_perform_like : (body : Body) (s : Statement) → All (nodes_of s) → reached (a_statement s) → Reads s → Same (body_perform near body s) (body_perform far body s)
    body_perform_like body s all r n =
        bind_like law (body_checked near body s) (body_checked far body s) _ _ (body_checked_like body s all) (λ _.
        bind_like law (perform (also_running (nodes_of s) near) (frame_of body) None s) (perform (also_running (nodes_of s) far) (frame_of body) None s) _ _
        (perform_like (more_running (nodes_of s) running) below below' h (frame_of body) None s (reach.writes s r) (causes_in s r) (decides_in s r) n) (λ did. pure_like law _))

    set_like : (body : Body) (as' : List (Target × Tree)) → All (nodes_of (set_all as')) → Same (body_set near body as') (body_set far body as')
    set_like body as' n =
        bind_like law (body_checked near body (set_all as')) (body_checked far body (set_all as')) _ _ (body_checked_like body (set_all as') n) (λ _.
        bind_like law (each (λ (a : Target × Tree). value (also_running (nodes_of (set_all as')) near) (frame_of body) a.1) as') (each (λ (a : Target × Tree). value (also_running (nodes_of (set_all as')) far) (frame_of body) a.1) as') _ _
        (each_like law (λ (a : Target × Tree). All (nodes_of_tree a.1 no_sight)) _ _ (λ (a : Target × Tree) own. value_like law setting setting' reached reach (more_running (nodes_of (set_all as')) running) below below' h (frame_of body) no_sight a.1 own) as' (of_each reached (λ (a : Target × Tree). nodes_of_tree a.1 no_sight) as' n.1)) (λ vs.
        bind_like law (carried_on assign_one body (zip (map (λ (a : Target × Tree). a.0) as') vs)) (carried_on assign_one body (zip (map (λ (a : Target × Tree). a.0) as') vs)) _ _ (carry_like law assign_one assign_one (assign_one_like law) body (zip (map (λ (a : Target × Tree). a.0) as') vs)) (λ after. pure_like law _)))

    preset_like : (body : Body) (preset : Part) → All (nodes_of_part preset no_sight) → Same (preset_value near body preset) (preset_value far body preset)
    preset_like body no_part n = pure_like law Null
    preset_like body (part e) n = body_value_like body e n

    declare_like : (body : Body) (d : Declared) → All (nodes_of_part d.preset no_sight) → Same (declare near body d) (declare far body d)
    declare_like body d n =
        bind_like law (preset_value near body d.preset) (preset_value far body d.preset) _ _ (preset_like body d.preset n) (λ v. carry_like law (declare_name d.kind v) (declare_name d.kind v) (declare_name_like law d.kind v) body d.names)

    condition_like : (c : Tree) → All (nodes_of_tree c no_sight) → (body : Body) → Same (body_value near body c >>= holds) (body_value far body c >>= holds)
    condition_like c n body = bind_like law (body_value near body c) (body_value far body c) _ _ (body_value_like body c n) (holds_like law)

    mutual
      pub step_like : (body : Body) (s : Statement) → All (nodes_of s) → Same (step near body s) (step far body s)
      step_like body (block ds ss) n =
          let p = both reached (nodes_of_declared ds no_sight) (nodes_of_steps ss) n.1 in
          bind_like law (carried_on (declare near) body ds) (carried_on (declare far) body ds) _ _ (carried_like law (λ (d : Declared). All (nodes_of_part d.preset no_sight)) (declare near) (declare far) declare_like body ds (of_each reached (λ (d : Declared). nodes_of_part d.preset no_sight) ds p.0)) (λ inner.
          bind_like law (steps near inner ss) (steps far inner ss) _ _ (steps_like inner ss p.1) (λ ended. pure_like law _))
      step_like body (if_steps bs o) n =
          let p = both reached (nodes_of_branches bs) (nodes_of_otherwise o) n.1 in
          branches_like body bs (steps_otherwise near body o) (steps_otherwise far body o) p.0 (otherwise_like body o p.1)
      step_like body (while_steps c ss) n =
          let p = both reached (nodes_of_tree c no_sight) (nodes_of_steps ss) n.1 in
          turns_left_like law _ _ _ _ (condition_like c p.0) (λ now. steps_like now ss p.1) body
      step_like body (return_value e) n = bind_like law (body_value near body e) (body_value far body e) _ _ (body_value_like body e n.1) (λ v. pure_like law _)
      step_like body (set_all as') n = set_like body as' n
      step_like body (insert_into ignore t names supply sets) n = body_perform_like body (insert_into ignore t names supply sets) n n.0 n.1
      step_like body (replace_into t names supply) n = body_perform_like body (replace_into t names supply) n n.0 n.1
      step_like body (update_rows t sets condition os limit) n = body_perform_like body (update_rows t sets condition os limit) n n.0 n.1
      step_like body (delete_rows t condition os limit) n = body_perform_like body (delete_rows t condition os limit) n n.0 n.1
      step_like body (select q) n = body_perform_like body (select q) n n.0 n.1
      step_like body (evaluate ts) n = body_perform_like body (evaluate ts) n n.0 n.1
      step_like body (create_table t) n = body_perform_like body (create_table t) n n.0 tt
      step_like body (create_function p) n = body_perform_like body (create_function p) n n.0 tt
      step_like body (create_procedure p) n = body_perform_like body (create_procedure p) n n.0 tt
      step_like body (create_trigger t) n = body_perform_like body (create_trigger t) n n.0 tt
      step_like body (drop_table x) n = body_perform_like body (drop_table x) n n.0 tt
      step_like body (drop_function x) n = body_perform_like body (drop_function x) n n.0 tt
      step_like body (drop_procedure x) n = body_perform_like body (drop_procedure x) n n.0 tt
      step_like body (drop_trigger x) n = body_perform_like body (drop_trigger x) n n.0 tt
      step_like body (truncate x) n = body_perform_like body (truncate x) n n.0 tt
      step_like body (call_procedure x ts) n = body_perform_like body (call_procedure x ts) n n.0 tt
      step_like body begin n = body_perform_like body begin n n.0 tt
      step_like body commit n = body_perform_like body commit n n.0 tt
      step_like body rollback n = body_perform_like body rollback n n.0 tt
      step_like body (savepoint x) n = body_perform_like body (savepoint x) n n.0 tt
      step_like body (rollback_to x) n = body_perform_like body (rollback_to x) n n.0 tt
      step_like body (release_savepoint x) n = body_perform_like body (release_savepoint x) n n.0 tt

      steps_like : (body : Body) (ss : Statements) → All (nodes_of_steps ss) → Same (steps near body ss) (steps far body ss)
      steps_like body no_statement n = pure_like law _
      steps_like body (statement s ss) n =
          let p = both reached (nodes_of s) (nodes_of_steps ss) n in
          bind_like law (step near body s) (step far body s) _ _ (step_like body s p.0) (λ ended. unless_like law ended _ _ (λ now. steps_like now ss p.1))

      branches_like : (body : Body) (bs : Branches) (otherwise otherwise' : Action Ended) → All (nodes_of_branches bs) → Same otherwise otherwise' → Same (step_of_branches near body bs otherwise) (step_of_branches far body bs otherwise')
      branches_like body no_branch otherwise otherwise' n rest = rest
      branches_like body (branch c ss bs) otherwise otherwise' n rest =
          let p = both reached (nodes_of_tree c no_sight ++ nodes_of_steps ss) (nodes_of_branches bs) n in
          let q = both reached (nodes_of_tree c no_sight) (nodes_of_steps ss) p.0 in
          bind_like law (body_value near body c >>= holds) (body_value far body c >>= holds) _ _ (condition_like c q.0 body) (λ is_true. if_like law is_true _ _ _ _ (steps_like body ss q.1) (branches_like body bs otherwise otherwise' p.1 rest))

      otherwise_like : (body : Body) (o : Otherwise) → All (nodes_of_otherwise o) → Same (steps_otherwise near body o) (steps_otherwise far body o)
      otherwise_like body no_else n = pure_like law _
      otherwise_like body (else_steps ss) n = steps_like body ss n

  -- ---- functions and triggers

  abbrev begun : List Local → Body
  begun locals = record { locals = locals; new_row = None; old_row = None }

  function_like : (running : Running) (below below' : Below) → LikeBelow P setting setting' reached below below' → (p : Program) (arguments : List Value) → All (nodes_of (body_of p))
      → Same (function_body (around setting below running) p arguments) (function_body (around setting' below' running) p arguments)
  function_like running below below' h p arguments n =
      bind_like law (each local_for (zip (parameters_of p) arguments)) (each local_for (zip (parameters_of p) arguments)) _ _ (every_like law local_for local_for (local_like law) (zip (parameters_of p) arguments)) (λ locals.
      bind_like law (step (around setting below running) (begun locals) (body_of p)) (step (around setting' below' running) (begun locals) (body_of p)) _ _ (step_like running below below' h (begun locals) (body_of p) n) (λ ended.
      bind_like law (needed 1321 ended.returned) (needed 1321 ended.returned) _ _ (needed_like law 1321 ended.returned) (result_like law (result_of p))))

  -- the levels below, where there are such
  LikeIf : Option Below → Option Below → Type 0
  LikeIf None None = Unit {0}
  LikeIf None (Some below') = ⊥
  LikeIf (Some below) None = ⊥
  LikeIf (Some below) (Some below') = LikeBelow P setting setting' reached below below'

  start_like : (below below' : Option Below) → LikeIf below below' → (running : Running) (name : List ℕ) (arguments : List Value) (p : Program) → All (nodes_of (body_of p))
      → Same (start_function setting below running name arguments p) (start_function setting' below' running name arguments p)
  unfolding LikeIf
  start_like None None h running name arguments p n =
      bind_like law (require 1318 (length (parameters_of p) == length arguments)) (require 1318 (length (parameters_of p) == length arguments)) _ _ (require_like law 1318 (length (parameters_of p) == length arguments)) (λ _.
      bind_like law (require 1424 (not (is_among running.functions name))) (require 1424 (not (is_among running.functions name))) _ _ (require_like law 1424 (not (is_among running.functions name))) (λ _. fail_like law Value 30003))
  start_like None (Some below') h running name arguments p n = absurd h
  start_like (Some below) None h running name arguments p n = absurd h
  start_like (Some below) (Some below') h running name arguments p n =
      bind_like law (require 1318 (length (parameters_of p) == length arguments)) (require 1318 (length (parameters_of p) == length arguments)) _ _ (require_like law 1318 (length (parameters_of p) == length arguments)) (λ _.
      bind_like law (require 1424 (not (is_among running.functions name))) (require 1424 (not (is_among running.functions name))) _ _ (require_like law 1424 (not (is_among running.functions name))) (λ _.
      function_like (in_function name running) below below' h p arguments n))

  call_like : (below below' : Option Below) → LikeIf below below' → (running : Running) (name : List ℕ) (count : ℕ) (arguments : List Value) → reached (a_function_call name count)
      → Same (call_function setting below running name arguments) (call_function setting' below' running name arguments)
  call_like below below' h running name count arguments r =
      subst (λ (o : Option Program). Same (call_function setting below running name arguments) (needed 1305 o >>= start_function setting' below' running name arguments)) (sym (reach.functions name count r))
      (bind_needed law 1305 (function_in setting.catalog name) (start_function setting below running name arguments) (start_function setting' below' running name arguments)
      (λ p e. start_like below below' h running name arguments p (reach.calls name count p r e)))

  run_trigger_like : (running : Running) (definition : TableDef) (new old : Option (List Value)) (t : Trigger) (below below' : Below) → LikeBelow P setting setting' reached below below' → All (nodes_of (trigger_body t))
      → Same (run_trigger setting running definition new old t below) (run_trigger setting' running definition new old t below')
  run_trigger_like running definition new old t below below' h n =
      bind_like law (step (around setting below running) (record { locals = []; new_row = seen_as definition new; old_row = seen_as definition old }) (trigger_body t)) (step (around setting' below' running) (record { locals = []; new_row = seen_as definition new; old_row = seen_as definition old }) (trigger_body t)) _ _
      (step_like running below below' h (record { locals = []; new_row = seen_as definition new; old_row = seen_as definition old }) (trigger_body t) n) (λ ended. pure_like law _)

  fired_like : (below below' : Option Below) → LikeIf below below' → (running : Running) (definition : TableDef) (new old : Option (List Value)) (o : Option Trigger) → ((t : Trigger) → o ≡ Some t → All (nodes_of (trigger_body t)))
      → Same
      (elim o as (λ _. Action (Option (List Value))) [
        | None ↦ pure new
        | Some t ↦ elim below as (λ _. Action (Option (List Value))) [ None ↦ fail 30003 | Some lower ↦ run_trigger setting running definition new old t lower ]
      ])
      (elim o as (λ _. Action (Option (List Value))) [
        | None ↦ pure new
        | Some t ↦ elim below' as (λ _. Action (Option (List Value))) [ None ↦ fail 30003 | Some lower ↦ run_trigger setting' running definition new old t lower ]
      ])
  unfolding LikeIf
  fired_like below below' h running definition new old None n = pure_like law new
  fired_like None None h running definition new old (Some t) n = fail_like law (Option (List Value)) 30003
  fired_like None (Some lower') h running definition new old (Some t) n = absurd h
  fired_like (Some lower) None h running definition new old (Some t) n = absurd h
  fired_like (Some lower) (Some lower') h running definition new old (Some t) n = run_trigger_like running definition new old t lower lower' h (n t refl)

  fire_like : (below below' : Option Below) → LikeIf below below' → (running : Running) (time : Time) (event : Cause) (definition : TableDef) (new old : Option (List Value)) → Fired setting setting' reached definition.name time event
      → Same (fire_trigger setting below running time event definition new old) (fire_trigger setting' below' running time event definition new old)
  fire_like below below' h running time event definition new old n =
      subst (λ (o : Option Trigger). Same (fire_trigger setting below running time event definition new old) (elim o as (λ _. Action (Option (List Value))) [
        | None ↦ pure new
        | Some t ↦ elim below' as (λ _. Action (Option (List Value))) [ None ↦ fail 30003 | Some lower ↦ run_trigger setting' running definition new old t lower ]
      ])) (sym n.0)
      (fired_like below below' h running definition new old (trigger_for setting.catalog definition.name time event) n.1)

  pub level_like : (n : ℕ) → LikeBelow P setting setting' reached (level_of setting n) (level_of setting' n)
  unfolding level_of LikeIf
  level_like zero = record { calls = λ running name count vs r. call_like None None tt running name count vs r; fires = fire_like None None tt }
  level_like (suc n) =
      let lower = level_like n in
      record {
        calls = λ running name count vs r. call_like (Some (level_of setting n)) (Some (level_of setting' n)) lower running name count vs r;
        fires = fire_like (Some (level_of setting n)) (Some (level_of setting' n)) lower;
      }

  -- ---- what a session runs

  abbrev session_running : List Node → Running
  session_running nodes = record { tables = tables_named nodes; functions = [] }

  pub statement_like : (nesting : ℕ) (frame : Frame) (forced : Option ℤ) (s : Statement) → Writes s → Causes s → Decides forced s → Reads s
      → Same (perform (world_of setting nesting (nodes_of s)) frame forced s) (perform (world_of setting' nesting (nodes_of s)) frame forced s)
  statement_like nesting frame forced s w c d n =
      perform_like (session_running (nodes_of s)) (level_of setting nesting) (level_of setting' nesting) (level_like nesting) frame forced s w c d n
