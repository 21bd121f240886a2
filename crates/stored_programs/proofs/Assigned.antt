-- SET of locals and of NEW, one step at a time.
use Rattle.std.proofs.Common.{◌≡◌, ℕ, ◌+◌, ◌<◌, ◌≤◌, List, [], ◌∷◌, ◌++◌, length, get_or, drop, Option, Some, None, refl, sym, ap, ◌∙◌, Result, Ok, Err, append_assoc, append-nil}
use Rattle.std.proofs.lemmas.List.{drop_all}
use Rattle.val_types.specs.declared.value.Value.{Value}
use Rattle.val_types.specs.declared.refusal.SqlRefusal.{SqlRefusal}
use Rattle.val_types.specs.declared.refusal.SqlRefusal.TheVariants.{Sql, NoMemory}
use Rattle.val_types.specs.Fitting.{fitting}
use Rattle.sql_tree.specs.Tree.{Tree}
use Rattle.sql_tree.specs.View.{view_tree}
use Rattle.sql_tree.specs.Statement.{Statement, set_all}
use Rattle.sql_tree.specs.StatementView.{view_assignments}
use Rattle.sql_tree.specs.declared.statements.Assignment.{Assignment}
use Rattle.sql_tree.specs.declared.statements.Target.{Target}
use Rattle.sql_locals.specs.declared.locals.Local.{Local}
use Rattle.sql_locals.specs.Locals.{find_local, set_local}
use Rattle.sql_statements.specs.catalog_rules.Names.{place_among}
use Rattle.sql_statements.specs.catalog_rules.Nodes.{nodes_of}
use Rattle.sql_statements.specs.catalog_rules.Objects.{columns_of}
use Rattle.sql_statements.specs.sql_meaning.Scenes.{Scene, Ending, Action, done, failed, then_do, pure, fail, needed, ◌>>=◌}
use Rattle.sql_statements.specs.sql_meaning.Frames.{World}
use Rattle.sql_statements.specs.sql_meaning.Values.{value}
use Rattle.sql_statements.specs.sql_meaning.Changing.{fitted, put_at}
use Rattle.sql_statements.specs.sql_meaning.Running.{Body, Ended, also_running, assign_local, assign_new, assign_one, body_checked, frame_of, goes_on, with_new_row}
use Rattle.sql_statements.proofs.of_changed_rows.Fitted.{put_nowhere, put_unfit, put_fit}
use Rattle.exec_state.specs.declared.running.Running.{Running as Chain}
use Rattle.exec_state.specs.Stage.{EndsAs, EndsAsBy}
use Rattle.sql_evaluation.specs.declared.world.Around.{Around}
use Rattle.sql_evaluation.specs.declared.world.View.{View as Shown}
use Rattle.sql_evaluation.specs.Seen.{Anywhere, running_of, view_of, world_of}
use Rattle.sql_evaluation.proofs.Branching.{rest_is, then_then}
use Rattle.stored_programs.specs.declared.body.Body.{Body as Stands}
use Rattle.stored_programs.specs.Bodies.{AnywhereBy, body_of, body_then, ended_at, put_in_column, view_in, world_with}
use Rattle.stored_programs.specs.Steps.{all_assigned, assigned_values, step_in, values_to_set}
use Rattle.stored_programs.proofs.Acting.{Same, behind, refused, ends_so}
use Rattle.stored_programs.proofs.Evaluated.{also, world_also}

-- ---- values that fit

pub unfit : (kind : Rattle.val_types.specs.declared.definitions.ColType.ColType) (v : Value) (code : ℕ) → fitting kind v ≡ Err code → Anywhere (Err (Sql code)) (fitted kind v)
unfit kind v code h = record { ends = λ scene. rw h refl }

pub fits : (kind : Rattle.val_types.specs.declared.definitions.ColType.ColType) (v : Value) (known : Unit {0}) → fitting kind v ≡ Ok known → Anywhere (Ok v) (fitted kind v)
fits kind v known h = record { ends = λ scene. rw h refl }

pub ruleset fitting_so = (unfit, fits)

-- ---- a local

pub no_local : (b : Stands) (b' : Stands) (n : List ℕ) (v : Value) → None ≡ find_local b.locals n → AnywhereBy (body_then b') (Err (Sql 1193)) (assign_local (body_of b) n v)
no_local b b' n v none = record { ends = λ scene. rw (← none) refl }

pub local_unfit : (b : Stands) (b' : Stands) (n : List ℕ) (v : Value) (l : Local) (code : ℕ) → Some l ≡ find_local b.locals n → Anywhere {A = Value} (Err (Sql code)) (fitted l.kind v)
    → AnywhereBy (body_then b') (Err (Sql code)) (assign_local (body_of b) n v)
local_unfit b b' n v l code there h = record {
  ends = λ scene. rw (← there) (ap (λ (x : Ending Value). then_do x (λ fit. pure (record (body_of b) { locals = set_local n fit b.locals }))) (h.ends scene));
}

pub local_set : (b : Stands) (b' : Stands) (n : List ℕ) (v fit : Value) (l : Local) (u : Unit {0}) → Some l ≡ find_local b.locals n → Anywhere (Ok fit) (fitted l.kind v)
    → b'.locals ≡ set_local n fit b.locals → b'.new_row ≡ b.new_row → b'.old_row ≡ b.old_row → AnywhereBy (body_then b') (Ok u) (assign_local (body_of b) n v)
local_set b b' n v fit l u there h locals new old = record {
  ends = λ scene.
      rw (← there) (ap (λ (x : Ending Value). then_do x (λ fit. pure (record (body_of b) { locals = set_local n fit b.locals }))) (h.ends scene)
      ∙ ap (λ (c : Body). done c scene) (λ i. record { locals = (sym locals) i; new_row = view_in ((sym new) i); old_row = view_in ((sym old) i) }));
}

pub ruleset locals = (no_local, local_unfit, local_set)

-- ---- a column of NEW

pub ruleset putting = (put_nowhere, put_unfit, put_fit)

pub column_nowhere : (view : Shown) (c : List ℕ) (v : Value) → None ≡ place_among (columns_of view.definition) c → Anywhere (Err (Sql 1054)) (put_in_column view c v)
column_nowhere view c v none = record { ends = λ scene. rw (← none) refl }

pub column_unfit : (view : Shown) (c : List ℕ) (v : Value) (place code : ℕ) → Some place ≡ place_among (columns_of view.definition) c → Anywhere {A = List Value} (Err (Sql code)) (put_at view.definition view.row (place, v))
    → Anywhere {A = List Value} (Err (Sql code)) (put_in_column view c v)
column_unfit view c v place code there h = record { ends = λ scene. rw (← there) (h.ends scene) }

pub column_put : (view : Shown) (c : List ℕ) (v : Value) (place : ℕ) (row : List Value) → Some place ≡ place_among (columns_of view.definition) c → Anywhere (Ok row) (put_at view.definition view.row (place, v))
    → Anywhere (Ok row) (put_in_column view c v)
column_put view c v place row there h = record { ends = λ scene. rw (← there) (h.ends scene) }

pub ruleset columns = (column_nowhere, column_unfit, column_put)

-- ---- NEW

new_is : (view : Shown) (b : Body) (c : List ℕ) (v : Value) (scene : Scene) → b.new_row ≡ Some (view_of view)
    → assign_new b c v scene ≡ then_do (put_in_column view c v scene) (λ row. pure (with_new_row b (view_of view) row))
new_is view b c v scene there =
    (rw there (sym (then_then (needed 1054 (place_among (columns_of view.definition) c) scene) (λ place. put_at view.definition view.row (place, v)) (λ row. pure (with_new_row b (view_of view) row)))))

pub no_new : (b : Stands) (b' : Stands) (c : List ℕ) (v : Value) → b.new_row ≡ None → AnywhereBy (body_then b') (Err (Sql 1193)) (assign_new (body_of b) c v)
no_new b b' c v none = record { ends = λ scene. rw none refl }

pub new_unfit : (b : Stands) (b' : Stands) (view : Shown) (c : List ℕ) (v : Value) (code : ℕ) → b.new_row ≡ Some view → Anywhere {A = List Value} (Err (Sql code)) (put_in_column view c v)
    → AnywhereBy (body_then b') (Err (Sql code)) (assign_new (body_of b) c v)
new_unfit b b' view c v code there h = record {
  ends = λ scene.
      new_is view (body_of b) c v scene (ap view_in there)
      ∙ ap (λ (x : Ending (List Value)). then_do x (λ row. pure (with_new_row (body_of b) (view_of view) row))) (h.ends scene);
}

pub new_set : (b : Stands) (b' : Stands) (view : Shown) (c : List ℕ) (v : Value) (row : List Value) (u : Unit {0}) → b.new_row ≡ Some view → Anywhere (Ok row) (put_in_column view c v)
    → b'.new_row ≡ Some (record view { row = row }) → b'.locals ≡ b.locals → b'.old_row ≡ b.old_row
    → AnywhereBy (body_then b') (Ok u) (assign_new (body_of b) c v)
new_set b b' view c v row u there h new locals old = record {
  ends = λ scene.
      new_is view (body_of b) c v scene (ap view_in there)
      ∙ ap (λ (x : Ending (List Value)). then_do x (λ row. pure (with_new_row (body_of b) (view_of view) row))) (h.ends scene)
      ∙ ap (λ (c : Body). done c scene) (λ i. record { locals = (sym locals) i; new_row = view_in ((sym new) i); old_row = view_in ((sym old) i) });
}

pub ruleset rows = (no_new, new_unfit, new_set)

-- ---- one assignment

pub not_written : (b' : Stands) (code : ℕ) → AnywhereBy (body_then b') (Err (Sql code)) (fail {A = Body} code)
not_written b' code = record { ends = λ scene. refl }

-- ---- assignments of values, one after the other

-- what is left of them
unfoldable pub assigned_left : Body → List Assignment → List Value → Action Body
assigned_left b xs vs = all_assigned b (view_assignments xs) vs

pub assigned_start : (b : Body) (xs : List Assignment) (vs : List Value) → Same (assigned_left b xs vs) (all_assigned b (view_assignments xs) vs)
unfolding assigned_left
assigned_start b xs vs = record { same = λ scene. refl }

assigned_next : (b : Body) (xs : List Assignment) (i : ℕ) (x : Assignment) (v : Value) (vs vs' : List Value) (scene : Scene) → i < length xs → x ≡ get_or xs i x → vs ≡ v ∷ vs'
    → assigned_left b (drop i xs) vs scene ≡ then_do (assign_one b (x.target, v) scene) (λ after. assigned_left after (drop (i + 1) xs) vs')
unfolding assigned_left
assigned_next b xs i x v vs vs' scene within is first =
    ap (λ (ys : List Assignment). all_assigned b (view_assignments ys) vs scene) (rest_is xs i x within is)
    ∙ ap (λ (ws : List Value). all_assigned b (view_assignments (x ∷ drop (i + 1) xs)) ws scene) first

pub assigned_more : (b b' : Stands) (xs : List Assignment) (i : ℕ) (x : Assignment) (v : Value) (vs vs' : List Value) (u : Unit {0}) (o : Action Body)
    → i < length xs → x ≡ get_or xs i x → vs ≡ v ∷ vs' → AnywhereBy (body_then b') (Ok u) (assign_one (body_of b) (x.target, v))
    → Same (assigned_left (body_of b) (drop i xs) vs) o → Same (assigned_left (body_of b') (drop (i + 1) xs) vs') o
assigned_more b b' xs i x v vs vs' u o within is first h before = record {
  same = λ scene.
      sym (assigned_next (body_of b) xs i x v vs vs' scene within is first
      ∙ ap (λ (y : Ending Body). then_do y (λ after. assigned_left after (drop (i + 1) xs) vs')) (h.ends scene))
      ∙ before.same scene;
}

pub assigned_fails : (b b' : Stands) (xs : List Assignment) (i : ℕ) (x : Assignment) (v : Value) (vs vs' : List Value) (e : SqlRefusal) (o : Action Body)
    → i < length xs → x ≡ get_or xs i x → vs ≡ v ∷ vs' → AnywhereBy {A = Unit {0}} (body_then b') (Err e) (assign_one (body_of b) (x.target, v))
    → Same (assigned_left (body_of b) (drop i xs) vs) o → AnywhereBy {A = Unit {0}} (body_then b') (Err e) o
assigned_fails b b' xs i x v vs vs' NoMemory o within is first h before = record { ends = λ scene. tt }
assigned_fails b b' xs i x v vs vs' (Sql code) o within is first h before = record {
  ends = λ scene.
      sym (before.same scene) ∙ assigned_next (body_of b) xs i x v vs vs' scene within is first
      ∙ ap (λ (y : Ending Body). then_do y (λ after. assigned_left after (drop (i + 1) xs) vs')) (h.ends scene);
}

none_behind : (b : Body) (xs : List Assignment) (scene : Scene) → all_assigned b (view_assignments xs) [] scene ≡ done b scene
none_behind b [] scene = refl
none_behind b (x ∷ xs) scene = refl

pub assigned_short : (b : Stands) (xs : List Assignment) (vs : List Value) (u : Unit {0}) (o : Action Body) → vs ≡ []
    → Same (assigned_left (body_of b) xs vs) o → AnywhereBy (body_then b) (Ok u) o
unfolding assigned_left
assigned_short b xs vs u o none before = record {
  ends = λ scene. sym (before.same scene) ∙ ap (λ (ws : List Value). all_assigned (body_of b) (view_assignments xs) ws scene) none ∙ none_behind (body_of b) xs scene;
}

pub assigned_end : (b : Stands) (xs : List Assignment) (i : ℕ) (vs : List Value) (u : Unit {0}) (o : Action Body) → length xs ≤ i
    → Same (assigned_left (body_of b) (drop i xs) vs) o → AnywhereBy (body_then b) (Ok u) o
unfolding assigned_left
assigned_end b xs i vs u o past before = record {
  ends = λ scene. sym (before.same scene) ∙ ap (λ (ys : List Assignment). all_assigned (body_of b) (view_assignments ys) vs scene) (drop_all i xs past);
}

pub ruleset assignments = (assigned_start, assigned_more, assigned_short, assigned_end)

-- ---- the values of assignments

-- those of what is left, behind the first ones
unfoldable pub values_left : World → Body → List Assignment → List Value → Scene → Ending (List Value)
values_left world b xs out scene = then_do (assigned_values world b (view_assignments xs) scene) (λ vs. pure (out ++ vs))

nothing_before : (e : Ending (List Value)) → then_do e (λ vs. pure ([] ++ vs)) ≡ e
nothing_before (done vs scene) = refl
nothing_before (failed code scene) = refl

put_behind : (e : Ending (List Value)) (out : List Value) (v : Value)
    → then_do (then_do e (λ vs. pure (v ∷ vs))) (λ vs. pure (out ++ vs)) ≡ then_do e (λ vs. pure ((out ++ v ∷ []) ++ vs))
put_behind (done vs scene) out v = ap (λ (xs : List Value). done xs scene) (sym (append_assoc out (v ∷ []) vs))
put_behind (failed code scene) out v = refl

pub values_start : (world : World) (b : Body) (xs : List Assignment) (scene : Scene) → values_left world b xs [] scene ≡ assigned_values world b (view_assignments xs) scene
unfolding values_left
values_start world b xs scene = nothing_before (assigned_values world b (view_assignments xs) scene)

values_next : (world : World) (b : Body) (xs : List Assignment) (i : ℕ) (x : Assignment) (out : List Value) (scene : Scene) → i < length xs → x ≡ get_or xs i x
    → values_left world b (drop i xs) out scene
    ≡ then_do (then_do (value world (frame_of b) (view_tree x.value) scene) (λ v. assigned_values world b (view_assignments (drop (i + 1) xs)) >>= λ vs. pure (v ∷ vs))) (λ vs. pure (out ++ vs))
unfolding values_left
values_next world b xs i x out scene within is = ap (λ (ys : List Assignment). then_do (assigned_values world b (view_assignments ys) scene) (λ vs. pure (out ++ vs))) (rest_is xs i x within is)

pub values_more : (world : World) (b : Body) (xs : List Assignment) (i : ℕ) (x : Assignment) (out : List Value) (v : Value) (scene next : Scene) (o : Ending (List Value))
    → i < length xs → x ≡ get_or xs i x → value world (frame_of b) (view_tree x.value) scene ≡ done v next
    → values_left world b (drop i xs) out scene ≡ o → values_left world b (drop (i + 1) xs) (out ++ v ∷ []) next ≡ o
unfolding values_left
values_more world b xs i x out v scene next o within is h before =
    sym (values_next world b xs i x out scene within is
    ∙ ap (λ (y : Ending Value). then_do (then_do y (λ v. assigned_values world b (view_assignments (drop (i + 1) xs)) >>= λ vs. pure (v ∷ vs))) (λ vs. pure (out ++ vs))) h
    ∙ put_behind (assigned_values world b (view_assignments (drop (i + 1) xs)) next) out v)
    ∙ before

pub values_fail : (world : World) (b : Body) (xs : List Assignment) (i : ℕ) (x : Assignment) (out : List Value) (e : SqlRefusal) (scene next : Scene) (o : Ending (List Value))
    → i < length xs → x ≡ get_or xs i x → EndsAs {A = Value} (Err e) next (value world (frame_of b) (view_tree x.value) scene)
    → values_left world b (drop i xs) out scene ≡ o → EndsAs {A = List Value} (Err e) next o
values_fail world b xs i x out NoMemory scene next o within is h before = tt
values_fail world b xs i x out (Sql code) scene next o within is h before =
    sym before ∙ values_next world b xs i x out scene within is
    ∙ ap (λ (y : Ending Value). then_do (then_do y (λ v. assigned_values world b (view_assignments (drop (i + 1) xs)) >>= λ vs. pure (v ∷ vs))) (λ vs. pure (out ++ vs))) h

pub values_end : (world : World) (b : Body) (xs : List Assignment) (i : ℕ) (out : List Value) (scene : Scene) (o : Ending (List Value))
    → length xs ≤ i → values_left world b (drop i xs) out scene ≡ o → o ≡ done out scene
unfolding values_left
values_end world b xs i out scene o past before =
    sym before ∙ ap (λ (ys : List Assignment). then_do (assigned_values world b (view_assignments ys) scene) (λ vs. pure (out ++ vs))) (drop_all i xs past)
    ∙ ap (λ (ys : List Value). done ys scene) (append-nil out)

pub ruleset evaluations = (values_start, values_end)

-- ---- SET

-- the values, behind the checks
values_from : (a : Around) (g : Chain) (b : Body) (s : Statement) (as' : List (Target × Tree)) (known : Unit {0}) (scene : Scene)
    → Anywhere (Ok known) (body_checked (world_of a) b s) → running_of g ≡ also (nodes_of s) (running_of a.running.now)
    → values_to_set a b s as' scene ≡ assigned_values (world_with a g) b as' scene
unfolding values_to_set
values_from a g b s as' known scene let_through is =
    behind (body_checked (world_of a) b s) known (λ _. assigned_values (also_running (nodes_of s) (world_of a)) b as') scene let_through
    ∙ ap (λ (w : World). assigned_values w b as' scene) (sym (world_also a g (nodes_of s) is))

pub values_end_so : (a : Around) (g : Chain) (b : Body) (s : Statement) (as' : List (Target × Tree)) (known : Unit {0}) (r : Result (List Value) SqlRefusal) (scene next : Scene)
    → Anywhere (Ok known) (body_checked (world_of a) b s) → running_of g ≡ also (nodes_of s) (running_of a.running.now)
    → EndsAs r next (assigned_values (world_with a g) b as' scene) → EndsAs r next (values_to_set a b s as' scene)
values_end_so a g b s as' known r scene next let_through is h = ends_so r next _ _ (values_from a g b s as' known scene let_through is) h

pub values_refused : (a : Around) (b : Body) (s : Statement) (as' : List (Target × Tree)) (e : SqlRefusal) (scene : Scene)
    → Anywhere {A = Unit {0}} (Err e) (body_checked (world_of a) b s) → EndsAs {A = List Value} (Err e) scene (values_to_set a b s as' scene)
unfolding values_to_set
values_refused a b s as' (Sql code) scene h = refused (body_checked (world_of a) b s) code (λ _. assigned_values (also_running (nodes_of s) (world_of a)) b as') scene h
values_refused a b s as' NoMemory scene h = tt

pub ruleset checked_values = (values_end_so)

abbrev then_assigned : Body → List (Target × Tree) → List Value → Action Ended
then_assigned b as' vs = all_assigned b as' vs >>= λ after. pure (goes_on after)

set_behind : (a : Around) (b : Body) (s : Statement) (as' : List (Target × Tree)) (scene : Scene) → s ≡ set_all as'
    → step_in a b (set_all as') scene ≡ then_do (values_to_set a b s as' scene) (then_assigned b as')
unfolding step_in values_to_set
set_behind a b s as' scene same =
    sym (then_then (body_checked (world_of a) b (set_all as') scene) (λ _. assigned_values (also_running (nodes_of (set_all as')) (world_of a)) b as') (then_assigned b as'))
    ∙ ap (λ (t : Statement). then_do (values_to_set a b t as' scene) (then_assigned b as')) (sym same)

pub set_not_evaluated : (a : Around) (b : Body) (s : Statement) (as' : List (Target × Tree)) (code : ℕ) (scene next : Scene)
    → s ≡ set_all as' → values_to_set a b s as' scene ≡ failed code next → step_in a b (set_all as') scene ≡ failed code next
set_not_evaluated a b s as' code scene next same h = set_behind a b s as' scene same ∙ ap (λ (x : Ending (List Value)). then_do x (then_assigned b as')) h

pub set_not_assigned : (a : Around) (b b' : Stands) (s : Statement) (as' : List (Target × Tree)) (vs : List Value) (e : SqlRefusal) (scene next : Scene)
    → s ≡ set_all as' → values_to_set a (body_of b) s as' scene ≡ done vs next → AnywhereBy {A = Unit {0}} (body_then b') (Err e) (all_assigned (body_of b) as' vs)
    → EndsAsBy {A = Option Value} (ended_at (body_of b')) (Err e) next (step_in a (body_of b) (set_all as') scene)
set_not_assigned a b b' s as' vs NoMemory scene next same h e = tt
set_not_assigned a b b' s as' vs (Sql code) scene next same h e =
    set_behind a (body_of b) s as' scene same ∙ ap (λ (x : Ending (List Value)). then_do x (then_assigned (body_of b) as')) h
    ∙ ap (λ (x : Ending Body). then_do x (λ after. pure (goes_on after))) (e.ends next)

pub set_done : (a : Around) (b b' : Stands) (s : Statement) (as' : List (Target × Tree)) (vs : List Value) (u : Unit {0}) (scene next : Scene)
    → s ≡ set_all as' → values_to_set a (body_of b) s as' scene ≡ done vs next → AnywhereBy (body_then b') (Ok u) (all_assigned (body_of b) as' vs)
    → step_in a (body_of b) (set_all as') scene ≡ done (ended_at (body_of b') None) next
set_done a b b' s as' vs u scene next same h e =
    set_behind a (body_of b) s as' scene same ∙ ap (λ (x : Ending (List Value)). then_do x (then_assigned (body_of b) as')) h
    ∙ ap (λ (x : Ending Body). then_do x (λ after. pure (goes_on after))) (e.ends next)

pub ruleset setting = (set_not_evaluated, set_done)
