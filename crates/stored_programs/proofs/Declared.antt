-- DECLARE, one step at a time.
use Rattle.std.proofs.Common.{◌≡◌, ℕ, ◌+◌, ◌<◌, ◌≤◌, List, [], ◌∷◌, ◌++◌, length, get_or, drop, refl, sym, ap, ◌∙◌, Result, Ok, Err}
use Rattle.std.proofs.lemmas.List.{drop_all}
use Rattle.val_types.specs.declared.value.Value.{Value}
use Rattle.val_types.specs.declared.refusal.SqlRefusal.{SqlRefusal}
use Rattle.val_types.specs.declared.refusal.SqlRefusal.TheVariants.{Sql, NoMemory}
use Rattle.val_types.specs.declared.definitions.ColType.{ColType}
use Rattle.val_types.specs.Fitting.{fitting}
use Rattle.sql_tree.specs.Statement.{Declared}
use Rattle.sql_tree.specs.StatementView.{view_declaration, view_declarations}
use Rattle.sql_tree.specs.declared.statements.Declaration.{Declaration}
use Rattle.sql_tree.specs.declared.statements.SqlType.{SqlType}
use Rattle.sql_locals.specs.Types.{column_type}
use Rattle.sql_statements.specs.sql_meaning.Scenes.{Scene, Ending, Action, done, failed, then_do, carried_on}
use Rattle.sql_statements.specs.sql_meaning.Running.{Body, declare, declare_name}
use Rattle.exec_state.specs.Stage.{EndsAs, EndsAsBy}
use Rattle.sql_evaluation.specs.declared.world.Around.{Around}
use Rattle.sql_evaluation.specs.Seen.{world_of}
use Rattle.sql_evaluation.proofs.Branching.{rest_is}
use Rattle.stored_programs.specs.declared.body.Body.{Body as Stands}
use Rattle.stored_programs.specs.Bodies.{AnywhereBy, body_of, body_then, view_in}
use Rattle.stored_programs.specs.Steps.{all_declared_in, declared_in, preset_in_body}
use Rattle.stored_programs.proofs.Acting.{Same, ends_so_by}

-- ---- a name

pub name_unfit : (b b' : Stands) (kind : SqlType) (k : ColType) (v : Value) (n : List ℕ) (code : ℕ) → k ≡ column_type kind → fitting k v ≡ Err code
    → AnywhereBy {A = Unit {0}} (body_then b') (Err (Sql code)) (declare_name kind v (body_of b) n)
name_unfit b b' kind k v n code is h = record { ends = λ scene. let e : fitting (column_type kind) v ≡ Err code = rw is at h in rw e refl }

pub name_declared : (b b' : Stands) (kind : SqlType) (k : ColType) (v w : Value) (n m : List ℕ) (known u : Unit {0}) → k ≡ column_type kind → fitting k v ≡ Ok known → w ≡ v → m ≡ n
    → b'.locals ≡ b.locals ++ record { name = m; kind = k; value = w } ∷ [] → b'.new_row ≡ b.new_row → b'.old_row ≡ b.old_row
    → AnywhereBy (body_then b') (Ok u) (declare_name kind v (body_of b) n)
name_declared b b' kind k v w n m known u is h same named locals new old = record {
  ends = λ scene.
      let e : fitting (column_type kind) v ≡ Ok known = rw is at h in
      let all : b.locals ++ record { name = n; kind = column_type kind; value = v } ∷ [] ≡ b'.locals
      = sym (locals ∙ (λ i. b.locals ++ record { name = named i; kind = is i; value = same i } ∷ [])) in
      rw e (λ i. done (record { locals = all i; new_row = view_in ((sym new) i); old_row = view_in ((sym old) i) }) scene);
}

pub ruleset names = (name_unfit, name_declared)

-- ---- names, one after the other

unfoldable pub names_left : SqlType → Value → Body → List (List ℕ) → Action Body
names_left kind v b ns = carried_on (declare_name kind v) b ns

pub names_start : (kind : SqlType) (v : Value) (b : Body) (ns : List (List ℕ)) → Same (names_left kind v b ns) (carried_on (declare_name kind v) b ns)
unfolding names_left
names_start kind v b ns = record { same = λ scene. refl }

names_next : (kind : SqlType) (v : Value) (b : Body) (ns : List (List ℕ)) (i : ℕ) (n : List ℕ) (scene : Scene) → i < length ns → n ≡ get_or ns i n
    → names_left kind v b (drop i ns) scene ≡ then_do (declare_name kind v b n scene) (λ after. names_left kind v after (drop (i + 1) ns))
unfolding names_left
names_next kind v b ns i n scene within is = ap (λ (ms : List (List ℕ)). carried_on (declare_name kind v) b ms scene) (rest_is ns i n within is)

pub names_more : (kind : SqlType) (v : Value) (b b' : Stands) (ns : List (List ℕ)) (i : ℕ) (n : List ℕ) (u : Unit {0}) (o : Action Body)
    → i < length ns → n ≡ get_or ns i n → AnywhereBy (body_then b') (Ok u) (declare_name kind v (body_of b) n)
    → Same (names_left kind v (body_of b) (drop i ns)) o → Same (names_left kind v (body_of b') (drop (i + 1) ns)) o
names_more kind v b b' ns i n u o within is h before = record {
  same = λ scene.
      sym (names_next kind v (body_of b) ns i n scene within is ∙ ap (λ (x : Ending Body). then_do x (λ after. names_left kind v after (drop (i + 1) ns))) (h.ends scene)) ∙ before.same scene;
}

pub names_fail : (kind : SqlType) (v : Value) (b b' : Stands) (ns : List (List ℕ)) (i : ℕ) (n : List ℕ) (code : ℕ) (o : Action Body)
    → i < length ns → n ≡ get_or ns i n → AnywhereBy {A = Unit {0}} (body_then b') (Err (Sql code)) (declare_name kind v (body_of b) n)
    → Same (names_left kind v (body_of b) (drop i ns)) o → AnywhereBy {A = Unit {0}} (body_then b') (Err (Sql code)) o
names_fail kind v b b' ns i n code o within is h before = record {
  ends = λ scene. sym (before.same scene) ∙ names_next kind v (body_of b) ns i n scene within is ∙ ap (λ (x : Ending Body). then_do x (λ after. names_left kind v after (drop (i + 1) ns))) (h.ends scene);
}

pub names_end : (kind : SqlType) (v : Value) (b : Stands) (ns : List (List ℕ)) (i : ℕ) (u : Unit {0}) (o : Action Body) → length ns ≤ i
    → Same (names_left kind v (body_of b) (drop i ns)) o → AnywhereBy (body_then b) (Ok u) o
unfolding names_left
names_end kind v b ns i u o past before = record {
  ends = λ scene. sym (before.same scene) ∙ ap (λ (ms : List (List ℕ)). carried_on (declare_name kind v) (body_of b) ms scene) (drop_all i ns past);
}

pub ruleset all_names = (names_start, names_more, names_fail, names_end)

-- ---- one DECLARE

declare_is : (a : Around) (b : Body) (d : Declared) (scene : Scene) → declared_in a b d scene ≡ then_do (preset_in_body a b d.preset scene) (λ v. carried_on (declare_name d.kind v) b d.names)
unfolding declared_in preset_in_body
declare_is a b d scene = refl

pub declare_not_preset : (a : Around) (b b' : Stands) (d : Declared) (e : SqlRefusal) (scene next : Scene) → EndsAs {A = Value} (Err e) next (preset_in_body a (body_of b) d.preset scene)
    → EndsAsBy {A = Unit {0}} (body_then b') (Err e) next (declared_in a (body_of b) d scene)
declare_not_preset a b b' d NoMemory scene next h = tt
declare_not_preset a b b' d (Sql code) scene next h = declare_is a (body_of b) d scene ∙ ap (λ (x : Ending Value). then_do x (λ v. carried_on (declare_name d.kind v) (body_of b) d.names)) h

pub declare_ends : (a : Around) (b b' : Stands) (d : Declared) (v : Value) (r : Result (Unit {0}) SqlRefusal) (scene next : Scene) → preset_in_body a (body_of b) d.preset scene ≡ done v next
    → AnywhereBy (body_then b') r (carried_on (declare_name d.kind v) (body_of b) d.names) → EndsAsBy (body_then b') r next (declared_in a (body_of b) d scene)
declare_ends a b b' d v r scene next h e =
    ends_so_by (body_then b') r next _ _
    (declare_is a (body_of b) d scene ∙ ap (λ (x : Ending Value). then_do x (λ v. carried_on (declare_name d.kind v) (body_of b) d.names)) h) (e.ends next)

-- ---- DECLAREs, one after the other

unfoldable pub declares_left : Around → Body → List Declaration → Scene → Ending Body
declares_left a b ds scene = all_declared_in a b (view_declarations ds) scene

pub declares_start : (a : Around) (b : Body) (ds : List Declaration) (scene : Scene) → declares_left a b ds scene ≡ all_declared_in a b (view_declarations ds) scene
unfolding declares_left
declares_start a b ds scene = refl

declares_next : (a : Around) (b : Body) (ds : List Declaration) (i : ℕ) (d : Declaration) (scene : Scene) → i < length ds → d ≡ get_or ds i d
    → declares_left a b (drop i ds) scene ≡ then_do (declared_in a b (view_declaration d) scene) (λ after. declares_left a after (drop (i + 1) ds))
unfolding declares_left declared_in all_declared_in
declares_next a b ds i d scene within is = ap (λ (es : List Declaration). carried_on (declare (world_of a)) b (view_declarations es) scene) (rest_is ds i d within is)

pub declares_more : (a : Around) (b b' : Body) (ds : List Declaration) (i : ℕ) (d : Declaration) (scene next : Scene) (o : Ending Body)
    → i < length ds → d ≡ get_or ds i d → declared_in a b (view_declaration d) scene ≡ done b' next
    → declares_left a b (drop i ds) scene ≡ o → declares_left a b' (drop (i + 1) ds) next ≡ o
declares_more a b b' ds i d scene next o within is h before =
    sym (declares_next a b ds i d scene within is ∙ ap (λ (x : Ending Body). then_do x (λ after. declares_left a after (drop (i + 1) ds))) h) ∙ before

pub declares_fail : (a : Around) (b : Body) (ds : List Declaration) (i : ℕ) (d : Declaration) (code : ℕ) (scene next : Scene) (o : Ending Body)
    → i < length ds → d ≡ get_or ds i d → declared_in a b (view_declaration d) scene ≡ failed code next
    → declares_left a b (drop i ds) scene ≡ o → o ≡ failed code next
declares_fail a b ds i d code scene next o within is h before =
    sym before ∙ declares_next a b ds i d scene within is ∙ ap (λ (x : Ending Body). then_do x (λ after. declares_left a after (drop (i + 1) ds))) h

pub declares_end : (a : Around) (b : Body) (ds : List Declaration) (i : ℕ) (scene : Scene) (o : Ending Body) → length ds ≤ i
    → declares_left a b (drop i ds) scene ≡ o → o ≡ done b scene
unfolding declares_left all_declared_in
declares_end a b ds i scene o past before = sym before ∙ ap (λ (es : List Declaration). carried_on (declare (world_of a)) b (view_declarations es) scene) (drop_all i ds past)

pub ruleset all_declared = (declares_start, declares_more, declares_fail, declares_end)
