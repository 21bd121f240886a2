-- Locals added one after the other.
use Rattle.std.proofs.Common.{◌≡◌, ◌<◌, ◌≤◌, ◌+◌, ℕ, List, [], ◌∷◌, ◌++◌, length, get_or, drop, refl, sym, ap, ◌∙◌, Result, Ok, Err}
use Rattle.std.specs.Prelude.{zip}
use Rattle.std.proofs.lemmas.List.{drop_all}
use Rattle.val_types.specs.declared.value.Value.{Value}
use Rattle.val_types.specs.declared.refusal.SqlRefusal.{SqlRefusal}
use Rattle.val_types.specs.declared.refusal.SqlRefusal.TheVariants.{Sql, NoMemory}
use Rattle.val_types.specs.declared.definitions.ColType.{ColType}
use Rattle.val_types.specs.Fitting.{fitting}
use Rattle.sql_tree.specs.declared.statements.SqlType.{SqlType}
use Rattle.sql_tree.specs.declared.statements.Parameter.{Parameter}
use Rattle.sql_locals.specs.Types.{column_type}
use Rattle.sql_locals.specs.declared.locals.Local.{Local}
use Rattle.prog_run.proofs.of_sql_evaluation.Branching.{rest_is}
use Rattle.name_const.specs.proc_model.Procedures.{add_local, add_parameter, all_tried}
use Rattle.proc_parts.specs.Calls.{Tries, always}

-- ---- a name

pub name_unfit : (locals locals' : List Local) (kind : SqlType) (k : ColType) (v : Value) (n : List ℕ) (code : ℕ) → k ≡ column_type kind → fitting k v ≡ Err code
    → Tries {A = Unit {0}} (always locals') (Err (Sql code)) (add_local kind v locals n)
name_unfit locals locals' kind k v n code is h = let e : fitting (column_type kind) v ≡ Err code = rw is at h in rw e refl

pub name_added : (locals locals' : List Local) (kind : SqlType) (k : ColType) (v x : Value) (n m : List ℕ) (known u : Unit {0}) → k ≡ column_type kind → fitting k v ≡ Ok known → x ≡ v → m ≡ n
    → locals' ≡ locals ++ record { name = m; kind = k; value = x } ∷ [] → Tries (always locals') (Ok u) (add_local kind v locals n)
name_added locals locals' kind k v x n m known u is h same named all =
    let e : fitting (column_type kind) v ≡ Ok known = rw is at h in
    let as_said : locals ++ record { name = n; kind = column_type kind; value = v } ∷ [] ≡ locals'
    = sym (all ∙ (λ i. locals ++ record { name = named i; kind = is i; value = same i } ∷ [])) in
    rw e (ap Ok as_said)

pub ruleset names = (name_unfit, name_added)

-- ---- items, one after the other

module _ {S A : Type 0} (f : S → A → Result S ℕ) where
  pub tried_more : (a b : S) (xs : List A) (x : A) (u : Unit {0}) (o : Result S ℕ) → Tries (always b) (Ok u) (f a x) → all_tried f a (x ∷ xs) ≡ o → all_tried f b xs ≡ o
  tried_more a b xs x u o h before = rw h at before

  pub tried_fail : {B : Type 0} (a b : S) (other : B → S) (xs : List A) (x : A) (e : SqlRefusal) (o : Result S ℕ) → Tries {A = Unit {0}} (always b) (Err e) (f a x) → all_tried f a (x ∷ xs) ≡ o → Tries other (Err e) o
  tried_fail a b other xs x (Sql code) o h before = sym before ∙ (rw h refl)
  tried_fail a b other xs x NoMemory o h before = tt

pub names_more : (kind : SqlType) (v : Value) (a b : List Local) (ns : List (List ℕ)) (i : ℕ) (n : List ℕ) (u : Unit {0}) (o : Result (List Local) ℕ)
    → i < length ns → n ≡ get_or ns i n → Tries (always b) (Ok u) (add_local kind v a n) → all_tried (add_local kind v) a (drop i ns) ≡ o → all_tried (add_local kind v) b (drop (i + 1) ns) ≡ o
names_more kind v a b ns i n u o within is h before =
    tried_more (add_local kind v) a b (drop (i + 1) ns) n u o h (rw (rest_is ns i n within is) at before)

pub names_fail : {B : Type 0} (kind : SqlType) (v : Value) (a b : List Local) (other : B → List Local) (ns : List (List ℕ)) (i : ℕ) (n : List ℕ) (e : SqlRefusal) (o : Result (List Local) ℕ)
    → i < length ns → n ≡ get_or ns i n → Tries {A = Unit {0}} (always b) (Err e) (add_local kind v a n) → all_tried (add_local kind v) a (drop i ns) ≡ o → Tries other (Err e) o
names_fail kind v a b other ns i n e o within is h before =
    tried_fail (add_local kind v) a b other (drop (i + 1) ns) n e o h (rw (rest_is ns i n within is) at before)

pub names_end : (kind : SqlType) (v : Value) (a : List Local) (ns : List (List ℕ)) (i : ℕ) (u : Unit {0}) (o : Result (List Local) ℕ) → length ns ≤ i
    → all_tried (add_local kind v) a (drop i ns) ≡ o → Tries (always a) (Ok u) o
names_end kind v a ns i u o past before = sym before ∙ ap (λ (ms : List (List ℕ)). all_tried (add_local kind v) a ms) (drop_all i ns past)

pub ruleset all_names = (names_more, names_fail, names_end)

-- ---- parameters

pub parameters_more : (a b : List Local) (ps : List Parameter) (i : ℕ) (p : Parameter) (v : Value) (vs vs' : List Value) (u : Unit {0}) (o : Result (List Local) ℕ)
    → i < length ps → p ≡ get_or ps i p → vs ≡ v ∷ vs' → Tries (always b) (Ok u) (add_local (p.kind) v a (p.name))
    → all_tried add_parameter a (zip (drop i ps) vs) ≡ o → all_tried add_parameter b (zip (drop (i + 1) ps) vs') ≡ o
parameters_more a b ps i p v vs vs' u o within is first h before =
    tried_more add_parameter a b (zip (drop (i + 1) ps) vs') (p, v) u o h (rw (rest_is ps i p within is, first) at before)

pub parameters_fail : {B : Type 0} (a b : List Local) (other : B → List Local) (ps : List Parameter) (i : ℕ) (p : Parameter) (v : Value) (vs vs' : List Value) (e : SqlRefusal) (o : Result (List Local) ℕ)
    → i < length ps → p ≡ get_or ps i p → vs ≡ v ∷ vs' → Tries {A = Unit {0}} (always b) (Err e) (add_local (p.kind) v a (p.name))
    → all_tried add_parameter a (zip (drop i ps) vs) ≡ o → Tries other (Err e) o
parameters_fail a b other ps i p v vs vs' e o within is first h before =
    tried_fail add_parameter a b other (zip (drop (i + 1) ps) vs') (p, v) e o h (rw (rest_is ps i p within is, first) at before)

zip_none : (ps : List Parameter) (vs : List Value) → vs ≡ [] → zip ps vs ≡ []
zip_none [] vs none = refl
zip_none (p ∷ ps) vs none = rw none refl

pub parameters_short : (a : List Local) (ps : List Parameter) (vs : List Value) (u : Unit {0}) (o : Result (List Local) ℕ) → vs ≡ [] → all_tried add_parameter a (zip ps vs) ≡ o → Tries (always a) (Ok u) o
parameters_short a ps vs u o none before = sym before ∙ ap (λ (xs : List (Parameter × Value)). all_tried add_parameter a xs) (zip_none ps vs none)

pub parameters_end : (a : List Local) (ps : List Parameter) (i : ℕ) (vs : List Value) (u : Unit {0}) (o : Result (List Local) ℕ) → length ps ≤ i
    → all_tried add_parameter a (zip (drop i ps) vs) ≡ o → Tries (always a) (Ok u) o
parameters_end a ps i vs u o past before = sym before ∙ ap (λ (qs : List Parameter). all_tried add_parameter a (zip qs vs)) (drop_all i ps past)

pub ruleset all_parameters = (parameters_more, parameters_short, parameters_end)
