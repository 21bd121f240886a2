-- SET of locals and user variables.
use Rattle.std.proofs.Common.{◌≡◌, ◌≤◌, ◌<◌, ◌+◌, ℕ, List, [], ◌∷◌, length, get_or, drop, Option, Some, None, Result, Ok, Err, refl, sym, ap, ◌∙◌}
use Rattle.std.specs.Prelude.{map, zip}
use Rattle.std.specs.Prelude.{is_some, true, false}
use Rattle.std.proofs.lemmas.List.{drop_all}
use Rattle.val_types.specs.declared.value.Value.{Value}
use Rattle.sql_tree.specs.Tree.{Tree}
use Rattle.sql_tree.specs.StatementView.{view_assignments}
use Rattle.sql_tree.specs.declared.statements.Assignment.{Assignment}
use Rattle.sql_tree.specs.declared.statements.Target.{Target}
use Rattle.name_const.specs.catalog_rules.Names.{first_made}
use Rattle.prog_run.proofs.of_sql_evaluation.Branching.{rest_is}
use Rattle.val_types.specs.Fitting.{fitting}
use Rattle.sql_tree.specs.Statement.{Statement, evaluate, set_all}
use Rattle.sql_locals.specs.Locals.{set_local}
use Rattle.name_const.specs.sql_meaning.Within.{values_assigned}
use Rattle.name_const.specs.proc_model.Talk.{Rules, Led, Talk}
use Rattle.proc_parts.specs.declared.runner.RunRefusal.{RunRefusal}
use Rattle.proc_parts.specs.declared.runner.RunRefusal.TheVariants.{Sql}
use Rattle.proc_parts.specs.declared.world.World.{World}
use Rattle.proc_parts.specs.Calls.{EndsBy, always, plainly, refusal_of}
use Rattle.proc_parts.specs.Parts.{Assigns, AssignsAll, step_at, values_at}
use Rattle.proc_parts.proofs.Behind.{Onto, onto_start, onto_on, onto_ends, onto_done, failed_ends}
use Rattle.sql_locals.specs.declared.locals.Local.{Local}
use Rattle.name_const.specs.proc_model.Procedures.{Held, Ending, Action, done, failed, ◌>>=◌, assign_all, assign_one, assignment_refusal, assignments_of, carried_on, local_refusal, misfit}

pub no_local : (found : Option Local) (v : Value) → None ≡ found → Some 1193 ≡ local_refusal found v
no_local found v is = ap (λ (o : Option Local). local_refusal o v) is

pub local_fits : (found : Option Local) (l : Local) (v : Value) (u : Unit {0}) → Some l ≡ found → Ok u ≡ fitting l.kind v → None ≡ local_refusal found v
local_fits found l v u is h = ap misfit h ∙ ap (λ (o : Option Local). local_refusal o v) is

pub local_unfit : (found : Option Local) (l : Local) (v : Value) (code : ℕ) → Some l ≡ found → Err code ≡ fitting l.kind v → Some code ≡ local_refusal found v
local_unfit found l v code is h = ap misfit h ∙ ap (λ (o : Option Local). local_refusal o v) is

pub ruleset locals = (no_local, local_fits, local_unfit)

-- ---- the first refusal

abbrev refusal_left : List Local → List Assignment → List Value → Option ℕ
refusal_left locals xs vs = first_made (assignment_refusal locals) (assignments_of (view_assignments xs) vs)

abbrev or_later : Option ℕ → Option ℕ → Option ℕ
or_later found later = elim found [ None ↦ later | Some b ↦ Some b ]

refusal_next : (locals : List Local) (xs : List Assignment) (vs : List Value) (i : ℕ) (x : Assignment) (v : Value) → i < length xs → x ≡ get_or xs i x → i < length vs → v ≡ get_or vs i v
    → refusal_left locals (drop i xs) (drop i vs) ≡ or_later (assignment_refusal locals (x.target, v)) (refusal_left locals (drop (i + 1) xs) (drop (i + 1) vs))
refusal_next locals xs vs i x v within is inside at' = rw (rest_is xs i x within is, rest_is vs i v inside at') refl

pub refusals_more : (locals : List Local) (xs : List Assignment) (vs : List Value) (i : ℕ) (x : Assignment) (v : Value) (found o : Option ℕ) → i < length xs → x ≡ get_or xs i x → i < length vs → v ≡ get_or vs i v
    → found ≡ assignment_refusal locals (x.target, v) → is_some found ≡ false → refusal_left locals (drop i xs) (drop i vs) ≡ o → refusal_left locals (drop (i + 1) xs) (drop (i + 1) vs) ≡ o
refusals_more locals xs vs i x v None o within is inside at' h none before = rw (sym h) at (sym (refusal_next locals xs vs i x v within is inside at') ∙ before)
refusals_more locals xs vs i x v (Some code) o within is inside at' h none before = cc

pub refusals_here : (locals : List Local) (xs : List Assignment) (vs : List Value) (i : ℕ) (x : Assignment) (v : Value) (found o : Option ℕ) → i < length xs → x ≡ get_or xs i x → i < length vs → v ≡ get_or vs i v
    → found ≡ assignment_refusal locals (x.target, v) → is_some found ≡ true → refusal_left locals (drop i xs) (drop i vs) ≡ o → found ≡ o
refusals_here locals xs vs i x v None o within is inside at' h some before = cc
refusals_here locals xs vs i x v (Some code) o within is inside at' h some before = rw (sym h) at (sym (refusal_next locals xs vs i x v within is inside at') ∙ before)

zip_none : (ts : List Target) (vs : List Value) → vs ≡ [] → zip ts vs ≡ []
zip_none [] vs none = refl
zip_none (t ∷ ts) vs none = rw none refl

pub refusals_short : (locals : List Local) (xs : List Assignment) (vs : List Value) (i : ℕ) (o : Option ℕ) → length vs ≤ i → refusal_left locals (drop i xs) (drop i vs) ≡ o → None ≡ o
refusals_short locals xs vs i o past before =
    sym (ap (first_made (assignment_refusal locals)) (zip_none (map (λ (a : Target × Tree). a.0) (view_assignments (drop i xs))) (drop i vs) (drop_all i vs past))) ∙ before

pub refusals_end : (locals : List Local) (xs : List Assignment) (vs : List Value) (i : ℕ) (o : Option ℕ) → length xs ≤ i → refusal_left locals (drop i xs) (drop i vs) ≡ o → None ≡ o
refusals_end locals xs vs i o past before = rw (drop_all i xs past) at before

pub ruleset refusals = (refusals_more, refusals_here, refusals_short, refusals_end)

-- ---- assignments

-- the same as Onto, whatever the CALL has so far
pub record OntoAlways {S E : Type 0} (rules : Rules S) (faults : S → ℕ) (now : Held → Talk E) (here : S) (whole : Held → Talk E) (start : S) : Type 0 where
  pub onto : (held : Held) → Onto rules faults (now held) here (whole held) start

module _ {S : Type 0} (rules : Rules S) (faults : S → ℕ) where
  pub local_assigned : (locals locals' : List Local) (n : List ℕ) (v : Value) (u : Unit {0}) (here : S) → locals' ≡ set_local n v locals
      → Assigns rules faults locals locals' (Target.Plain n, v) (Ok u) here here
  local_assigned locals locals' n v u here is = record { ends = λ held. (ap (λ (ls : List Local). done ls held) is, refl) }

  pub user_assigned : (locals : List Local) (n : List ℕ) (v : Value) (u : Unit {0}) (before after : S) → rules.assigned before n v after
      → Assigns rules faults locals locals (Target.User n, v) (Ok u) before after
  user_assigned locals n v u before after h = record { ends = λ held. (after, h, (refl, refl)) }

  pub new_assigned : (locals : List Local) (c : List ℕ) (v : Value) (u : Unit {0}) (here : S) → Assigns rules faults locals locals (Target.New c, v) (Ok u) here here
  new_assigned locals c v u here = record { ends = λ held. (refl, refl) }

  pub system_assigned : (locals : List Local) (n : List ℕ) (v : Value) (u : Unit {0}) (here : S) → Assigns rules faults locals locals (Target.System n, v) (Ok u) here here
  system_assigned locals n v u here = record { ends = λ held. (refl, refl) }

  all_next : (locals : List Local) (xs : List Assignment) (i : ℕ) (x : Assignment) (v : Value) (vs vs' : List Value) (held : Held) → i < length xs → x ≡ get_or xs i x → vs ≡ v ∷ vs'
      → carried_on assign_one locals (assignments_of (view_assignments (drop i xs)) vs) held
      ≡ (assign_one locals (x.target, v) >>= λ next. carried_on assign_one next (assignments_of (view_assignments (drop (i + 1) xs)) vs')) held
  all_next locals xs i x v vs vs' held within is first = rw (rest_is xs i x within is, first) refl

  pub all_more : (locals locals' : List Local) (xs : List Assignment) (i : ℕ) (x : Assignment) (v : Value) (vs vs' : List Value) (u : Unit {0}) (start before after : S) (whole : Held → Talk (Ending (List Local)))
      → i < length xs → x ≡ get_or xs i x → vs ≡ v ∷ vs' → Assigns rules faults locals locals' (x.target, v) (Ok u) before after → faults before ≤ faults after
      → OntoAlways rules faults (λ held. carried_on assign_one locals (assignments_of (view_assignments (drop i xs)) vs) held) before whole start
      → OntoAlways rules faults (λ held. carried_on assign_one locals' (assignments_of (view_assignments (drop (i + 1) xs)) vs') held) after whole start
  all_more locals locals' xs i x v vs vs' u start before after whole within is first h later so_far = record {
    onto = λ held.
        onto_on rules faults _ (carried_on assign_one locals (assignments_of (view_assignments (drop i xs)) vs) held) (whole held) after before start
        (rw (all_next locals xs i x v vs vs' held within is first) (onto_done rules faults (assign_one locals (x.target, v)) (λ next. carried_on assign_one next (assignments_of (view_assignments (drop (i + 1) xs)) vs')) locals' held held before after later (h.ends held)))
        (so_far.onto held);
  }

  pub all_fail : (locals locals' : List Local) (xs : List Assignment) (i : ℕ) (x : Assignment) (v : Value) (vs vs' : List Value) (e : RunRefusal) (start before after : S) (whole : List (Target × Value))
      → i < length xs → x ≡ get_or xs i x → vs ≡ v ∷ vs' → Assigns rules faults locals locals' (x.target, v) (Err e) before after
      → (origin : List Local) → OntoAlways rules faults (λ held. carried_on assign_one locals (assignments_of (view_assignments (drop i xs)) vs) held) before (λ held. carried_on assign_one origin whole held) start
      → AssignsAll rules faults origin locals' whole (Err e) start after
  all_fail locals locals' xs i x v vs vs' e start before after whole within is first h origin so_far = record {
    ends = λ held.
        onto_ends rules faults (always locals') (Err e) held (carried_on assign_one locals (assignments_of (view_assignments (drop i xs)) vs) held) (carried_on assign_one origin whole held) before start after (so_far.onto held)
        (rw (all_next locals xs i x v vs vs' held within is first) (failed_ends rules faults (assign_one locals (x.target, v)) (λ next. carried_on assign_one next (assignments_of (view_assignments (drop (i + 1) xs)) vs')) (always locals') (always locals') e held held before after (h.ends held)));
  }

  pub all_short : (locals origin : List Local) (xs : List Assignment) (i : ℕ) (vs : List Value) (u : Unit {0}) (start here : S) (whole : List (Target × Value)) → vs ≡ []
      → OntoAlways rules faults (λ held. carried_on assign_one locals (assignments_of (view_assignments (drop i xs)) vs) held) here (λ held. carried_on assign_one origin whole held) start
      → AssignsAll rules faults origin locals whole (Ok u) start here
  all_short locals origin xs i vs u start here whole none so_far = record {
    ends = λ held. (so_far.onto held).on (done locals held) here (rw (zip_none (map (λ (a : Target × Tree). a.0) (view_assignments (drop i xs))) vs none) (refl, refl));
  }

  pub all_end : (locals origin : List Local) (xs : List Assignment) (i : ℕ) (vs : List Value) (u : Unit {0}) (start here : S) (whole : List (Target × Value)) → length xs ≤ i
      → OntoAlways rules faults (λ held. carried_on assign_one locals (assignments_of (view_assignments (drop i xs)) vs) held) here (λ held. carried_on assign_one origin whole held) start
      → AssignsAll rules faults origin locals whole (Ok u) start here
  all_end locals origin xs i vs u start here whole past so_far = record {
    ends = λ held. (so_far.onto held).on (done locals held) here (rw (drop_all i xs past) (refl, refl));
  }

  pub all_start : (locals : List Local) (as' : List (Target × Value)) (here : S) → OntoAlways rules faults (λ held. carried_on assign_one locals as' held) here (λ held. carried_on assign_one locals as' held) here
  all_start locals as' here = record { onto = λ held. onto_start rules faults _ here }

pub ruleset one_assigned = (local_assigned, user_assigned, new_assigned, system_assigned)

pub ruleset all_assigned = (all_start, all_more, all_short, all_end)

-- ---- SET

module _ {S : Type 0} (rules : Rules S) (faults : S → ℕ) (w : World) (locals : List Local) (as' : List (Target × Tree)) where
  behind_values : List Value → Action (List Local)
  behind_values vs = assign_all locals (assignments_of as' vs)

  set_is : (held : Held) → step_at w locals (set_all as') held ≡ (values_at w locals (evaluate (values_assigned as')) >>= behind_values) held
  unfolding step_at values_at behind_values
  set_is held = refl

  pub set_unvalued : {B : Type 0} (other : B → List Local) (q : Statement) (e : RunRefusal) (held held' : Held) (before after : S) → q ≡ evaluate (values_assigned as')
      → EndsBy {A = List Value} rules faults plainly (Err e) held' before (values_at w locals q held) after → EndsBy rules faults other (Err e) held' before (step_at w locals (set_all as') held) after
  set_unvalued other q e held held' before after is h =
      rw (set_is held) (failed_ends rules faults (values_at w locals (evaluate (values_assigned as'))) behind_values plainly other e held held' before after (rw is at h))

  valued_onto : (q : Statement) (vs : List Value) (held held' : Held) (before mid : S) → q ≡ evaluate (values_assigned as')
      → Led rules (values_at w locals q held) before (done vs held') mid → faults before ≤ faults mid
      → Onto rules faults (assign_all locals (assignments_of as' vs) held') mid (step_at w locals (set_all as') held) before
  unfolding behind_values
  valued_onto q vs held held' before mid is h later =
      rw (set_is held) (onto_done rules faults (values_at w locals (evaluate (values_assigned as'))) behind_values vs held held' before mid later (rw is at h))

  pub set_refused : {B : Type 0} (other : B → List Local) (q : Statement) (vs : List Value) (code : ℕ) (held held' : Held) (before after : S) → q ≡ evaluate (values_assigned as')
      → EndsBy rules faults plainly (Ok vs) held' before (values_at w locals q held) after → faults before ≤ faults after
      → Some code ≡ first_made (assignment_refusal locals) (assignments_of as' vs)
      → EndsBy rules faults other (Err (Sql code None)) held' before (step_at w locals (set_all as') held) after
  set_refused other q vs code held held' before after is h later found =
      (valued_onto q vs held held' before after is h later).on (failed (refusal_of code None) held') after (rw (sym found) (refl, refl))

  pub set_done : (locals' : List Local) (q : Statement) (vs : List Value) (r : Result (Unit {0}) RunRefusal) (held held' : Held) (before mid after : S) → q ≡ evaluate (values_assigned as')
      → EndsBy rules faults plainly (Ok vs) held' before (values_at w locals q held) mid → faults before ≤ faults mid
      → None ≡ first_made (assignment_refusal locals) (assignments_of as' vs)
      → AssignsAll rules faults locals locals' (assignments_of as' vs) r mid after
      → EndsBy rules faults (always locals') r held' before (step_at w locals (set_all as') held) after
  set_done locals' q vs r held held' before mid after is h later none all =
      onto_ends rules faults (always locals') r held' (assign_all locals (assignments_of as' vs) held') _ mid before after (valued_onto q vs held held' before mid is h later)
      (rw (sym none) (all.ends held'))

pub ruleset setting = (set_unvalued, set_refused, set_done)
