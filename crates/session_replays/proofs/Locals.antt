-- A procedure asks for what it runs and evaluates with no more left than a command has, runs what is read as its text says, and
-- evaluates where each local holds a value that NAME_CONST can say, whatever it is told.
use Rattle.std.proofs.Common.{◌≡◌, ◌≤◌, ℕ, zero, suc, Bool, true, false, List, [], ◌∷◌, ◌++◌, map, length, take, zip, Option, Some, None, Result, Ok, Err, refl, ◌∙◌, subst, cond}
use Rattle.std.specs.Prelude.{◌==◌, nat_eq, nat_le, not, is_some, option_to_list}
use Rattle.std.specs.List.{AllByRecursion, list_all}
use Rattle.std.specs.Cmp.Lexicographic.{pointwise}
use Rattle.std.proofs.lemmas.Bool.{and_parts}
use Rattle.std.proofs.Math.Nat.{le_trans, le_of_suc-le}
use Rattle.val_types.specs.declared.value.Value.{Value}
use Rattle.val_types.specs.declared.definitions.ColType.{ColType}
use Rattle.val_types.specs.declared.definitions.ColType.TheVariants as kinds
use Rattle.val_types.specs.Fitting.{fitting}
use Rattle.value_rules.specs.Operators.{truth_of, with_value}
use Rattle.value_rules.specs.Functions.{is_known_true}
use Rattle.sql_tree.specs.Tree.{Tree, Trees, no_tree, tree, Part, no_part, part}
use Rattle.sql_tree.specs.Statement.{Declared, Program, Statement, create_table, create_function, create_procedure, create_trigger, drop_table, drop_function, drop_procedure, drop_trigger, truncate, insert_into, replace_into, update_rows, delete_rows, select, evaluate, set_all, call_procedure, begin, commit, rollback, savepoint, rollback_to, release_savepoint, block, if_steps, while_steps, return_value}
use Rattle.sql_tree.specs.Statement.{Statements, no_statement, statement, Branches, no_branch, branch, Otherwise, no_else, else_steps}
use Rattle.sql_tree.specs.Well.{IsWell, is_well_step}
use Rattle.sql_tree.specs.declared.statements.SqlType.{SqlType}
use Rattle.sql_tree.specs.declared.statements.SqlType.TheVariants as types
use Rattle.sql_tree.specs.declared.statements.Parameter.{Parameter}
use Rattle.sql_tree.specs.declared.statements.Target.{Target}
use Rattle.sql_locals.specs.Locals.{find_from, find_local, set_local}
use Rattle.sql_locals.specs.Types.{column_type, has_size}
use Rattle.sql_locals.specs.declared.locals.Local.{Local}
use Rattle.name_const_laws.specs.catalog_rules.Bodies.{declared_types, types_in_steps, types_in_branches, types_in_otherwise}
use Rattle.name_const_laws.specs.catalog_rules.Checks.{statement_refusal}
use Rattle.name_const_laws.specs.catalog_rules.Creating.{program_types}
use Rattle.name_const_laws.specs.catalog_rules.Names.{first_made, is_among, same_name}
use Rattle.name_const_laws.specs.catalog_rules.Objects.{Object, table, function, procedure, reaction, as_procedure, procedure_in, name_of, parameters_of, result_of, body_of}
use Rattle.name_const_laws.specs.sql_meaning.Running.{most_nested, most_turns}
use Rattle.name_const_laws.specs.sql_meaning.Within.{listed, branch_steps, else_listed, do_one, do_part, do_presets, do_conditions, values_assigned}
use Rattle.name_const_laws.specs.sql_reach.Closing.{closed}
use Rattle.name_const_laws.specs.Laws.{is_short, holds_short}
use Rattle.session_model.specs.proc_model.Closing.{closing_refusal}
use Rattle.session_model.specs.proc_model.Talk.{Left, Refusal, Effect, Told, Talk, ends, runs, evaluates, assigns, and_then, Steps, brought}
use Rattle.session_model.specs.proc_model.Procedures.{Held, Ending, done, failed, Action, unless_failed, ◌>>=◌, pure, fail, answered, let_through, carried_on, then_try, all_tried, turn_spent, spend_turn, heard_with, heard_as, run_closed, evaluate_with, World, checked_values, first_value, value_of, holds_here, local_of, add_local, preset_value, declare, add_parameter, misfit, local_refusal, assignment_refusal, assign_one, assignments_of, assign_all, set_step, is_plain, note, plain_step, other_step, argument_values, scope_of, call_step, turns, step, steps, step_of_branches, steps_otherwise, procedure_body, free_procedure, started, call_at, begins, came, called}
use Rattle.session_replays.specs.Bodies.{has_well_body}
use Rattle.session_replays.specs.Sizes.{has_sizes}
use Rattle.session_replays.proofs.Closing.{IsSound, body_sound, split_such, steps_sound, dos_well, plain_well, IsSaid, IsClosed, ClosingLaws}
use Rattle.session_replays.proofs.Sizing.{split_all}
use Rattle.session_replays.proofs.Spending.{IsWithin}

-- ---- talks that ask only what is such

-- What holds of each statement and of the expressions that a talk asks for.
pub record Asked : Type 1 where
  pub run : Left → Statement → Type 0
  pub give : Left → List Local → Trees → Type 0

-- only such things are asked, where no turn comes back, and the end is such
abbrev pub Only : {A : Type 0} → Asked → (A → Type 0) → Talk A → Type 0
Only asked end (ends a) = end a
Only asked end (runs left s go) = asked.run left s × ((told : Told Effect) → told.turns ≤ left.turns → Only asked end (go told))
Only asked end (evaluates left locals ts go) = asked.give left locals ts × ((told : Told (List Value)) → told.turns ≤ left.turns → Only asked end (go told))
Only asked end (assigns n v go) = Only asked end go

-- what each step keeps, where only that is asked and no turn comes back, the talk keeps
pub talk_keeps_where : {S A : Type 0} (steps : Steps S) (holds : S → Type 0) (asked : Asked) (end : A → Type 0)
    → ((left : Left) (s : Statement) (state : S) → asked.run left s → holds state → holds (steps.run left s state).1 × ((steps.run left s state).0.turns ≤ left.turns))
    → ((left : Left) (locals : List Local) (ts : Trees) (state : S) → asked.give left locals ts → holds state
    → holds (steps.evaluate left locals ts state).1 × ((steps.evaluate left locals ts state).0.turns ≤ left.turns))
    → ((n : List ℕ) (v : Value) (state : S) → holds state → holds (steps.assign n v state))
    → (talk : Talk A) (state : S) → Only asked end talk → holds state → holds (brought steps talk state).1
talk_keeps_where steps holds asked end r g a (ends x) state o h = h
talk_keeps_where steps holds asked end r g a (runs left s go) state o h =
    let m = r left s state o.0 h in
    talk_keeps_where steps holds asked end r g a (go (steps.run left s state).0) (steps.run left s state).1 (o.1 (steps.run left s state).0 m.1) m.0
talk_keeps_where steps holds asked end r g a (evaluates left locals ts go) state o h =
    let m = g left locals ts state o.0 h in
    talk_keeps_where steps holds asked end r g a (go (steps.evaluate left locals ts state).0) (steps.evaluate left locals ts state).1 (o.1 (steps.evaluate left locals ts state).0 m.1) m.0
talk_keeps_where steps holds asked end r g a (assigns n v go) state o h = talk_keeps_where steps holds asked end r g a go (steps.assign n v state) o (a n v state h)

only_then : {A B : Type 0} (asked : Asked) (first : A → Type 0) (last : B → Type 0) (m : Talk A) (next : A → Talk B) → Only asked first m → ((a : A) → first a → Only asked last (next a))
    → Only asked last (and_then m next)
only_then asked first last (ends a) next o k = k a o
only_then asked first last (runs left s go) next o k = (o.0, λ told t. only_then asked first last (go told) next (o.1 told t) k)
only_then asked first last (evaluates left locals ts go) next o k = (o.0, λ told t. only_then asked first last (go told) next (o.1 told t) k)
only_then asked first last (assigns n v go) next o k = only_then asked first last go next o k

-- any end
abbrev pub Any : {A : Type 0} → A → Type 0
Any a = Unit {0}

-- ---- locals

abbrev has_room : ColType → Bool
has_room kinds.Int = true
has_room kinds.BigInt = true
has_room (kinds.Varchar most) = nat_le most 65535

-- a local holds a short value, and its type takes no other
pub record Fits (l : Local) : Type 0 where
  pub room : has_room l.kind ≡ true
  pub short : is_short l.value ≡ true

abbrev pub AllFit : List Local → Type 0
AllFit [] = Unit {0}
AllFit (l ∷ ls) = Fits l × AllFit ls

-- no more is left than a command has, what is run is read as its text says, locals are such, and expressions may be closed over them
abbrev pub such : Asked
such = record {
  run = λ left s. IsWithin left × IsSaid s;
  give = λ left locals ts. IsWithin left × AllFit locals × IsClosed (evaluate ts) locals;
}

pub all_short : (ls : List Local) → AllFit ls → list_all holds_short ls ≡ true
all_short [] f = refl
all_short (l ∷ ls) f = rw (f.0.short, all_short ls f.1) refl

one_more : (ls : List Local) (l : Local) → AllFit ls → Fits l → AllFit (ls ++ l ∷ [])
one_more [] l f g = (g, tt)
one_more (k ∷ ls) l f g = (f.0, one_more ls l f.1 g)

first_ones : (k : ℕ) (ls : List Local) → AllFit ls → AllFit (take k ls)
first_ones zero ls f = tt
first_ones (suc k) [] f = tt
first_ones (suc k) (l ∷ ls) f = (f.0, first_ones k ls f.1)

set_fits : (n : List ℕ) (v : Value) (ls : List Local) → is_short v ≡ true → AllFit ls → AllFit (set_local n v ls)
set_fits n v [] e f = tt
set_fits n v (l ∷ ls) e f = by (is_some (find_local ls n)) (pointwise nat_eq l.name n) (set_fits n v ls e f.1)
  where
    by : (b c : Bool) → AllFit (set_local n v ls) → AllFit (cond b (l ∷ set_local n v ls) (cond c (record l { value = v } ∷ ls) (l ∷ ls)))
    by true c more = (f.0, more)
    by false true more = (record { room = f.0.room; short = e }, f.1)
    by false false more = f

-- the local that a name means
abbrev FitsIf : Option Local → Type 0
FitsIf None = Unit {0}
FitsIf (Some l) = Fits l

found_from : (found : Option Local) (ls : List Local) (n : List ℕ) → FitsIf found → AllFit ls → FitsIf (find_from found ls n)
found_from found [] n f g = f
found_from found (l ∷ ls) n f g = found_from (cond (pointwise nat_eq l.name n) (Some l) found) ls n (by (pointwise nat_eq l.name n)) g.1
  where
    by : (b : Bool) → FitsIf (cond b (Some l) found)
    by true = g.0
    by false = f

-- A procedure with types of sizes that there are, and a body that the parser can give.
record IsReady (p : Program) : Type 0 where
  sizes : list_all has_size (program_types p) ≡ true
  body : IsSound (body_of p)

module _ (laws : ClosingLaws) where
  -- a value that fits a type with room is short
  fitted_short : (kind : ColType) (v : Value) → has_room kind ≡ true → fitting kind v ≡ Ok tt → is_short v ≡ true
  fitted_short kinds.Int v room e = laws.fits types.Int v refl e
  fitted_short kinds.BigInt v room e = laws.fits types.BigInt v refl e
  fitted_short (kinds.Varchar most) v room e = laws.fits (types.Varchar most) v room e

  type_room : (kind : SqlType) → has_size kind ≡ true → has_room (column_type kind) ≡ true
  type_room types.Int e = refl
  type_room types.BigInt e = refl
  type_room (types.Varchar most) e = e

  -- what an assignment refuses not, is short
  assigned_short : (locals : List Local) (n : List ℕ) (v : Value) → AllFit locals → assignment_refusal locals (Target.Plain n, v) ≡ None → is_short v ≡ true
  assigned_short locals n v f e = by (find_local locals n) (found_from None locals n tt f) e
    where
      fits : (kind : ColType) (r : Result (Unit {0}) ℕ) → fitting kind v ≡ r → has_room kind ≡ true → misfit r ≡ None → is_short v ≡ true
      fits kind (Ok u) q room x = fitted_short kind v room q
      fits kind (Err code) q room x = cc

      by : (o : Option Local) → FitsIf o → local_refusal o v ≡ None → is_short v ≡ true
      by None g x = cc
      by (Some l) g x = fits l.kind (fitting l.kind v) refl g.room x

  -- one local more of a type that there is
  added_fit : (kind : SqlType) (v : Value) (locals : List Local) (n : List ℕ) (out : List Local) → has_size kind ≡ true → AllFit locals → add_local kind v locals n ≡ Ok out → AllFit out
  added_fit kind v locals n out size f e = by (fitting (column_type kind) v) refl e
    where
      added : locals ++ local_of n kind v ∷ [] ≡ out → is_short v ≡ true → AllFit out
      added q short = subst AllFit q (one_more locals (local_of n kind v) f (record { room = type_room kind size; short = short }))

      by : (r : Result (Unit {0}) ℕ) → fitting (column_type kind) v ≡ r → with_value {A = Unit {0}} {B = List Local} (λ _. locals ++ local_of n kind v ∷ []) r ≡ Ok out → AllFit out
      by (Ok u) q x = let same : locals ++ local_of n kind v ∷ [] ≡ out = cc in added same (laws.fits kind v size q)
      by (Err code) q x = cc

  -- several
  tried_names : (kind : SqlType) (v : Value) (ns : List (List ℕ)) (locals out : List Local) → has_size kind ≡ true → AllFit locals → all_tried (add_local kind v) locals ns ≡ Ok out → AllFit out
  tried_names kind v [] locals out size f e = let same : locals ≡ out = cc in subst AllFit same f
  tried_names kind v (n ∷ ns) locals out size f e =
      by (add_local kind v locals n) refl e (λ next q x. tried_names kind v ns next out size (added_fit kind v locals n next size f q) x)
    where
      by : (r : Result (List Local) ℕ) → add_local kind v locals n ≡ r → then_try r (λ next. all_tried (add_local kind v) next ns) ≡ Ok out
          → ((next : List Local) → add_local kind v locals n ≡ Ok next → all_tried (add_local kind v) next ns ≡ Ok out → AllFit out) → AllFit out
      by (Ok next) q x more = more next q x
      by (Err code) q x more = cc

  tried_parameters : (ps : List Parameter) (vs : List Value) (locals out : List Local) → list_all has_size (map (λ (q : Parameter). q.kind) ps) ≡ true → AllFit locals
      → all_tried add_parameter locals (zip ps vs) ≡ Ok out → AllFit out
  tried_parameters [] vs locals out size f e = let same : locals ≡ out = cc in subst AllFit same f
  tried_parameters (p ∷ ps) [] locals out size f e = let same : locals ≡ out = cc in subst AllFit same f
  tried_parameters (p ∷ ps) (v ∷ vs) locals out size f e =
      let s = and_parts (has_size p.kind) (list_all has_size (map (λ (k : Parameter). k.kind) ps)) size in
      by (add_parameter locals (p, v)) refl e (λ next q x. tried_parameters ps vs next out s.1 (added_fit p.kind v locals p.name next s.0 f q) x)
    where
      by : (r : Result (List Local) ℕ) → add_parameter locals (p, v) ≡ r → then_try r (λ next. all_tried add_parameter next (zip ps vs)) ≡ Ok out
          → ((next : List Local) → add_parameter locals (p, v) ≡ Ok next → all_tried add_parameter next (zip ps vs) ≡ Ok out → AllFit out) → AllFit out
      by (Ok next) q x more = more next q x
      by (Err code) q x more = cc

  -- ---- actions

  abbrev DoneAs : {A : Type 0} → (A → Type 0) → Ending A → Type 0
  DoneAs end (done a held) = end a × (held.turns ≤ most_turns)
  DoneAs end (failed refusal held) = Unit {0}

  -- an action evaluates only so, and gives what is such
  abbrev Acts : {A : Type 0} → (A → Type 0) → Action A → Type 0
  Acts end m = (held : Held) → held.turns ≤ most_turns → Only such (DoneAs end) (m held)

  goes_on : {A B : Type 0} (first : A → Type 0) (last : B → Type 0) (m : Action A) (next : A → Action B) → Acts first m → ((a : A) → first a → Acts last (next a)) → Acts last (m >>= next)
  goes_on {A = A} first last m next h k held few = only_then such (DoneAs first) (DoneAs last) (m held) (unless_failed next) (h held few) by
    where
      by : (e : Ending A) → DoneAs first e → Only such (DoneAs last) (unless_failed next e)
      by (done a now) x = k a x.0 now x.1
      by (failed refusal now) x = tt

  answered_acts : {A : Type 0} (end : A → Type 0) (r : Result A ℕ) → ((a : A) → r ≡ Ok a → end a) → Acts end (answered r)
  answered_acts end (Ok a) h held few = (h a refl, few)
  answered_acts end (Err code) h held few = tt

  -- behind a check
  behind_check : {B : Type 0} (last : B → Type 0) (code : Option ℕ) (next : Action B) → (code ≡ None → Acts last next) → Acts last (let_through code >>= λ _. next)
  behind_check last None next h held few = h refl held few
  behind_check last (Some code) next h held few = tt

  heard_any : {A : Type 0} (r : Result A Refusal) (held : Held) → held.turns ≤ most_turns → DoneAs Any (heard_as r held)
  heard_any (Ok a) held few = (tt, few)
  heard_any (Err refusal) held few = tt

  run_acts : (nesting : ℕ) → nesting ≤ most_nested → (s : Statement) → IsSaid s → Acts Any (run_closed nesting s)
  run_acts nesting low s said held few =
      ((record { nesting = low; turns = few }, said), λ told t. heard_any told.result (heard_with told held) (le_trans t few))

  evaluate_acts : (nesting : ℕ) → nesting ≤ most_nested → (locals : List Local) (ts : Trees) → AllFit locals → IsClosed (evaluate ts) locals → Acts Any (evaluate_with nesting locals ts)
  evaluate_acts nesting low locals ts f closes held few =
      ((record { nesting = low; turns = few }, f, closes), λ told t. heard_any told.result (heard_with told held) (le_trans t few))

  values_act : (world : World) (low : world.nesting ≤ most_nested) (locals : List Local) (ts : Trees) → AllFit locals → IsWell (evaluate ts) → Acts Any (checked_values world locals ts)
  values_act world low locals ts f w =
      behind_check Any (closing_refusal (evaluate ts) locals) (evaluate_with world.nesting locals ts)
      (λ e. evaluate_acts world.nesting low locals ts f (laws.says (evaluate ts) locals refl w e))

  value_acts : (world : World) (low : world.nesting ≤ most_nested) (locals : List Local) (t : Tree) → AllFit locals → IsWell (do_one t) → Acts Any (value_of world locals t)
  value_acts world low locals t f w = goes_on Any Any (checked_values world locals (tree t no_tree)) (λ vs. pure (first_value vs)) (values_act world low locals (tree t no_tree) f w) (λ vs x held few. (tt, few))

  holds_acts : (world : World) (low : world.nesting ≤ most_nested) (locals : List Local) (t : Tree) → AllFit locals → IsWell (do_one t) → Acts Any (holds_here world locals t)
  holds_acts world low locals t f w =
      goes_on Any Any (value_of world locals t) (λ v. answered (with_value is_known_true (truth_of v))) (value_acts world low locals t f w)
      (λ v x. answered_acts Any (with_value is_known_true (truth_of v)) (λ a e. tt))

  -- ---- DECLARE and SET

  preset_acts : (world : World) (low : world.nesting ≤ most_nested) (locals : List Local) (p : Part) → AllFit locals → AllByRecursion IsWell (do_part p) → Acts Any (preset_value world locals p)
  preset_acts world low locals no_part f w = λ held few. (tt, few)
  preset_acts world low locals (part t) f w = value_acts world low locals t f w.0

  declare_acts : (world : World) (low : world.nesting ≤ most_nested) (locals : List Local) (d : Declared) → has_size d.kind ≡ true → AllFit locals → AllByRecursion IsWell (do_part d.preset) → Acts AllFit (declare world locals d)
  declare_acts world low locals d size f w =
      goes_on Any AllFit (preset_value world locals d.preset) (λ v. answered (all_tried (add_local d.kind v) locals d.names)) (preset_acts world low locals d.preset f w)
      (λ v x. answered_acts AllFit (all_tried (add_local d.kind v) locals d.names) (λ out e. tried_names d.kind v d.names locals out size f e))

  declares_act : (world : World) (low : world.nesting ≤ most_nested) (ds : List Declared) (locals : List Local) → list_all has_size (map (λ (d : Declared). d.kind) ds) ≡ true → AllFit locals → AllByRecursion IsWell (do_presets ds)
      → Acts AllFit (carried_on (declare world) locals ds)
  declares_act world low [] locals size f w = λ held few. (f, few)
  declares_act world low (d ∷ ds) locals size f w =
      let s = and_parts (has_size d.kind) (list_all has_size (map (λ (k : Declared). k.kind) ds)) size in
      let v = split_such IsWell (do_part d.preset) (do_presets ds) w in
      goes_on AllFit AllFit (declare world locals d) (λ next. carried_on (declare world) next ds) (declare_acts world low locals d s.0 f v.0) (λ next g. declares_act world low ds next s.1 g v.1)

  assign_acts : (locals : List Local) (target : Target) (v : Value) → (assignment_refusal locals (target, v) ≡ None → (now : List Local) → AllFit locals → AllFit now → Acts AllFit (assign_one now (target, v)))
  assign_acts locals (Target.Plain n) v e now f g = λ held few. (set_fits n v now (assigned_short locals n v f e) g, few)
  assign_acts locals (Target.User n) v e now f g = λ held few. (g, few)
  assign_acts locals (Target.New c) v e now f g = λ held few. (g, few)
  assign_acts locals (Target.System n) v e now f g = λ held few. (g, few)

  -- assignments that were let through where the locals were others
  assigns_act : (locals : List Local) (as' : List (Target × Value)) (now : List Local) → first_made (assignment_refusal locals) as' ≡ None → AllFit locals → AllFit now → Acts AllFit (carried_on assign_one now as')
  assigns_act locals [] now e f g = λ held few. (g, few)
  assigns_act locals (a ∷ as') now e f g = by (assignment_refusal locals a) refl e (λ x next k. assigns_act locals as' next x f k)
    where
      by : (o : Option ℕ) → assignment_refusal locals a ≡ o → elim o as (λ _. Option ℕ) [ None ↦ first_made (assignment_refusal locals) as' | Some b ↦ Some b ] ≡ None
          → (first_made (assignment_refusal locals) as' ≡ None → (next : List Local) → AllFit next → Acts AllFit (carried_on assign_one next as')) → Acts AllFit (carried_on assign_one now (a ∷ as'))
      by None q x more = goes_on AllFit AllFit (assign_one now a) (λ next. carried_on assign_one next as') (assign_acts locals a.0 a.1 q now f g) (more x)
      by (Some code) q x more = cc

  -- the DO over the expressions of a SET
  assigned_well : (as' : List (Target × Tree)) → IsSound (set_all as') → IsWell (evaluate (values_assigned as'))
  assigned_well [] h = let none : is_well_step (set_all []) ≡ true = h.well in cc
  assigned_well (a ∷ as') h = (dos_well laws.parts (set_all (a ∷ as')) h).0

  set_acts : (world : World) (low : world.nesting ≤ most_nested) (locals : List Local) (as' : List (Target × Tree)) → AllFit locals → IsSound (set_all as') → Acts AllFit (set_step world locals as')
  set_acts world low locals as' f h =
      goes_on Any AllFit (checked_values world locals (values_assigned as')) (λ vs. assign_all locals (assignments_of as' vs)) (values_act world low locals (values_assigned as') f (assigned_well as' h))
      (λ vs x. behind_check AllFit (first_made (assignment_refusal locals) (assignments_of as' vs)) (carried_on assign_one locals (assignments_of as' vs))
      (λ e. assigns_act locals (assignments_of as' vs) locals e f f))

  -- ---- changes, SELECT and DO

  plain_acts : (world : World) (low : world.nesting ≤ most_nested) (locals : List Local) (s : Statement) → AllFit locals → is_plain s ≡ true → IsSound s → Acts AllFit (plain_step world locals s)
  plain_acts world low locals s f p h =
      behind_check AllFit (closing_refusal s locals) (run_closed world.nesting (closed s locals) >>= note >>= λ _. pure locals)
      (λ e. goes_on Any AllFit (run_closed world.nesting (closed s locals) >>= note) (λ _. pure locals)
      (goes_on Any Any (run_closed world.nesting (closed s locals)) note (run_acts world.nesting low (closed s locals) (laws.says s locals p (plain_well s p h) e).said) (λ effect x held few. (tt, few))) (λ u x held few. (f, few)))

  other_acts : (world : World) (low : world.nesting ≤ most_nested) (locals : List Local) (s : Statement) → AllFit locals → IsSound s → Acts AllFit (other_step world locals s)
  other_acts world low locals s f h = by (is_plain s) refl
    where
      by : (b : Bool) → is_plain s ≡ b → Acts AllFit (cond b (plain_step world locals s) (fail 30005))
      by true e = plain_acts world low locals s f e h
      by false e = λ held few. tt

  -- ---- steps

  module _ (world : World) (low : world.nesting ≤ most_nested) (calls : (n : List ℕ) (vs : List Value) → Acts Any (world.call n vs)) where
    arguments_act : (locals : List Local) (n : List ℕ) (ts : Trees) → AllFit locals → IsSound (call_procedure n ts) → closing_refusal (evaluate ts) locals ≡ None → Acts Any (argument_values world locals ts)
    arguments_act locals n no_tree f h e = λ held few. (tt, few)
    arguments_act locals n (tree t ts) f h e =
        evaluate_acts world.nesting low locals (tree t ts) f (laws.says (evaluate (tree t ts)) locals refl (dos_well laws.parts (call_procedure n (tree t ts)) h).0 e)

    call_acts : (locals : List Local) (n : List ℕ) (ts : Trees) → AllFit locals → IsSound (call_procedure n ts) → Acts AllFit (call_step world locals n ts)
    call_acts locals n ts f h =
        behind_check AllFit (closing_refusal (evaluate ts) locals) _ (λ e.
        behind_check AllFit (statement_refusal world.catalog (scope_of locals) (call_procedure n ts)) _ (λ _.
        goes_on Any AllFit (argument_values world locals ts) (λ vs. world.call n vs >>= λ _. pure locals) (arguments_act locals n ts f h e)
        (λ vs x. goes_on Any AllFit (world.call n vs) (λ _. pure locals) (calls n vs) (λ u y held few. (f, few)))))

    -- a loop, by its condition and its body
    turns_act : (n : ℕ) (test : List Local → Action Bool) (body : List Local → Action (List Local)) → ((now : List Local) → AllFit now → Acts Any (test now)) → ((now : List Local) → AllFit now → Acts AllFit (body now))
        → (locals : List Local) → AllFit locals → Acts AllFit (turns n test body locals)
    turns_act zero test body t b locals f =
        goes_on Any AllFit (test locals) (λ goes. cond goes (fail 30004) (pure locals)) (t locals f) (λ goes x. by goes)
      where
        by : (goes : Bool) → Acts AllFit (cond goes (fail 30004) (pure locals))
        by true = λ held few. tt
        by false = λ held few. (f, few)
    turns_act (suc n) test body t b locals f =
        goes_on Any AllFit (test locals) (λ goes. cond goes (spend_turn >>= λ _. body locals >>= λ after. turns n test body after) (pure locals)) (t locals f) (λ goes x. by goes (λ after g. turns_act n test body t b after g))
      where
        spent : (left : ℕ) (held : Held) → left ≤ most_turns → Only such (DoneAs Any) (turn_spent left held)
        spent zero held few = tt
        spent (suc k) held few = (tt, le_of_suc-le few)

        by : (goes : Bool) → ((after : List Local) → AllFit after → Acts AllFit (turns n test body after))
            → Acts AllFit (cond goes (spend_turn >>= λ _. body locals >>= λ after. turns n test body after) (pure locals))
        by true more =
            goes_on Any AllFit spend_turn (λ _. body locals >>= λ after. turns n test body after) (λ held few. spent held.turns held few)
            (λ u x. goes_on AllFit AllFit (body locals) (λ after. turns n test body after) (b locals f) more)
        by false more = λ held few. (f, few)

    mutual
      step_acts : (s : Statement) (locals : List Local) → list_all has_size (declared_types s) ≡ true → IsSound s → AllFit locals → Acts AllFit (step world locals s)
      step_acts (block ds ss) locals size h f =
          let s = split_all has_size (map (λ (d : Declared). d.kind) ds) (types_in_steps ss) size in
          goes_on AllFit AllFit (carried_on (declare world) locals ds) (λ inner. steps world inner ss >>= λ after. pure (take (length locals) after)) (declares_act world low ds locals s.0 f (dos_well laws.parts (block ds ss) h))
          (λ inner g. goes_on AllFit AllFit (steps world inner ss) (λ after. pure (take (length locals) after)) (steps_act ss inner s.1 (steps_sound laws.parts (block ds ss) h) g) (λ after k held few. (first_ones (length locals) after k, few)))
      step_acts (if_steps bs o) locals size h f =
          let s = split_all has_size (types_in_branches bs) (types_in_otherwise o) size in
          let v = split_such IsSound (branch_steps bs) (else_listed o) (steps_sound laws.parts (if_steps bs o) h) in
          branches_act bs locals (steps_otherwise world locals o) s.0 v.0 (dos_well laws.parts (if_steps bs o) h) f (otherwise_acts o locals s.1 v.1 f)
      step_acts (while_steps c ss) locals size h f =
          λ held few. turns_act held.turns (λ now. holds_here world now c) (λ now. steps world now ss) (λ now g. holds_acts world low now c g (dos_well laws.parts (while_steps c ss) h).0)
          (λ now g. steps_act ss now size (steps_sound laws.parts (while_steps c ss) h) g) locals f held few
      step_acts (set_all as') locals size h f = set_acts world low locals as' f h
      step_acts (call_procedure n ts) locals size h f = call_acts locals n ts f h
      step_acts (create_table t) locals size h f = other_acts world low locals (create_table t) f h
      step_acts (create_function p) locals size h f = other_acts world low locals (create_function p) f h
      step_acts (create_procedure p) locals size h f = other_acts world low locals (create_procedure p) f h
      step_acts (create_trigger t) locals size h f = other_acts world low locals (create_trigger t) f h
      step_acts (drop_table n) locals size h f = other_acts world low locals (drop_table n) f h
      step_acts (drop_function n) locals size h f = other_acts world low locals (drop_function n) f h
      step_acts (drop_procedure n) locals size h f = other_acts world low locals (drop_procedure n) f h
      step_acts (drop_trigger n) locals size h f = other_acts world low locals (drop_trigger n) f h
      step_acts (truncate n) locals size h f = other_acts world low locals (truncate n) f h
      step_acts (insert_into ignore t names supply sets) locals size h f = other_acts world low locals (insert_into ignore t names supply sets) f h
      step_acts (replace_into t names supply) locals size h f = other_acts world low locals (replace_into t names supply) f h
      step_acts (update_rows t sets condition os limit) locals size h f = other_acts world low locals (update_rows t sets condition os limit) f h
      step_acts (delete_rows t condition os limit) locals size h f = other_acts world low locals (delete_rows t condition os limit) f h
      step_acts (select q) locals size h f = other_acts world low locals (select q) f h
      step_acts (evaluate ts) locals size h f = other_acts world low locals (evaluate ts) f h
      step_acts begin locals size h f = other_acts world low locals begin f h
      step_acts commit locals size h f = other_acts world low locals commit f h
      step_acts rollback locals size h f = other_acts world low locals rollback f h
      step_acts (savepoint n) locals size h f = other_acts world low locals (savepoint n) f h
      step_acts (rollback_to n) locals size h f = other_acts world low locals (rollback_to n) f h
      step_acts (release_savepoint n) locals size h f = other_acts world low locals (release_savepoint n) f h
      step_acts (return_value v) locals size h f = other_acts world low locals (return_value v) f h

      steps_act : (ss : Statements) (locals : List Local) → list_all has_size (types_in_steps ss) ≡ true → AllByRecursion IsSound (listed ss) → AllFit locals → Acts AllFit (steps world locals ss)
      steps_act no_statement locals size h f = λ held few. (f, few)
      steps_act (statement s ss) locals size h f =
          let p = split_all has_size (declared_types s) (types_in_steps ss) size in
          goes_on AllFit AllFit (step world locals s) (λ after. steps world after ss) (step_acts s locals p.0 h.0 f) (λ after g. steps_act ss after p.1 h.1 g)

      branches_act : (bs : Branches) (locals : List Local) (otherwise : Action (List Local)) → list_all has_size (types_in_branches bs) ≡ true → AllByRecursion IsSound (branch_steps bs)
          → AllByRecursion IsWell (do_conditions bs) → AllFit locals → Acts AllFit otherwise → Acts AllFit (step_of_branches world locals bs otherwise)
      branches_act no_branch locals otherwise size h w f o = o
      branches_act (branch c ss bs) locals otherwise size h w f o =
          let p = split_all has_size (types_in_steps ss) (types_in_branches bs) size in
          let v = split_such IsSound (listed ss) (branch_steps bs) h in
          goes_on Any AllFit (holds_here world locals c) (λ is_true. cond is_true (steps world locals ss) (step_of_branches world locals bs otherwise)) (holds_acts world low locals c f w.0)
          (λ is_true x. by is_true (steps_act ss locals p.0 v.0 f) (branches_act bs locals otherwise p.1 v.1 w.1 f o))
        where
          by : (b : Bool) → Acts AllFit (steps world locals ss) → Acts AllFit (step_of_branches world locals bs otherwise) → Acts AllFit (cond b (steps world locals ss) (step_of_branches world locals bs otherwise))
          by true x y = x
          by false x y = y

      otherwise_acts : (o : Otherwise) (locals : List Local) → list_all has_size (types_in_otherwise o) ≡ true → AllByRecursion IsSound (else_listed o) → AllFit locals
          → Acts AllFit (steps_otherwise world locals o)
      otherwise_acts no_else locals size h f = λ held few. (f, few)
      otherwise_acts (else_steps ss) locals size h f = steps_act ss locals size h f

    procedure_acts : (p : Program) (vs : List Value) → IsReady p → Acts Any (procedure_body world p vs)
    procedure_acts p vs ready =
        let kinds : List SqlType = map (λ (q : Parameter). q.kind) (parameters_of p) in
        let a = split_all has_size (kinds ++ option_to_list (result_of p)) (declared_types (body_of p)) ready.sizes in
        let b = split_all has_size kinds (option_to_list (result_of p)) a.0 in
        goes_on AllFit Any (answered (all_tried add_parameter [] (zip (parameters_of p) vs))) (λ locals. step world locals (body_of p) >>= λ _. pure tt)
        (answered_acts AllFit (all_tried add_parameter [] (zip (parameters_of p) vs)) (λ out e. tried_parameters (parameters_of p) vs [] out b.0 tt e))
        (λ locals f. goes_on AllFit Any (step world locals (body_of p)) (λ _. pure tt) (step_acts (body_of p) locals a.1 ready.body f) (λ after g held few. (tt, few)))

  -- ---- procedures

  -- a procedure that is there passes what all objects pass
  procedure_such : (test : Object → Bool) (os : List Object) (n : List ℕ) (p : Program) → list_all test os ≡ true → first_made (as_procedure n) os ≡ Some p → test (procedure p) ≡ true
  procedure_such test [] n p h e = cc
  procedure_such test (o ∷ os) n p h e =
      let s = and_parts (test o) (list_all test os) h in
      by (as_procedure n o) refl e (λ x. procedure_such test os n p s.1 x)
    where
      named : (r : Program) (b : Bool) → cond b (Some r) None ≡ Some p → test (procedure r) ≡ true → test (procedure p) ≡ true
      named r true q s = let same : r ≡ p = cc in subst (λ (x : Program). test (procedure x) ≡ true) same s
      named r false q s = cc

      one : (x : Object) → test x ≡ true → as_procedure n x ≡ Some p → test (procedure p) ≡ true
      one (table d) s q = cc
      one (function r) s q = cc
      one (procedure r) s q = named r (same_name n (name_of r)) q s
      one (reaction r) s q = cc

      by : (found : Option Program) → as_procedure n o ≡ found → elim found as (λ _. Option Program) [ None ↦ first_made (as_procedure n) os | Some r ↦ Some r ] ≡ Some p
          → (first_made (as_procedure n) os ≡ Some p → test (procedure p) ≡ true) → test (procedure p) ≡ true
      by None q x more = more x
      by (Some r) q x more = one o (and_parts (test o) (list_all test os) h).0 (q ∙ x)

  started_such : (test : Object → Bool) (catalog : List Object) → list_all test catalog ≡ true → (running : List (List ℕ)) (n : List ℕ) (vs : List Value) (p : Program)
      → started catalog running n vs ≡ Ok p → test (procedure p) ≡ true
  started_such test catalog all running n vs p e = by (procedure_in catalog n) refl e
    where
      by_tests : (q : Program) (a b : Bool) → cond {A = Result Program ℕ} a (Err 1318) (cond b (Err 1456) (Ok q)) ≡ Ok p → q ≡ p
      by_tests q true b y = cc
      by_tests q false true y = cc
      by_tests q false false y = cc

      free : (q : Program) → free_procedure running n vs q ≡ Ok p → q ≡ p
      free q x = by_tests q (not (length (parameters_of q) == length vs)) (is_among running n) x

      by : (o : Option Program) → procedure_in catalog n ≡ o → elim o as (λ _. Result Program ℕ) [ None ↦ Err 1305 | Some q ↦ free_procedure running n vs q ] ≡ Ok p → test (procedure p) ≡ true
      by None q x = cc
      by (Some found) q x = subst (λ (r : Program). test (procedure r) ≡ true) (free found x) (procedure_such test catalog n found all q)

  module _ (catalog : List Object) (sized : list_all has_sizes catalog ≡ true) (bodies : list_all has_well_body catalog ≡ true) where
    started_ready : (running : List (List ℕ)) (n : List ℕ) (vs : List Value) (p : Program) → started catalog running n vs ≡ Ok p → IsReady p
    started_ready running n vs p e = record {
      sizes = started_such has_sizes catalog sized running n vs p e;
      body = body_sound (body_of p) (started_such has_well_body catalog bodies running n vs p e);
    }

    calls_act : (nesting : ℕ) → nesting ≤ most_nested → (running : List (List ℕ)) (n : List ℕ) (vs : List Value) → Acts Any (call_at catalog nesting running n vs)
    unfolding call_at
    calls_act zero low running n vs =
        goes_on Any Any (answered (started catalog running n vs)) (λ p. fail 30003) (answered_acts Any (started catalog running n vs) (λ p e. tt)) (λ p x held few. tt)
    calls_act (suc below) low running n vs =
        let world : World = record { catalog = catalog; nesting = below; call = call_at catalog below (n ∷ running) } in
        goes_on IsReady Any (answered (started catalog running n vs)) (λ p. procedure_body world p vs)
        (answered_acts IsReady (started catalog running n vs) (λ p e. started_ready running n vs p e))
        (λ p ready. procedure_acts world (le_of_suc-le low) (λ m ws. calls_act below (le_of_suc-le low) (n ∷ running) m ws) p vs ready)

    -- a CALL of a session asks only what is such
    pub called_only : (left : Left) → IsWithin left → (n : List ℕ) (vs : List Value) → Only such Any (called catalog left n vs)
    unfolding called
    called_only left within n vs =
        only_then such (DoneAs Any) Any (call_at catalog left.nesting [] n vs (begins left)) (λ e. ends (came e)) (calls_act left.nesting within.nesting [] n vs (begins left) within.turns) (λ e x. tt)
