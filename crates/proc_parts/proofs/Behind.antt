-- One part of a procedure behind another.
use Rattle.std.proofs.Common.{◌≤◌, ℕ, List, Option, Result, Ok, Err, refl, arith}
use Rattle.val_types.specs.declared.value.Value.{Value}
use Rattle.val_types.specs.declared.refusal.SqlRefusal.{SqlRefusal}
use Rattle.val_types.specs.declared.refusal.SqlRefusal.TheVariants as sql
use Rattle.fault_counts.specs.Causes.{Rose}
use Rattle.sql_tree.specs.Tree.{Trees}
use Rattle.sql_tree.specs.Statement.{Statement}
use Rattle.sql_locals.specs.declared.locals.Local.{Local}
use Rattle.prog_run.specs.prog_work.declared.meter.Meter.{Meter}
use Rattle.name_const.specs.proc_model.Talk.{Effect, Talk, Rules, Led}
use Rattle.name_const.specs.proc_model.Procedures.{Held, Ending, done, failed, Action, ◌>>=◌, unless_failed, answered, let_through, run_closed, evaluate_with, left_at}
use Rattle.name_const.proofs.of_proc_model.Leading.{led_then}
use Rattle.proc_parts.specs.declared.runner.RunRefusal.{RunRefusal}
use Rattle.proc_parts.specs.declared.runner.RunRefusal.TheVariants.{Sql, Device, NoMemory}
use Rattle.proc_parts.specs.Calls.{EndsBy, Moves, Passes, Tries, Tells, refusal_of, widened}

-- ---- faults and turns

pub moves_nowhere : (f t : ℕ) → Moves f f t t
moves_nowhere f t = record { faults = omega arith; turns = omega arith }

pub moves_on : (f g h t u v : ℕ) → Moves f g t u → Moves g h u v → Moves f h t v
moves_on f g h t u v p q = let a = p.faults in let b = q.faults in let c = p.turns in let d = q.turns in record { faults = omega (arith, a, b); turns = omega (arith, c, d) }

pub ruleset moving = (moves_nowhere, moves_on)

-- a count that rose has risen from what was lower
rose_from : (f g h : ℕ) → f ≤ g → Rose g h → Rose f h
rose_from f g h low rose = grind (arith, low, rose)

-- ---- one behind the other

-- What comes of a talk from here is what comes of a whole one from its start.
pub record Onto {S E : Type 0} (rules : Rules S) (faults : S → ℕ) (now : Talk E) (here : S) (whole : Talk E) (start : S) : Type 0 where
  pub later : faults start ≤ faults here
  pub on : (e : E) (after : S) → Led rules now here e after → Led rules whole start e after

pub onto_start : {S E : Type 0} (rules : Rules S) (faults : S → ℕ) (talk : Talk E) (here : S) → Onto rules faults talk here talk here
onto_start rules faults talk here = record { later = omega arith; on = λ e after h. h }

pub onto_ends : {S A B : Type 0} (rules : Rules S) (faults : S → ℕ) (view : A → B) (r : Result A RunRefusal) (held : Held) (now whole : Talk (Ending B)) (here start after : S)
    → Onto rules faults now here whole start → EndsBy rules faults view r held here now after → EndsBy rules faults view r held start whole after
onto_ends rules faults view (Ok a) held now whole here start after o h = o.on (done (view a) held) after h
onto_ends rules faults view (Err (Sql code holder)) held now whole here start after o h = o.on (failed (refusal_of code holder) held) after h
onto_ends rules faults view (Err Device) held now whole here start after o h = rose_from (faults start) (faults here) (faults after) o.later h
onto_ends rules faults view (Err NoMemory) held now whole here start after o h = tt

pub onto_on : {S E : Type 0} (rules : Rules S) (faults : S → ℕ) (a : Talk E) (b : Talk E) (c : Talk E) (here mid start : S)
    → Onto rules faults a here b mid → Onto rules faults b mid c start → Onto rules faults a here c start
onto_on rules faults a b c here mid start p q =
    let l = p.later in let m = q.later in record { later = omega (arith, l, m); on = λ e after h. q.on e after (p.on e after h) }

-- behind what was done
pub onto_done : {S A B : Type 0} (rules : Rules S) (faults : S → ℕ) (m : Action A) (next : A → Action B) (a : A) (held held' : Held) (start here : S)
    → faults start ≤ faults here → Led rules (m held) start (done a held') here → Onto rules faults (next a held') here ((m >>= next) held) start
onto_done rules faults m next a held held' start here later h = record {
  later = later;
  on = λ e after k. led_then rules (m held) (unless_failed next) start here after (done a held') e h k;
}

-- what was refused refuses all
pub failed_ends : {S A B C D : Type 0} (rules : Rules S) (faults : S → ℕ) (m : Action B) (next : B → Action D) (view : A → B) (other : C → D) (e : RunRefusal) (held held' : Held) (start after : S)
    → EndsBy rules faults view (Err e) held' start (m held) after → EndsBy rules faults other (Err e) held' start ((m >>= next) held) after
failed_ends rules faults m next view other (Sql code holder) held held' start after h =
    led_then rules (m held) (unless_failed next) start after after (failed (refusal_of code holder) held') (failed (refusal_of code holder) held') h (refl, refl)
failed_ends rules faults m next view other Device held held' start after h = h
failed_ends rules faults m next view other NoMemory held held' start after h = tt

-- ---- checks and rules

pub passed_onto : {S B : Type 0} (rules : Rules S) (faults : S → ℕ) (found : Option ℕ) (next : Unit {0} → Action B) (u : Unit {0}) (held : Held) (here : S)
    → Passes (Ok u) found → Onto rules faults (next tt held) here ((let_through found >>= next) held) here
passed_onto rules faults found next u held here h = rw h (onto_start rules faults (next tt held) here)

pub stopped_ends : {S B C : Type 0} (rules : Rules S) (faults : S → ℕ) (found : Option ℕ) (next : Unit {0} → Action C) (view : B → C) (e : SqlRefusal) (held : Held) (here : S)
    → Passes (Err e) found → EndsBy rules faults view (Err (widened e)) held here ((let_through found >>= next) held) here
stopped_ends rules faults found next view (sql.Sql code) held here h = rw h (refl, refl)
stopped_ends rules faults found next view sql.NoMemory held here h = tt

pub tried_onto : {S A B C : Type 0} (rules : Rules S) (faults : S → ℕ) (rule : Result B ℕ) (next : B → Action C) (view : A → B) (a : A) (held : Held) (here : S)
    → Tries view (Ok a) rule → Onto rules faults (next (view a) held) here ((answered rule >>= next) held) here
tried_onto rules faults rule next view a held here h = rw h (onto_start rules faults (next (view a) held) here)

pub untried_ends : {S A B C D : Type 0} (rules : Rules S) (faults : S → ℕ) (rule : Result B ℕ) (next : B → Action D) (view : A → B) (other : C → D) (e : SqlRefusal) (held : Held) (here : S)
    → Tries view (Err e) rule → EndsBy rules faults other (Err (widened e)) held here ((answered rule >>= next) held) here
untried_ends rules faults rule next view other (sql.Sql code) held here h = rw h (refl, refl)
untried_ends rules faults rule next view other sql.NoMemory held here h = tt

-- a rule that stands alone
pub tried_ends : {S A B : Type 0} (rules : Rules S) (faults : S → ℕ) (rule : Result B ℕ) (view : A → B) (a : A) (held : Held) (here : S)
    → Tries view (Ok a) rule → EndsBy rules faults view (Ok a) held here (answered rule held) here
tried_ends rules faults rule view a held here h = rw h (refl, refl)

pub untried_alone : {S A B C : Type 0} (rules : Rules S) (faults : S → ℕ) (rule : Result B ℕ) (view : A → B) (other : C → B) (e : SqlRefusal) (held : Held) (here : S)
    → Tries view (Err e) rule → EndsBy rules faults other (Err (widened e)) held here (answered rule held) here
untried_alone rules faults rule view other (sql.Sql code) held here h = rw h (refl, refl)
untried_alone rules faults rule view other sql.NoMemory held here h = tt

-- ---- what the runner tells

abbrev met : Held → Meter → Held
met held m = record held { turns = m.turns; uuids = m.uuids }

pub run_ends : {S A : Type 0} (rules : Rules S) (faults : S → ℕ) (view : A → Effect) (r : Result A RunRefusal) (nesting : ℕ) (s : Statement) (held : Held) (m : Meter) (before after : S)
    → Tells (λ told. rules.ran before (left_at nesting held) s told after) (Rose (faults before) (faults after)) view r m
    → EndsBy rules faults view r (met held m) before (run_closed nesting s held) after
run_ends rules faults view (Ok a) nesting s held m before after h = (record { result = Ok (view a); turns = m.turns; uuids = m.uuids }, after, h, (refl, refl))
run_ends rules faults view (Err (Sql code holder)) nesting s held m before after h = (record { result = Err (refusal_of code holder); turns = m.turns; uuids = m.uuids }, after, h, (refl, refl))
run_ends rules faults view (Err Device) nesting s held m before after h = h
run_ends rules faults view (Err NoMemory) nesting s held m before after h = tt

pub gave_ends : {S A : Type 0} (rules : Rules S) (faults : S → ℕ) (view : A → List Value) (r : Result A RunRefusal) (nesting : ℕ) (locals : List Local) (ts : Trees) (held : Held) (m : Meter) (before after : S)
    → Tells (λ told. rules.gave before (left_at nesting held) locals ts told after) (Rose (faults before) (faults after)) view r m
    → EndsBy rules faults view r (met held m) before (evaluate_with nesting locals ts held) after
gave_ends rules faults view (Ok a) nesting locals ts held m before after h = (record { result = Ok (view a); turns = m.turns; uuids = m.uuids }, after, h, (refl, refl))
gave_ends rules faults view (Err (Sql code holder)) nesting locals ts held m before after h = (record { result = Err (refusal_of code holder); turns = m.turns; uuids = m.uuids }, after, h, (refl, refl))
gave_ends rules faults view (Err Device) nesting locals ts held m before after h = h
gave_ends rules faults view (Err NoMemory) nesting locals ts held m before after h = tt
