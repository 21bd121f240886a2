-- How the code's calls end, as the definitions of procedures say.
use Rattle.std.specs.Prelude.{◌≡◌, ℕ, ◌≤◌, Bool, true, false, List, Option, Some, None, Result, Ok, Err}
use Rattle.std.specs.Borrow.{Bor, MutBor}
use Rattle.val_types.specs.declared.value.Value.{Value}
use Rattle.val_types.specs.declared.refusal.SqlRefusal.{SqlRefusal}
use Rattle.val_types.specs.declared.refusal.SqlRefusal.TheVariants as sql
use Rattle.fault_counts.specs.Causes.{Rose}
use Rattle.name_const.specs.catalog_objects.Keys.{objects_of}
use Rattle.prog_run.specs.sql_evaluation.Seen.{running_of}
use Rattle.prog_run.specs.prog_work.declared.meter.Meter.{Meter}
use Rattle.prog_run.specs.prog_work.declared.meter.Outcome.{Outcome}
use Rattle.name_const.specs.proc_model.Talk.{Left, Refusal, Effect, Told, Talk, Rules, Led}
use Rattle.name_const.specs.proc_model.Procedures.{Held, Ending, done, failed, World, call_at}
use Rattle.sql_tree.specs.Statement.{Statement, evaluate}
use Rattle.sql_tree.specs.Tree.{Trees, no_tree}
use Rattle.proc_parts.specs.declared.held.Held.{Held as Kept}
use Rattle.proc_parts.specs.declared.world.World.{World as Round}
use Rattle.proc_parts.specs.declared.runner.RunRefusal.{RunRefusal}
use Rattle.proc_parts.specs.declared.runner.RunRefusal.TheVariants.{Sql, Device, NoMemory}

-- ---- what the runner is asked and tells

abbrev pub left_of : Meter → Left
left_of m = record { nesting = m.depth; turns = m.turns; uuids = m.uuids }

abbrev pub effect_of : Outcome → Effect
effect_of o = record { affected = o.affected; shown = o.rows }

abbrev pub refusal_of : ℕ → Option ℕ → Refusal
refusal_of code holder = record { code = code; holder = holder }

-- a DO, and its expressions
abbrev pub is_do : Statement → Bool
is_do (evaluate ts) = true
is_do s = false

abbrev pub expressions_of : Statement → Trees
expressions_of (evaluate ts) = ts
expressions_of s = no_tree

-- what a runner told by an answer, which left so many turns and UUIDs; a device answers only where a count rose
abbrev pub Tells : {A B : Type 0} → (Told B → Type 0) → Type 0 → (A → B) → Result A RunRefusal → Meter → Type 0
Tells says rose view (Ok a) m = says (record { result = Ok (view a); turns = m.turns; uuids = m.uuids })
Tells says rose view (Err (Sql code holder)) m = says (record { result = Err (refusal_of code holder); turns = m.turns; uuids = m.uuids })
Tells says rose view (Err Device) m = rose
Tells says rose view (Err NoMemory) m = Unit {0}

-- ---- how a part of a procedure ended

-- what a CALL has so far
abbrev pub held_of : Kept → Held
held_of h = record { turns = h.turns; uuids = h.uuids; sets = h.sets; affected = h.affected }

-- what is round a statement
abbrev pub world_of : Round → World
world_of w = record {
  catalog = objects_of w.catalog.now;
  nesting = w.nesting;
  call = call_at (objects_of w.catalog.now) w.nesting (running_of w.running.now).functions;
}

-- a part came to an end that led its runner so; a device answers only where the count of its faults rose
abbrev pub EndsBy : {S A B : Type 0} → Rules S → (S → ℕ) → (A → B) → Result A RunRefusal → Held → S → Talk (Ending B) → S → Type 0
EndsBy rules faults view (Ok a) held before talk after = Led rules talk before (done (view a) held) after
EndsBy rules faults view (Err (Sql code holder)) held before talk after = Led rules talk before (failed (refusal_of code holder) held) after
EndsBy rules faults view (Err Device) held before talk after = Rose (faults before) (faults after)
EndsBy rules faults view (Err NoMemory) held before talk after = Unit {0}

-- a value that is there whatever was answered
abbrev pub always : {A : Type 0} → A → Unit {0} → A
always a u = a

abbrev pub plainly : {A : Type 0} → A → A
plainly a = a

-- faults never fall, and turns never rise
pub record Moves (before after more fewer : ℕ) : Type 0 where
  pub faults : before ≤ after
  pub turns : fewer ≤ more

-- an error of the procedure's own, or want of memory
abbrev pub widened : SqlRefusal → RunRefusal
widened (sql.Sql code) = Sql code None
widened sql.NoMemory = NoMemory

-- a check found nothing or this error, or memory was wanted
abbrev pub Passes : Result (Unit {0}) SqlRefusal → Option ℕ → Type 0
Passes (Ok u) found = found ≡ None
Passes (Err (sql.Sql code)) found = found ≡ Some code
Passes (Err sql.NoMemory) found = Unit {0}

-- a rule gave this, or memory was wanted
abbrev pub Tries : {A B : Type 0} → (A → B) → Result A SqlRefusal → Result B ℕ → Type 0
Tries view (Ok a) rule = rule ≡ Ok (view a)
Tries view (Err (sql.Sql code)) rule = rule ≡ Err code
Tries view (Err sql.NoMemory) rule = Unit {0}

-- what a CALL does by a closure
abbrev pub Calls : {S : Type 0} → Rules S → (S → ℕ)
    → (MutBor S → MutBor Kept → Bor (List ℕ) → List Value → Result (Unit {0}) RunRefusal → MutBor S → MutBor Kept → Type 0) → World → Type 0
Calls {S} rules faults post world =
    (r : MutBor S) (h : MutBor Kept) (n : Bor (List ℕ)) (vs : List Value) (result : Result (Unit {0}) RunRefusal) (r' : MutBor S) (h' : MutBor Kept)
    → post r h n vs result r' h' → EndsBy rules faults plainly result (held_of h'.now) r.now (world.call n.now vs (held_of h.now)) r'.now

abbrev pub CallsMove : {S : Type 0} → (S → ℕ)
    → (MutBor S → MutBor Kept → Bor (List ℕ) → List Value → Result (Unit {0}) RunRefusal → MutBor S → MutBor Kept → Type 0) → Type 0
CallsMove {S} faults post =
    (r : MutBor S) (h : MutBor Kept) (n : Bor (List ℕ)) (vs : List Value) (result : Result (Unit {0}) RunRefusal) (r' : MutBor S) (h' : MutBor Kept)
    → post r h n vs result r' h' → Moves (faults r.now) (faults r'.now) h.now.turns h'.now.turns
