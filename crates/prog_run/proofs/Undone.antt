-- An error takes back what was done.
use Rattle.std.proofs.Common.{◌≡◌, ℕ, true, Result, Ok, Err, length, drop, refl, sym, ap, ◌∙◌, arith}
use Rattle.std.specs.Prelude.{OnErr, OnOk}
use Rattle.val_types.specs.declared.refusal.SqlRefusal.{SqlRefusal}
use Rattle.val_types.specs.declared.refusal.SqlRefusal.TheVariants.{Sql, NoMemory}
use Rattle.table_rules.specs.Stores.{can_take_back}
use Rattle.table_rules.proofs.Leading.{noted_taken_back}
use Rattle.statement_names.specs.sql_meaning.Scenes.{Scene, done, failed, Action, undone, undone_from, put_back}
use Rattle.exec_state.specs.declared.stage.Stage.{Stage}
use Rattle.exec_state.specs.Stage.{scene_of, LeadsOn, EndsAs, EndsAsBy}
use Rattle.exec_state.proofs.Leading.{rows_led}
use Rattle.stage_undo.specs.Back.{StandsBack, IsBack}

-- the changes since can be taken back
pub since_taken_back : (start now : Stage) (mark : ℕ) → LeadsOn start now → mark ≡ length start.undo → can_take_back now.tables (drop mark now.undo) ≡ true
since_taken_back start now mark p e = noted_taken_back start.tables now.tables start.undo now.undo (rows_led start now p) mark (omega (arith, e))

-- the scene is the one before with what stays used
pub back_is : (start now back : Stage) → StandsBack start now back → scene_of back ≡ put_back (scene_of start) (scene_of now)
unfolding scene_of
back_is start now back h = λ i. record {
  tables = h.tables i;
  changes = h.undo i;
  counters = h.counters i;
  seeds = h.seeds i;
  turns = h.turns i;
  uuids = h.uuids i;
}

pub undone_failed : {A : Type 0} (start now back : Stage) (m : Action A) (code : ℕ) → m (scene_of start) ≡ failed code (scene_of now) → StandsBack start now back
    → undone m (scene_of start) ≡ failed code (scene_of back)
undone_failed start now back m code e h = ap (undone_from (scene_of start)) e ∙ ap (λ (s : Scene). failed code s) (sym (back_is start now back h))

pub undone_done : {A : Type 0} (start now : Stage) (m : Action A) (a : A) → m (scene_of start) ≡ done a (scene_of now) → undone m (scene_of start) ≡ done a (scene_of now)
undone_done start now m a e = ap (undone_from (scene_of start)) e

-- an action whose error takes back what it did, by what it came to and the stage behind that
pub undone_ends : {A B : Type 0} (view : A → B) (start now back : Stage) (m : Action B) (r : Result A SqlRefusal) → EndsAsBy view r (scene_of now) (m (scene_of start))
    → OnOk r (back ≡ now) → OnErr r (StandsBack start now back) → EndsAsBy view r (scene_of back) (undone m (scene_of start))
undone_ends view start now back m (Ok a) e same h = undone_done start now m (view a) e ∙ ap (λ (s : Stage). done (view a) (scene_of s)) (sym same)
undone_ends view start now back m (Err (Sql code)) e same h = undone_failed start now back m code e h
undone_ends view start now back m (Err NoMemory) e same h = tt

-- the same where what it gives is told as it is
pub undone_gives : {A : Type 0} (start now back : Stage) (m : Action A) (r : Result A SqlRefusal) → EndsAs r (scene_of now) (m (scene_of start))
    → OnOk r (back ≡ now) → OnErr r (StandsBack start now back) → EndsAs r (scene_of back) (undone m (scene_of start))
undone_gives start now back m (Ok a) e same h = undone_done start now m a e ∙ ap (λ (s : Stage). done a (scene_of s)) (sym same)
undone_gives start now back m (Err (Sql code)) e same h = undone_failed start now back m code e h
undone_gives start now back m (Err NoMemory) e same h = tt

-- what is as it was is back
pub stays_back : (s : Stage) → IsBack s s
stays_back s = record { tables = refl; undo = refl }

-- what a failed statement leaves
pub is_back : {A : Type 0} (start now back : Stage) (r : Result A SqlRefusal) → OnErr r (StandsBack start now back) → OnErr r (IsBack start back)
is_back start now back (Ok a) h = tt
is_back start now back (Err e) h = record { tables = h.tables; undo = h.undo }

pub ruleset undoing = (since_taken_back, undone_ends, undone_gives, is_back)
