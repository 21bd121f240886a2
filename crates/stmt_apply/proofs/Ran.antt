-- A text run: the statement that it is, and what is made of it.
use Rattle.std.proofs.Common.{◌≡◌, ℕ, List, [], ◌++◌, Bool, true, false, length, drop, Option, Some, None, Result, Ok, Err, refl, sym, ap, subst, ◌∙◌}
use Rattle.std.specs.Prelude.{if◌then◌else◌}
use Rattle.std.proofs.Math.Seq.{drop-append_seam}
use Rattle.val_types.specs.declared.change.Change.{Change}
use Rattle.val_types.specs.declared.refusal.SqlRefusal.{SqlRefusal}
use Rattle.val_types.specs.declared.refusal.SqlRefusal.TheVariants.{Sql, NoMemory}
use Rattle.port_traits.specs.declared.identity.Identity.{Identity}
use Rattle.port_traits.specs.declared.identity.Draw.{Draw}
use Rattle.sql_tree.specs.Statement.{Statement, create_table, create_function, create_procedure, create_trigger, drop_table, drop_function, drop_procedure, drop_trigger, truncate, insert_into, replace_into, update_rows, delete_rows, select, evaluate, set_all, call_procedure, begin, commit, rollback, savepoint, rollback_to, release_savepoint, block, if_steps, while_steps, return_value}
use Rattle.apply_laws.specs.sql_meaning.Frames.{Context}
use Rattle.apply_laws.specs.sql_meaning.Leading.{EndsWell, Leads}
use Rattle.apply_laws.proofs.of_sql_meaning.LedBodies.{statements_end}
use Rattle.apply_laws.specs.sql_reach.Reach.{is_definition}
use Rattle.apply_model.specs.Texts.{Applier, Progress, allowed, checked, ended_as, may_stand, run_in}
use Rattle.row_apply.specs.prog_work.declared.meter.Meter.{Meter}
use Rattle.row_apply.specs.prog_work.declared.meter.Outcome.{Outcome}
use Rattle.row_apply.specs.prog_work.Contents.{Contents}
use Rattle.prog_run.specs.Runs.{Runs, moment, scene_at, setting_at}
use Rattle.row_apply.specs.Ends.{progress_in}
use Rattle.prog_run.specs.prog_work.Outcomes.{full_meter}
use Rattle.stmt_apply.specs.Applying.{Adds, applier_in}
use Rattle.stmt_apply.specs.Ending.{EndsBy, IsRefusal}

-- ---- what may stand in a transaction is no definition

pub stands_plain : (s : Statement) → may_stand s ≡ true → is_definition s ≡ false
stands_plain (create_table t) e = cc
stands_plain (create_function p) e = cc
stands_plain (create_procedure p) e = cc
stands_plain (create_trigger t) e = cc
stands_plain (drop_table n) e = cc
stands_plain (drop_function n) e = cc
stands_plain (drop_procedure n) e = cc
stands_plain (drop_trigger n) e = cc
stands_plain (truncate n) e = cc
stands_plain (insert_into ignore t names supply sets) e = refl
stands_plain (replace_into t names supply) e = refl
stands_plain (update_rows t sets condition os limit) e = refl
stands_plain (delete_rows t condition os limit) e = refl
stands_plain (select q) e = refl
stands_plain (evaluate ts) e = refl
stands_plain (set_all ts) e = refl
stands_plain (call_procedure n ts) e = refl
stands_plain begin e = refl
stands_plain commit e = refl
stands_plain rollback e = refl
stands_plain (savepoint n) e = refl
stands_plain (rollback_to n) e = refl
stands_plain (release_savepoint n) e = refl
stands_plain (block ds ss) e = refl
stands_plain (if_steps bs o) e = refl
stands_plain (while_steps c ss) e = refl
stands_plain (return_value t) e = refl

-- ---- the run

module _ (who : Identity) (draw : Draw) (s : Statement) (old new : Contents) (context context' : Context) (meter : Meter) where
  pub run_done : (told : Outcome) → Runs draw s (Ok told) (moment old context full_meter) (moment new context' meter)
      → run_in (applier_in who draw old) context s (progress_in old) ≡ Ok (progress_in new)
  run_done told ran = ap ended_as ran.ends

  pub run_refused : (refusal : SqlRefusal) → Runs draw s (Err refusal) (moment old context full_meter) (moment new context' meter)
      → IsRefusal (run_in (applier_in who draw old) context s (progress_in old)) refusal
  run_refused (Sql code) ran = ap ended_as ran.0
  run_refused NoMemory ran = tt

-- its changes stand behind those before it
pub run_adds : (draw : Draw) (s : Statement) (told : Outcome) (old new : Contents) (context context' : Context) (meter meter' : Meter) → Runs draw s (Ok told) (moment old context meter) (moment new context' meter') → Adds old new
run_adds draw s told old new context context' meter meter' ran =
    let well = statements_end (setting_at draw (moment old context meter)) meter.depth [] s (scene_at (moment old context meter)) in
    let led : Leads (scene_at (moment old context meter)) (scene_at (moment new context' meter')) = subst (λ e. EndsWell (scene_at (moment old context meter)) e) ran.ends well in
    led.added ∙ ap (λ (cs : List Change). old.changes ++ cs) (sym (ap (drop (length old.changes)) led.added ∙ drop-append_seam old.changes led.more))

-- ---- what may run

abbrev allowed_by : Bool → Applier → Context → Statement → Progress → Option ℕ → Result Progress ℕ
allowed_by may a context s p refusal = if may then checked a context s p refusal else Err 30005

module _ (a : Applier) (context : Context) (s : Statement) (p : Progress) (refusal : Option ℕ) where
  pub not_allowed : (may : Bool) → may ≡ false → allowed_by may a context s p refusal ≡ Err 30005
  not_allowed may e = ap (λ (b : Bool). allowed_by b a context s p refusal) e

  pub unchecked : (may : Bool) (code : ℕ) → may ≡ true → Some code ≡ refusal → allowed_by may a context s p refusal ≡ Err code
  unchecked may code e is = ap (λ (b : Bool). allowed_by b a context s p refusal) e ∙ ap (checked a context s p) (sym is)

  pub runs_on : (may : Bool) (result : Result (Unit {0}) SqlRefusal) (now : Progress) → may ≡ true → None ≡ refusal → EndsBy result now (run_in a context s p)
      → EndsBy result now (allowed_by may a context s p refusal)
  runs_on may result now e is ends =
      subst (λ (r : Result Progress ℕ). EndsBy result now r) (sym (ap (λ (b : Bool). allowed_by b a context s p refusal) e ∙ ap (checked a context s p) (sym is))) ends

-- ---- the text

pub refused_text : (a : Applier) (context : Context) (p : Progress) (refusal : SqlRefusal) (read : Result Statement ℕ) → IsRefusal read refusal → IsRefusal (allowed a context p read) refusal
refused_text a context p (Sql code) read e = ap (allowed a context p) e
refused_text a context p NoMemory read e = tt

pub read_text : (a : Applier) (context context' : Context) (p now : Progress) (read : Result Statement ℕ) (s : Statement) (result : Result (Unit {0}) SqlRefusal) → read ≡ Ok s → context' ≡ context
    → EndsBy result now (allowed a context' p (Ok s)) → EndsBy result now (allowed a context p read)
read_text a context context' p now read s result e same ends =
    subst (λ (c : Context). EndsBy result now (allowed a c p read)) same (subst (λ (r : Result Statement ℕ). EndsBy result now (allowed a context' p r)) (sym e) ends)
