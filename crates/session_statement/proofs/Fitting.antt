-- Expressions whose values may be refused: what their evaluation changed is kept, or taken back.
use Rattle.std.proofs.Common.{◌≡◌, ℕ, List, [], ◌++◌, Bool, true, false, if◌then◌else◌, length, take, Option, Some, None, Result, Ok, Err, refl, sym, ap, ◌∙◌, subst}
use Rattle.val_types.specs.declared.change.Change.{Change}
use Rattle.val_types.specs.declared.value.Value.{Value}
use Rattle.val_types.specs.declared.refusal.SqlRefusal.{SqlRefusal}
use Rattle.val_types.specs.declared.refusal.SqlRefusal.TheVariants.{Sql, NoMemory}
use Rattle.port_traits.specs.declared.identity.Draw.{Draw}
use Rattle.port_traits.specs.declared.identity.Identity.{Identity}
use Rattle.proc_parts.specs.log_entries.declared.entries.Item.{Item}
use Rattle.sql_locals.specs.declared.locals.Local.{Local}
use Rattle.sql_tree.specs.Tree.{Trees}
use Rattle.sql_tree.specs.Statement.{Statement, evaluate}
use Rattle.proc_parts.specs.sql_reach.Defining.{number_of_bytes}
use Rattle.proc_parts.specs.sql_meaning.Scenes.{Scene, Ending, done, failed}
use Rattle.proc_parts.specs.sql_meaning.Frames.{Context}
use Rattle.proc_parts.specs.sql_meaning.Running.{context_after}
use Rattle.proc_parts.specs.sql_meaning.Leading.{EndsWell, Leads}
use Rattle.proc_parts.proofs.of_sql_meaning.LedBodies.{evaluations_end}
use Rattle.session_shared.specs.binlog_items.declared.before.Before.{Before}
use Rattle.session_shared.specs.binlog_items.Items.{numbers_of}
use Rattle.proc_parts.specs.proc_model.Talk.{Left}
use Rattle.session_shared.specs.session_model.Sessions.{Session, Shared}
use Rattle.session_shared.specs.session_model.Commands.{changes_of_own}
use Rattle.session_shared.specs.session_model.Running.{Fuel, Given, Turn, ended, expressions_run, fitted, fitted_run, fuel_of, is_other, scene_for, setting_of, undone, unless_misfit, values_run, with_context, with_counters}
use Rattle.session_shared.specs.declared.desk.Desk.{Desk}
use Rattle.session_shared.specs.declared.logged.Logged.{Logged}
use Rattle.session_shared.specs.Desk.{cut_to, shared_of}
use Rattle.session_statement.specs.Calls.{call_of}
use Rattle.session_statement.specs.Keeping.{settled, statement_kept}
use Rattle.session_statement.specs.Ran.{Fails, Gave, Gives, evaluation_for, place_at, shared_behind}
use Rattle.session_statement.specs.Turned.{EndsAs, EndsWith}
use Rattle.session_statement.proofs.Settling.{kept_as, not_given_so, take_front}
use Rattle.session_statement.proofs.Keeps.{gave_so, not_said_so, said_so}

-- ---- taken back

-- changes behind the mark at which a statement began, taken back
pub cut_back : (n : ℕ) (left : Left) (context : Context) (scene : Scene) (old ran : Shared) (mark : ℕ) → Leads (scene_for n left context old) scene → ran ≡ shared_behind n old scene → mark ≡ changes_of_own n old
    → cut_to n mark ran ≡ with_counters scene old
cut_back n left context scene old ran mark led behind' at = ap (cut_to n mark) behind' ∙ by (is_other n old.writer) refl
  where
    by : (b : Bool) → is_other n old.writer ≡ b → cut_to n mark (shared_behind n old scene) ≡ with_counters scene old
    by true other =
        ap (λ (b : Bool). cut_to n mark (if b then with_counters scene old else record (with_counters scene old) { changes = scene.changes })) other
        ∙ ap (λ (b : Bool). if b then with_counters scene old else record (with_counters scene old) { changes = take mark old.changes }) other
    by false own =
        let begun : (scene_for n left context old).changes ≡ old.changes = ap (λ (b : Bool). if b then [] else old.changes) own in
        let added : scene.changes ≡ old.changes ++ led.more = led.added ∙ ap (λ (cs : List Change). cs ++ led.more) begun in
        let count : mark ≡ length old.changes = at ∙ ap (λ (b : Bool). if b then 0 else length old.changes) own in
        let cut : take mark scene.changes ≡ old.changes =
        ap (λ (k : ℕ). take k scene.changes) count ∙ ap (take (length old.changes)) added ∙ take_front old.changes led.more in
        ap (λ (b : Bool). cut_to n mark (if b then with_counters scene old else record (with_counters scene old) { changes = scene.changes })) own
        ∙ ap (λ (b : Bool). if b then record (with_counters scene old) { changes = scene.changes } else record (with_counters scene old) { changes = take mark scene.changes }) own
        ∙ ap (λ (cs : List Change). record (with_counters scene old) { changes = cs }) cut

no_value : (r : Result Bool ℕ) (code : ℕ) (u : Bool) → r ≡ Err code → r ≡ Ok u → ⊥
no_value r code u p q = cc

same_error : (r : Result Bool ℕ) (code said : ℕ) → r ≡ Err code → r ≡ Err said → code ≡ said
same_error r code said p q = cc

-- ---- kept, from the session that an evaluation left

module _ (identity : Identity) (draw : Draw) (n : ℕ) (left : Left) (text : List ℕ) (ts : Trees) where
  -- what is kept of expressions there
  abbrev kept_at : Statement → Before → ℕ → Shared → Session Item → Turn Item (Result Bool ℕ)
  kept_at s before mark ran session = statement_kept (call_of identity draw n) text s before None mark ran session

  pub gave_at : (tree : Statement) (locals : List Local) (vs : List Value) (r : Result Bool SqlRefusal) (fuel : Fuel) (old ran new : Desk) (session mid after : Session Item) (mark : ℕ) (before : Before)
      → ((c : Context) (seeds : ℕ × ℕ) → context_after c (evaluate ts) seeds None ≡ context_after c tree seeds None)
      → Gave n draw left locals ts vs fuel (place_at (shared_of old) session.vars.context) (place_at (shared_of ran) mid.vars.context) → mid ≡ with_context mid.vars.context session
      → mark ≡ changes_of_own n (shared_of old) → before ≡ numbers_of session.vars.context → ran.log ≡ old.log → ran.committed ≡ old.committed → EndsAs r ran new after (kept_at tree before mark (shared_of ran) mid)
      → EndsWith (kept_as vs r) fuel old new after (values_run (call_of identity draw n) left text tree locals ts (shared_of old) session)
  gave_at tree locals vs r fuel old ran new session mid after mark before same gave moved at numbers bytes count ends =
      gave_so identity draw n left text tree locals ts vs r fuel old ran new session after mid.vars.context mark before same gave at numbers bytes count
      (subst (λ (s : Session Item). EndsAs r ran new after (kept_at tree before mark (shared_of ran) s)) moved ends)

  pub said_at : (s : Statement) (locals : List Local) (vs : List Value) (r : Result Bool SqlRefusal) (fuel : Fuel) (old ran new : Desk) (session mid after : Session Item) (mark : ℕ) (before : Before)
      → s ≡ evaluate ts → locals ≡ [] → Gave n draw left locals ts vs fuel (place_at (shared_of old) session.vars.context) (place_at (shared_of ran) mid.vars.context) → mid ≡ with_context mid.vars.context session
      → mark ≡ changes_of_own n (shared_of old) → before ≡ numbers_of session.vars.context → ran.log ≡ old.log → ran.committed ≡ old.committed → EndsAs r ran new after (kept_at s before mark (shared_of ran) mid)
      → EndsWith (kept_as vs r) fuel old new after (expressions_run (call_of identity draw n) left text ts (shared_of old) session)
  said_at s locals vs r fuel old ran new session mid after mark before is none gave moved at numbers bytes count ends =
      said_so identity draw n left text s locals ts vs r fuel old ran new session after mid.vars.context mark before is none gave at numbers bytes count
      (subst (λ (one : Session Item). EndsAs r ran new after (kept_at s before mark (shared_of ran) one)) moved ends)

  pub not_given_at : (tree : Statement) (locals : List Local) (refusal : SqlRefusal) (fuel : Fuel) (old ran : Desk) (session mid : Session Item)
      → ((c : Context) (seeds : ℕ × ℕ) → context_after c (evaluate ts) seeds None ≡ context_after c tree seeds None)
      → Gives n draw left locals ts (Err refusal) fuel (place_at (shared_of old) session.vars.context) (place_at (shared_of ran) mid.vars.context) → mid ≡ with_context mid.vars.context session → ran.log ≡ old.log
      → EndsWith {A = List Value} (Err refusal) fuel old ran mid (values_run (call_of identity draw n) left text tree locals ts (shared_of old) session)
  not_given_at tree locals refusal fuel old ran session mid same gives moved bytes =
      not_given_so identity draw n left text tree locals ts same refusal fuel old ran session mid mid.vars.context gives moved bytes

  pub not_said_at : (locals : List Local) (refusal : SqlRefusal) (fuel : Fuel) (old ran : Desk) (session mid : Session Item) → locals ≡ []
      → Gives n draw left locals ts (Err refusal) fuel (place_at (shared_of old) session.vars.context) (place_at (shared_of ran) mid.vars.context) → mid ≡ with_context mid.vars.context session → ran.log ≡ old.log
      → EndsWith {A = List Value} (Err refusal) fuel old ran mid (expressions_run (call_of identity draw n) left text ts (shared_of old) session)
  not_said_at locals refusal fuel old ran session mid none gives moved bytes =
      subst (λ (s : Session Item). EndsWith {A = List Value} (Err refusal) fuel old ran s (expressions_run (call_of identity draw n) left text ts (shared_of old) session)) (sym moved)
      (not_said_so identity draw n left text locals ts refusal fuel old ran session mid.vars.context none gives bytes)

-- ---- kept, or taken back

module _ (identity : Identity) (draw : Draw) (n : ℕ) (left : Left) (text : List ℕ) (ts : Trees) (misfit : List Value → Option ℕ) where
  -- ---- the machine's run

  run_by : Shared → Session Item → Ending (List Value) → Turn Item (Given (List Value))
  run_by old session e = ended (call_of identity draw n) left text (evaluate ts) old session (λ (vs : List Value). None) (λ (vs : List Value). None) (scene_for n left session.vars.context old) e

  fits : (vs : List Value) (scene : Scene) (old : Shared) (session : Session Item) → evaluation_for n draw left [] ts (place_at old session.vars.context) ≡ done vs scene → misfit vs ≡ None
      → expressions_run (call_of identity draw n) left text ts old session ≡ fitted_run (call_of identity draw n) left text ts misfit old session
  unfolding run_by
  fits vs scene old session ends none =
      ap (run_by old session) ends ∙ sym (ap (λ (o : Option ℕ). run_by old session (unless_misfit o vs scene)) none) ∙ sym (ap (λ e. run_by old session (fitted misfit e)) ends)

  fails : (code : ℕ) (scene : Scene) (old : Shared) (session : Session Item) → evaluation_for n draw left [] ts (place_at old session.vars.context) ≡ failed code scene
      → expressions_run (call_of identity draw n) left text ts old session ≡ fitted_run (call_of identity draw n) left text ts misfit old session
  unfolding run_by
  fails code scene old session ends = ap (run_by old session) ends ∙ sym (ap (λ e. run_by old session (fitted misfit e)) ends)

  refuses : (vs : List Value) (code : ℕ) (scene : Scene) (old : Shared) (session : Session Item) → evaluation_for n draw left [] ts (place_at old session.vars.context) ≡ done vs scene → misfit vs ≡ Some code
      → undone code (evaluate ts) old session scene ≡ fitted_run (call_of identity draw n) left text ts misfit old session
  unfolding run_by
  refuses vs code scene old session ends some =
      sym (ap (λ (o : Option ℕ). run_by old session (unless_misfit o vs scene)) some) ∙ sym (ap (λ e. run_by old session (fitted misfit e)) ends)

  -- ---- what the code leaves

  kept_so : (vs : List Value) (r : Result Bool SqlRefusal) (fuel : Fuel) (old ran new : Desk) (session mid after : Session Item) (mark : ℕ) (before : Before)
      → Gave n draw left [] ts vs fuel (place_at (shared_of old) session.vars.context) (place_at (shared_of ran) mid.vars.context) → mid ≡ with_context mid.vars.context session
      → mark ≡ changes_of_own n (shared_of old) → before ≡ numbers_of session.vars.context → ran.log ≡ old.log → ran.committed ≡ old.committed → misfit vs ≡ None
      → EndsAs r ran new after (statement_kept (call_of identity draw n) text (evaluate ts) before None mark (shared_of ran) mid)
      → EndsWith (kept_as vs r) fuel old new after (fitted_run (call_of identity draw n) left text ts misfit (shared_of old) session)
  kept_so vs r fuel old ran new session mid after mark before gave moved at numbers bytes count none ends =
      subst (λ t. EndsWith (kept_as vs r) fuel old new after t) (fits vs gave.scene (shared_of old) session gave.ends none)
      (said_at identity draw n left text ts (evaluate ts) [] vs r fuel old ran new session mid after mark before refl refl gave moved at numbers bytes count ends)

  taken_so : (vs : List Value) (code : ℕ) (r : Result Bool SqlRefusal) (fuel : Fuel) (old ran new : Desk) (session mid after : Session Item) (mark : ℕ)
      → Gave n draw left [] ts vs fuel (place_at (shared_of old) session.vars.context) (place_at (shared_of ran) mid.vars.context) → mid ≡ with_context mid.vars.context session
      → mark ≡ changes_of_own n (shared_of old) → ran.log ≡ old.log → misfit vs ≡ Some code
      → EndsAs {A = Bool} r ran new after (record { shared = cut_to n mark (shared_of ran); session = mid; committed = []; given = Err code })
      → EndsWith (kept_as vs r) fuel old new after (fitted_run (call_of identity draw n) left text ts misfit (shared_of old) session)
  taken_so vs code (Ok u) fuel old ran new session mid after mark gave moved at bytes some ends = absurd (no_value (Err code) code u refl ends.1)
  taken_so vs code (Err NoMemory) fuel old ran new session mid after mark gave moved at bytes some ends = tt
  taken_so vs code (Err (Sql said)) fuel old ran new session mid after mark gave moved at bytes some ends =
      let before : Scene = scene_for n left session.vars.context (shared_of old) in
      let well = evaluations_end (setting_of (shared_of old).base.catalog session.vars.context (number_of_bytes 0 draw.uuid)) left.nesting [] ts before in
      let led : Leads before gave.scene = subst (λ e. EndsWell before e) gave.ends well in
      let same : code ≡ said = same_error (Err code) code said refl ends.1 in
      subst (λ t. EndsWith {A = List Value} (Err (Sql said)) fuel old new after t) (refuses vs code gave.scene (shared_of old) session gave.ends some) (
        (
          ends.0.0 ∙ cut_back n left session.vars.context gave.scene (shared_of old) (shared_of ran) mark led gave.leaves.shared at,
          ends.0.1 ∙ moved ∙ ap (λ (c : Context). with_context c session) gave.leaves.context,
          (ends.0.2.0 ∙ ap (λ (l : Logged). l.waiting) bytes, tt),
        ),
        ap (λ (f : Fuel). record { result = Err code; fuel = f; warned = false }) (sym gave.leaves.spent) ∙ ap (λ (k : ℕ). record { result = Err k; fuel = fuel; warned = false }) same,
      )

  -- whatever refuses the values, or nothing
  settled_by : (vs : List Value) (refusal : Option ℕ) (r : Result Bool SqlRefusal) (fuel : Fuel) (old ran new : Desk) (session mid after : Session Item) (mark : ℕ) (before : Before)
      → Gave n draw left [] ts vs fuel (place_at (shared_of old) session.vars.context) (place_at (shared_of ran) mid.vars.context) → mid ≡ with_context mid.vars.context session
      → mark ≡ changes_of_own n (shared_of old) → before ≡ numbers_of session.vars.context → ran.log ≡ old.log → ran.committed ≡ old.committed → misfit vs ≡ refusal
      → EndsAs r ran new after (settled (call_of identity draw n) refusal text (evaluate ts) before mark (shared_of ran) mid)
      → EndsWith (kept_as vs r) fuel old new after (fitted_run (call_of identity draw n) left text ts misfit (shared_of old) session)
  settled_by vs None r fuel old ran new session mid after mark before gave moved at numbers bytes count is ends =
      kept_so vs r fuel old ran new session mid after mark before gave moved at numbers bytes count is ends
  settled_by vs (Some code) r fuel old ran new session mid after mark before gave moved at numbers bytes count is ends =
      taken_so vs code r fuel old ran new session mid after mark gave moved at bytes is ends

  pub settled_so : (s : Statement) (locals : List Local) (vs : List Value) (refusal : Option ℕ) (r : Result Bool SqlRefusal) (fuel : Fuel) (old ran new : Desk) (session mid after : Session Item) (mark : ℕ) (before : Before)
      → s ≡ evaluate ts → locals ≡ [] → refusal ≡ misfit vs → Gave n draw left locals ts vs fuel (place_at (shared_of old) session.vars.context) (place_at (shared_of ran) mid.vars.context)
      → mid ≡ with_context mid.vars.context session → mark ≡ changes_of_own n (shared_of old) → before ≡ numbers_of session.vars.context → ran.log ≡ old.log → ran.committed ≡ old.committed
      → EndsAs r ran new after (settled (call_of identity draw n) refusal text s before mark (shared_of ran) mid)
      → EndsWith (kept_as vs r) fuel old new after (fitted_run (call_of identity draw n) left text ts misfit (shared_of old) session)
  settled_so s locals vs refusal r fuel old ran new session mid after mark before is none refuses gave moved at numbers bytes count ends =
      settled_by vs refusal r fuel old ran new session mid after mark before
      (subst (λ (ls : List Local). Gave n draw left ls ts vs fuel (place_at (shared_of old) session.vars.context) (place_at (shared_of ran) mid.vars.context)) none gave) moved at numbers bytes count (sym refuses)
      (subst (λ (one : Statement). EndsAs r ran new after (settled (call_of identity draw n) refusal text one before mark (shared_of ran) mid)) is ends)

  -- an evaluation that failed
  failed_by : (refusal : SqlRefusal) (fuel : Fuel) (old ran : Desk) (session mid : Session Item)
      → Gives n draw left [] ts (Err refusal) fuel (place_at (shared_of old) session.vars.context) (place_at (shared_of ran) mid.vars.context) → mid ≡ with_context mid.vars.context session → ran.log ≡ old.log
      → EndsWith {A = List Value} (Err refusal) fuel old ran mid (fitted_run (call_of identity draw n) left text ts misfit (shared_of old) session)
  failed_by NoMemory fuel old ran session mid gives moved bytes = tt
  failed_by (Sql code) fuel old ran session mid gives moved bytes =
      subst (λ t. EndsWith {A = List Value} (Err (Sql code)) fuel old ran mid t) (fails code gives.scene (shared_of old) session gives.ends)
      (not_said_at identity draw n left text ts [] (Sql code) fuel old ran session mid refl gives moved bytes)

  pub failed_so : (locals : List Local) (refusal : SqlRefusal) (fuel : Fuel) (old ran : Desk) (session mid : Session Item) → locals ≡ []
      → Gives n draw left locals ts (Err refusal) fuel (place_at (shared_of old) session.vars.context) (place_at (shared_of ran) mid.vars.context) → mid ≡ with_context mid.vars.context session → ran.log ≡ old.log
      → EndsWith {A = List Value} (Err refusal) fuel old ran mid (fitted_run (call_of identity draw n) left text ts misfit (shared_of old) session)
  failed_so locals refusal fuel old ran session mid none gives moved bytes =
      failed_by refusal fuel old ran session mid
      (subst (λ (ls : List Local). Gives n draw left ls ts (Err refusal) fuel (place_at (shared_of old) session.vars.context) (place_at (shared_of ran) mid.vars.context)) none gives) moved bytes
