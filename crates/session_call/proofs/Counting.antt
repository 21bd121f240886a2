-- Which count of transactions and which end of the log a step's entries lead to, and entries logged behind others.
use Rattle.std.proofs.Common.{◌≡◌, ℕ, List, [], ◌∷◌, ◌++◌, Bool, true, false, if◌then◌else◌, Option, Some, None, Result, Ok, Err, ℤ, refl, sym, ap, ◌∙◌}
use Rattle.val_types.specs.declared.change.Change.{Change}
use Rattle.val_types.specs.declared.value.Value.{Value}
use Rattle.port_traits.specs.declared.identity.Draw.{Draw}
use Rattle.port_traits.specs.declared.identity.Identity.{Identity}
use Rattle.sql_locals.specs.declared.locals.Local.{Local}
use Rattle.sql_tree.specs.Statement.{Statement}
use Rattle.sql_tree.specs.Tree.{Trees}
use Rattle.proc_run.specs.sql_reach.Defining.{number_of_bytes}
use Rattle.proc_run.specs.sql_meaning.Scenes.{Scene, Ending, done, failed}
use Rattle.proc_run.specs.sql_meaning.Changing.{Did}
use Rattle.proc_run.specs.sql_meaning.Running.{context_after, effect, evaluation}
use Rattle.proc_run.specs.log_entries.declared.entries.Item.{Item}
use Rattle.proc_run.specs.log_entries.declared.entries.Entry.{Entry}
use Rattle.answer_making.specs.log_model.Log.{LogPlace, behind, counted, counted_all, written_to}
use Rattle.proc_run.specs.proc_model.Talk.{Left, Refusal, Told}
use Rattle.proc_run.specs.session_ctx.declared.session.SessionVars.{SessionVars}
use Rattle.answer_making.specs.session_model.Sessions.{Open, Session, Shared}
use Rattle.answer_making.specs.session_model.declared.format.Format.{Format}
use Rattle.answer_making.specs.session_model.Running.{Call, Given, Turn, ended, given_by, is_other, is_warned, item_of, keep, made_behind, scene_for, setting_of, settle, statement_run, takes_too_much, undone, values_run, with_context, with_counters}
use Rattle.answer_making.specs.session_model.Calling.{Reached, arguments_run, reached_by, unless_checked}
use Rattle.session_statement.specs.Calls.{call_of}
use Rattle.session_statement.specs.session_shared.Desk.{place_of, shared_of}
use Rattle.session_call.specs.Stepping.{Stood}
use Rattle.session_statement.specs.Turned.{IsTurn, behind_turn}
use Rattle.session_statement.specs.session_shared.declared.desk.Desk.{Desk}
use Rattle.session_statement.proofs.of_session_shared.Logging.{logs_on}

-- ---- one step

-- A turn's entries lead from the count and the place before it to those behind it.
pub record Counts {A : Type 0} (shared : Shared) (t : Turn Item A) : Type 0 where
  pub count : t.shared.committed ≡ counted_all t.committed shared.committed
  pub place : t.shared.place ≡ written_to t.committed shared.committed shared.place

-- a turn that puts out no entry, and leaves both
pub none_counted : {A : Type 0} (shared : Shared) (t : Turn Item A) → t.committed ≡ [] → t.shared.committed ≡ shared.committed → t.shared.place ≡ shared.place → Counts shared t
none_counted shared t none count place = record {
  count = count ∙ ap (λ (es : List (Entry Item)). counted_all es shared.committed) (sym none);
  place = place ∙ ap (λ (es : List (Entry Item)). written_to es shared.committed shared.place) (sym none);
}

module _ (identity : Identity) (draw : Draw) (n : ℕ) where
  keep_counts : {A : Type 0} (item : Item) (scene : Scene) (shared : Shared) (vars : SessionVars) (format : Format) (transaction : Option (Open Item)) (given : A)
      → Counts shared (keep (call_of identity draw n) item scene shared (record { vars = vars; format = format; transaction = transaction }) given)
  keep_counts item scene shared vars format None given = record { count = refl; place = refl }
  keep_counts item scene shared vars format (Some open') given = record { count = refl; place = refl }

  if_counts : {A : Type 0} (b : Bool) (shared : Shared) (t u : Turn Item A) → Counts shared t → Counts shared u → Counts shared (if b then t else u)
  if_counts true shared t u c d = c
  if_counts false shared t u c d = d

  settle_counts : {A : Type 0} (item : List Change → Item) (changes : List Change) (scene : Scene) (shared : Shared) (session : Session Item) (given : Given A) (refusal : Turn Item (Given A)) → Counts shared refusal
      → Counts shared (settle (call_of identity draw n) item changes scene (with_counters scene shared) session given refusal)
  settle_counts item [] scene shared session given refusal c = record { count = refl; place = refl }
  settle_counts item (d ∷ ds) scene shared session given refusal c =
      let kept = keep_counts (item (d ∷ ds)) scene (with_counters scene shared) session.vars session.format session.transaction given in
      if_counts (takes_too_much (call_of identity draw n) session.transaction (item (d ∷ ds))) shared refusal (keep (call_of identity draw n) (item (d ∷ ds)) scene (with_counters scene shared) session given) c
      (record { count = kept.count; place = kept.place })

  ended_counts : {A : Type 0} (left : Left) (text : List ℕ) (tree : Statement) (shared : Shared) (session : Session Item) (first last_id : A → Option ℤ) (before : Scene) (ending : Ending A)
      → Counts shared (ended (call_of identity draw n) left text tree shared session first last_id before ending)
  ended_counts left text tree shared session first last_id before (done a scene) =
      let made : List Change = made_behind (is_other n shared.writer) before scene in
      settle_counts (item_of (call_of identity draw n) session.format left text tree session.vars.context shared (first a)) made scene shared
      (with_context (context_after session.vars.context tree scene.seeds (last_id a)) session) (given_by a scene (is_warned session.format shared.base.catalog tree made)) (undone 1197 tree shared session scene)
      (record { count = refl; place = refl })
  ended_counts left text tree shared session first last_id before (failed code scene) = record { count = refl; place = refl }

  pub statement_counts : (left : Left) (text : List ℕ) (s : Statement) (shared : Shared) (session : Session Item) → Counts shared (statement_run (call_of identity draw n) left text s shared session)
  statement_counts left text s shared session =
      ended_counts left text s shared session (λ (did : Did). did.first) (λ (did : Did). did.last_id) (scene_for n left session.vars.context shared)
      (effect (setting_of shared.base.catalog session.vars.context (number_of_bytes 0 draw.uuid)) left.nesting [] s (scene_for n left session.vars.context shared))

  pub values_count : (left : Left) (text : List ℕ) (tree : Statement) (locals : List Local) (ts : Trees) (shared : Shared) (session : Session Item)
      → Counts shared (values_run (call_of identity draw n) left text tree locals ts shared session)
  values_count left text tree locals ts shared session =
      ended_counts left text tree shared session (λ (vs : List Value). None) (λ (vs : List Value). None) (scene_for n left session.vars.context shared)
      (evaluation (setting_of shared.base.catalog session.vars.context (number_of_bytes 0 draw.uuid)) left.nesting locals ts (scene_for n left session.vars.context shared))

-- a step of a procedure, or its refusal
pub checked_counts : {A B : Type 0} (refusal : Option Refusal) (left : Left) (at : Reached Item) (told : Told A) (t : Turn Item (Given B)) → at.committed ≡ [] → Counts at.shared t
    → Counts at.shared (unless_checked refusal left at (told, reached_by at t)).1
checked_counts None left at told t none c =
    let same : t.committed ≡ at.committed ++ t.committed = ap (λ (es : List (Entry Item)). es ++ t.committed) (sym none) in
    record {
      count = c.count ∙ ap (λ (es : List (Entry Item)). counted_all es at.shared.committed) same;
      place = c.place ∙ ap (λ (es : List (Entry Item)). written_to es at.shared.committed at.shared.place) same;
    }
checked_counts (Some refusal) left at told t none c = none_counted at.shared at none refl refl

-- ---- entries behind others

counted_behind : (front back : List (Entry Item)) (number : ℕ) → counted_all (front ++ back) number ≡ counted_all back (counted_all front number)
counted_behind [] back number = refl
counted_behind (e ∷ es) back number = counted_behind es back (counted e number)

written_behind : (front back : List (Entry Item)) (number : ℕ) (p : LogPlace) → written_to (front ++ back) number p ≡ written_to back (counted_all front number) (written_to front number p)
written_behind [] back number p = refl
written_behind (e ∷ es) back number p = written_behind es back (counted e number) (behind e number p)

-- a turn behind one that led here
pub stood_on : (old before after : Desk) (session later : Session Item) (was warned : Bool) (at u : Reached Item) → Stood old before session was at → IsTurn before after later warned u → Counts (shared_of before) u
    → Stood old after later warned (behind_turn at u)
stood_on old before after session later was warned at u stood turn counts =
    let count : after.committed ≡ counted_all u.committed before.committed = ap (λ (s : Shared). s.committed) turn.0.0 ∙ counts.count in
    let place : place_of after.log ≡ written_to u.committed before.committed (place_of before.log) = ap (λ (s : Shared). s.place) turn.0.0 ∙ counts.place in
    record {
      turn = ((turn.0.0, turn.0.1, logs_on at.committed u.committed old before after stood.count stood.place stood.turn.0.2 turn.0.2), turn.1);
      count = count ∙ ap (counted_all u.committed) stood.count ∙ sym (counted_behind at.committed u.committed old.committed);
      place =
          place ∙ ap (λ (k : ℕ). written_to u.committed k (place_of before.log)) stood.count
          ∙ ap (written_to u.committed (counted_all at.committed old.committed)) stood.place
          ∙ sym (written_behind at.committed u.committed old.committed (place_of old.log));
    }
