-- What one statement of a session leaves: its changes are kept as its item, or it leaves counters alone.
use Rattle.std.proofs.Common.{◌≡◌, ℕ, inr, Bool, true, false, List, [], ◌∷◌, ◌++◌, Option, Some, None, Result, Ok, ℤ, refl, sym, ◌∙◌, ap, arith, cond}
use Rattle.std.proofs.lemmas.Grind.{flat_map-append}
use Rattle.std.specs.Prelude.{is_some}
use Rattle.val_types.specs.declared.change.Change.{Change}
use Rattle.val_types.specs.declared.value.Value.{Value}
use Rattle.table_rules.specs.Stored.{all_applied}
use Rattle.proc_model.specs.Talk.{Left}
use Rattle.port_traits.specs.declared.identity.Identity.{Identity}
use Rattle.port_traits.specs.declared.identity.Draw.{Draw}
use Rattle.sql_tree.specs.Statement.{Statement, evaluate}
use Rattle.sql_tree.specs.Tree.{Trees}
use Rattle.sql_locals.specs.declared.locals.Local.{Local}
use Rattle.session_ctx.specs.declared.session.SessionVars.{SessionVars}
use Rattle.session_ctx.specs.sql_meaning.Scenes.{Scene, Ending, done, failed}
use Rattle.session_ctx.specs.sql_meaning.Frames.{Context}
use Rattle.session_ctx.specs.sql_meaning.Changing.{Did}
use Rattle.session_ctx.specs.sql_meaning.Running.{context_after, evaluation}
use Rattle.session_ctx.specs.sql_meaning.Leading.{Leads, EndsWell, StatementsEndWell, EvaluationsEndWell}
use Rattle.proc_model.specs.sql_reach.Defining.{number_of_bytes}
use Rattle.session_model.specs.Sessions.{Open, Session, Shared}
use Rattle.session_model.specs.Running.{Call, Turn, Given, is_other, items_of, keep, made_behind, with_counters, scene_for, settle, ended, given_by, is_warned, item_of, with_context, setting_of, statement_run, values_run, unless_misfit, fitted, fitted_run, kept_entries, kept_open, kept_shared, takes_too_much, undone}
use Rattle.session_model.specs.Commands.{is_open}
use Rattle.session_model.specs.Formats.{logs_rows}
use Rattle.session_model.specs.declared.format.Format.{Format}
use Rattle.session_model.specs.Machine.{Whole, whole}
use Rattle.session_model.specs.Holding.{changes_of, changes_in, holds_lock, reasons_of, Owns, SharedHolds, AreIn, AreOne, IsMade}
use Rattle.session_model.proofs.Saving.{none_made, saves_more}
use Rattle.session_model.proofs.Logging.{no_entry, more_one, more_in}
use Rattle.session_model.proofs.Owning.{same_number, StillHolds, nothing_done, no_changes, own_changes, closed_owns, entry_made, not_other_own, one_item, made_kept, counters_hold, counters_owned, from_counters}

-- what a turn leaves
abbrev pub TurnLeft : {A : Type 0} → Type 0 → ℕ → Shared → Format → Turn Whole A → Type 0
TurnLeft P n shared format t = StillHolds P n shared t.shared format t.session.format t.session.transaction t.committed

-- ---- runs whose values may be refused

-- what is done leads on; of an error nothing is asked, since what it changed is taken back
abbrev pub DoneWell : {A : Type 0} → Scene → Ending A → Type 0
DoneWell before (done a scene) = Leads before scene
DoneWell before (failed code scene) = Unit {0}

pub done_well : {A : Type 0} (before : Scene) (e : Ending A) → EndsWell before e → DoneWell before e
done_well before (done a scene) well = well
done_well before (failed code scene) well = tt

pub fitted_well : {A : Type 0} (misfit : A → Option ℕ) (before : Scene) (e : Ending A) → EndsWell before e → DoneWell before (fitted misfit e)
fitted_well misfit before (done a scene) well = by (misfit a)
  where
    by : (o : Option ℕ) → DoneWell before (unless_misfit o a scene)
    by None = well
    by (Some code) = tt
fitted_well misfit before (failed code scene) well = tt

kept_is_open : {I : Type 0} (item : I) (t : Option (Open I)) → is_some (kept_open item t) ≡ is_some t
kept_is_open item None = refl
kept_is_open item (Some open') = refl

-- values that come of such a run are not refused, and it opens and ends no transaction
pub fitted_fits : {A : Type 0} (call : Call Whole) (left : Left) (text : List ℕ) (tree : Statement) (shared : Shared) (session : Session Whole) (first last_id : A → Option ℤ) (before : Scene) (misfit : A → Option ℕ)
    (e : Ending A) (a : A) → let t = ended call left text tree shared session first last_id before (fitted misfit e) in t.given.result ≡ Ok a → (misfit a ≡ None) × (is_open t.session ≡ is_open session)
fitted_fits call left text tree shared session first last_id before misfit (failed code scene) a q = cc
fitted_fits {A = A} call left text tree shared session first last_id before misfit (done b scene) a q = by (misfit b) refl q
  where
    after : Session Whole
    after = with_context (context_after session.vars.context tree scene.seeds (last_id b)) session

    result : Result A ℕ
    result = Ok b

    fits : result ≡ Ok a → misfit b ≡ None → misfit a ≡ None
    fits r m = let same : b ≡ a = cc in ap misfit (sym same) ∙ m

    kept_or_not : (warned c : Bool) (item : Whole) → let t = cond c (undone {A = A} 1197 tree shared session scene) (keep call item scene (with_counters scene shared) after (given_by b scene warned)) in
        misfit b ≡ None → t.given.result ≡ Ok a → (misfit a ≡ None) × (is_open t.session ≡ is_open session)
    kept_or_not warned true item m r = cc
    kept_or_not warned false item m r = (fits r m, kept_is_open item session.transaction)

    settled : (warned : Bool) (made : List Change) → let t = settle call (item_of call session.format left text tree session.vars.context shared (first b)) made scene (with_counters scene shared) after (given_by b scene warned)
        (undone 1197 tree shared session scene) in misfit b ≡ None → t.given.result ≡ Ok a → (misfit a ≡ None) × (is_open t.session ≡ is_open session)
    settled warned [] m r = (fits r m, refl)
    settled warned (c ∷ cs) m r =
        let item : Whole = item_of call session.format left text tree session.vars.context shared (first b) (c ∷ cs) in
        kept_or_not warned (takes_too_much call session.transaction item) item m r

    by : (o : Option ℕ) → misfit b ≡ o → let t = ended call left text tree shared session first last_id before (unless_misfit o b scene) in t.given.result ≡ Ok a
        → (misfit a ≡ None) × (is_open t.session ≡ is_open session)
    by (Some code) m r = cc
    by None m r = let made = made_behind (is_other call.number shared.writer) before scene in settled (is_warned session.format shared.base.catalog tree made) made m r

-- ---- the format stays

either_format : {A : Type 0} (b : Bool) (x y : Turn Whole A) (format : Format) → x.session.format ≡ format → y.session.format ≡ format → (cond b x y).session.format ≡ format
either_format true x y format e f = e
either_format false x y format e f = f

settle_format : {A : Type 0} (call : Call Whole) (item : List Change → Whole) (made : List Change) (scene : Scene) (shared : Shared) (session : Session Whole) (given : Given A) (refusal : Turn Whole (Given A))
    → refusal.session.format ≡ session.format → (settle call item made scene shared session given refusal).session.format ≡ session.format
settle_format call item [] scene shared session given refusal e = refl
settle_format call item (c ∷ cs) scene shared session given refusal e =
    either_format (takes_too_much call session.transaction (item (c ∷ cs))) refusal (keep call (item (c ∷ cs)) scene shared session given) session.format e refl

-- a statement leaves its session's format
pub ended_format : {A : Type 0} (call : Call Whole) (left : Left) (text : List ℕ) (tree : Statement) (shared : Shared) (session : Session Whole) (first last_id : A → Option ℤ) (before : Scene) (e : Ending A)
    → (ended call left text tree shared session first last_id before e).session.format ≡ session.format
ended_format call left text tree shared session first last_id before (done a scene) =
    let made = made_behind (is_other call.number shared.writer) before scene in
    settle_format call (item_of call session.format left text tree session.vars.context shared (first a)) made scene (with_counters scene shared)
    (with_context (context_after session.vars.context tree scene.seeds (last_id a)) session) (given_by a scene (is_warned session.format shared.base.catalog tree made))
    (undone 1197 tree shared session scene) refl
ended_format call left text tree shared session first last_id before (failed code scene) = refl

-- ---- its changes kept

module _ (P : Type 0) (identity : Identity) (draw : Draw) (number : ℕ) where
  abbrev call : Call Whole
  call = record { identity = identity; draw = draw; number = number; known = whole }

  kept_alone : (format : Format) (context : Context) (item : Whole) (scene : Scene) (shared : Shared) (cs : List Change) → SharedHolds shared → shared.changes ≡ [] → is_other number shared.writer ≡ false
      → changes_of item ≡ cs → scene.changes ≡ cs → is_some (all_applied cs shared.base.tables) ≡ true → AreOne (item ∷ []) → AreIn format (item ∷ [])
      → StillHolds P number shared (kept_shared call context item None scene shared) format format None (kept_entries call context item None)
  kept_alone format context item scene shared cs h none q e f m one is_in = record {
    holds = record { free = λ _. refl; makes = none_made _ };
    own = closed_owns number (kept_shared call context item None scene shared) format refl;
    entries = entry_made context.stamp identity.server_id (item ∷ []) shared.base scene.changes (f ∙ sym (one_item item cs e)) (ap (λ (ds : List Change). is_some (all_applied ds shared.base.tables)) f ∙ m);
    log = record { count = refl; place = refl; made = λ _. ((omega arith, one), tt) };
    formats = (is_in, tt);
    frame = inr (q, q);
  }

  kept_behind : (format : Format) (item : Whole) (scene : Scene) (shared : Shared) (open' : Open Whole) (cs : List Change) → SharedHolds shared → Owns number shared format (Some open')
      → is_other number shared.writer ≡ false → changes_of item ≡ cs → scene.changes ≡ shared.changes ++ cs → is_some (all_applied (shared.changes ++ cs) shared.base.tables) ≡ true → AreOne (open'.items ++ item ∷ []) → AreIn format (open'.items ++ item ∷ [])
      → StillHolds P number shared (record shared { changes = scene.changes; writer = Some number }) format format (Some (record { items = open'.items ++ item ∷ []; saves = open'.saves; changed = true })) []
  kept_behind format item scene shared open' cs h o q e f m one is_in =
      let own = own_changes number shared format (Some open') h o q in
      let all : scene.changes ≡ changes_in (open'.items ++ item ∷ []) =
      f ∙ (ap (λ (ds : List Change). ds ++ cs) own ∙ (ap (λ (ds : List Change). changes_in open'.items ++ ds) (sym (one_item item cs e)) ∙ sym (flat_map-append changes_of open'.items (item ∷ [])))) in
      record {
        holds = record { free = λ none. absurd (not_free none); makes = ap (λ (ds : List Change). is_some (all_applied ds shared.base.tables)) f ∙ m };
        own = record { own = λ _. all; none = λ l. absurd (not_lost l); saves = saves_more open'.items (item ∷ []) 0 open'.saves o.saves; one = one; formats = is_in };
        entries = refl;
        log = no_entry shared.committed shared.place;
        formats = tt;
        frame = inr (q, not_other_own number);
      }
    where
      not_free : Some number ≡ None → ⊥
      not_free p = cc

      differ : {b : Bool} → b ≡ true → b ≡ false → ⊥
      differ p r = cc

      not_lost : holds_lock number (Some number) ≡ false → ⊥
      not_lost l = differ (same_number number) l

  keep_left : {A : Type 0} (item : Whole) (scene : Scene) (shared : Shared) (vars : SessionVars) (format : Format) (t : Option (Open Whole)) (a : A) (cs : List Change) → SharedHolds shared
      → Owns number shared format t → is_other number shared.writer ≡ false → changes_of item ≡ cs → scene.changes ≡ shared.changes ++ cs → is_some (all_applied (shared.changes ++ cs) shared.base.tables) ≡ true
      → AreOne (items_of t ++ item ∷ []) → AreIn format (items_of t ++ item ∷ [])
      → let turn : Turn Whole A = keep call item scene shared (record { vars = vars; format = format; transaction = t }) a in StillHolds P number shared turn.shared format turn.session.format turn.session.transaction turn.committed
  keep_left item scene shared vars format None a cs h o q e f m one is_in =
      let none = no_changes number shared format None h o q refl in
      let only : shared.changes ++ cs ≡ cs = ap (λ (ds : List Change). ds ++ cs) none in
      kept_alone format vars.context item scene shared cs h none q e (f ∙ only) (ap (λ (ds : List Change). is_some (all_applied ds shared.base.tables)) (sym only) ∙ m) one is_in
  keep_left item scene shared vars format (Some open') a cs h o q e f m one is_in = kept_behind format item scene shared open' cs h o q e f m one is_in

  -- ---- a statement's end

  -- the item of some changes has these, a statement made it, and it is logged in a format
  abbrev MakesItems : Format → (List Change → Whole) → Type 0
  MakesItems format item = (c : Change) (cs : List Change) → (changes_of (item (c ∷ cs)) ≡ c ∷ cs) × IsMade (item (c ∷ cs)) × ((item (c ∷ cs)).kept.rows ≡ logs_rows format (reasons_of (item (c ∷ cs))))

  settle_left : {A : Type 0} (item : List Change → Whole) (made : List Change) (scene : Scene) (shared : Shared) (session : Session Whole) (given : Given A) (refusal : Turn Whole (Given A))
      → MakesItems session.format item → SharedHolds shared → Owns number shared session.format session.transaction → StillHolds P number shared refusal.shared session.format refusal.session.format refusal.session.transaction refusal.committed
      → ((c : Change) (cs : List Change) → made ≡ c ∷ cs
      → (is_other number shared.writer ≡ false) × (scene.changes ≡ shared.changes ++ made) × (is_some (all_applied (shared.changes ++ made) shared.base.tables) ≡ true))
      → let turn : Turn Whole (Given A) = settle call item made scene shared session given refusal in StillHolds P number shared turn.shared session.format turn.session.format turn.session.transaction turn.committed
  settle_left item [] scene shared session given refusal makes h o taken some = nothing_done P number shared session.format session.format session.transaction h o
  settle_left {A = A} item (c ∷ cs) scene shared session given refusal makes h o taken some = by (takes_too_much call session.transaction (item (c ∷ cs))) refl
    where
      by : (b : Bool) → takes_too_much call session.transaction (item (c ∷ cs)) ≡ b
          → let turn : Turn Whole (Given A) = cond b refusal (keep call (item (c ∷ cs)) scene shared session given) in StillHolds P number shared turn.shared session.format turn.session.format turn.session.transaction turn.committed
      by true q = taken
      by false q =
          let k = some c cs refl in
          let m = makes c cs in
          keep_left (item (c ∷ cs)) scene shared session.vars session.format session.transaction given (c ∷ cs) h o k.0 m.0 k.1 k.2
          (more_one (items_of session.transaction) (item (c ∷ cs)) o.one m.1 q) (more_in session.format (items_of session.transaction) (item (c ∷ cs)) o.formats m.2)

  ended_left : {A : Type 0} (left : Left) (text : List ℕ) (tree : Statement) (shared : Shared) (session : Session Whole) (first last_id : A → Option ℤ) (e : Ending A)
      → SharedHolds shared → Owns number shared session.format session.transaction → DoneWell (scene_for number left session.vars.context shared) e
      → let turn : Turn Whole (Given A) = ended call left text tree shared session first last_id (scene_for number left session.vars.context shared) e in
      StillHolds P number shared turn.shared session.format turn.session.format turn.session.transaction turn.committed
  ended_left {A = A} left text tree shared session first last_id e h o ends = by e ends
    where
      -- nothing but counters
      taken_back : (scene : Scene) → StillHolds P number (with_counters scene shared) (with_counters scene shared) session.format session.format session.transaction []
      taken_back scene =
          nothing_done P number (with_counters scene shared) session.format session.format session.transaction (counters_hold scene shared h)
          (counters_owned number scene shared session.format session.transaction o)

      by : (e : Ending A) → DoneWell (scene_for number left session.vars.context shared) e
          → let turn : Turn Whole (Given A) = ended call left text tree shared session first last_id (scene_for number left session.vars.context shared) e in
          StillHolds P number shared turn.shared session.format turn.session.format turn.session.transaction turn.committed
      by (done a scene) ends =
          from_counters P number scene shared _ _ _ _ _
          (settle_left (item_of call session.format left text tree session.vars.context shared (first a)) (made_behind (is_other number shared.writer) (scene_for number left session.vars.context shared) scene)
          scene (with_counters scene shared) (with_context (context_after session.vars.context tree scene.seeds (last_id a)) session)
          (given_by a scene (is_warned session.format shared.base.catalog tree (made_behind (is_other number shared.writer) (scene_for number left session.vars.context shared) scene)))
          (undone 1197 tree shared session scene) (λ c cs. (refl, record { defs = refl; some = omega arith }, refl))
          (counters_hold scene shared h) (counters_owned number scene shared session.format session.transaction o) (taken_back scene)
          (λ c cs q. let k = made_kept number left session.vars.context shared scene h (is_other number shared.writer) refl ends c cs q in k))
      by (failed code scene) ends = from_counters P number scene shared _ _ _ _ _ (taken_back scene)

  -- ---- a statement, and expressions

  module _ (shared : Shared) (session : Session Whole) (h : SharedHolds shared) (o : Owns number shared session.format session.transaction) where
    pub statement_left : StatementsEndWell → (left : Left) (text : List ℕ) (s : Statement) → TurnLeft P number shared session.format (statement_run call left text s shared session)
    statement_left statements left text s =
        ended_left left text s shared session (λ (did : Did). did.first) (λ (did : Did). did.last_id) _ h o
        (done_well _ _ (statements (setting_of shared.base.catalog session.vars.context (number_of_bytes 0 draw.uuid)) left.nesting [] s (scene_for number left session.vars.context shared)))

    pub values_left : EvaluationsEndWell → (left : Left) (text : List ℕ) (tree : Statement) (locals : List Local) (ts : Trees)
        → TurnLeft P number shared session.format (values_run call left text tree locals ts shared session)
    values_left evaluations left text tree locals ts =
        ended_left {A = List Value} left text tree shared session (λ _. None) (λ _. None) _ h o
        (done_well _ _ (evaluations (setting_of shared.base.catalog session.vars.context (number_of_bytes 0 draw.uuid)) left.nesting locals ts (scene_for number left session.vars.context shared)))

    pub fitted_left : EvaluationsEndWell → (left : Left) (text : List ℕ) (ts : Trees) (misfit : List Value → Option ℕ) → TurnLeft P number shared session.format (fitted_run call left text ts misfit shared session)
    fitted_left evaluations left text ts misfit =
        let before = scene_for number left session.vars.context shared in
        let setting = setting_of shared.base.catalog session.vars.context (number_of_bytes 0 draw.uuid) in
        ended_left {A = List Value} left text (evaluate ts) shared session (λ _. None) (λ _. None) (fitted misfit (evaluation setting left.nesting [] ts before)) h o
        (fitted_well misfit before (evaluation setting left.nesting [] ts before) (evaluations setting left.nesting [] ts before))
