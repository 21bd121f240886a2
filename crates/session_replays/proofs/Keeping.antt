-- What one statement of a session leaves: its item gives its changes on the base, behind those of the items before it.
use Rattle.std.proofs.Common.{◌≡◌, ℕ, ◌⊎◌, inl, inr, Bool, true, false, List, [], ◌∷◌, ◌++◌, Option, Some, None, ℤ, refl, sym, ◌∙◌, ap, subst, cond}
use Rattle.val_types.specs.declared.change.Change.{Change}
use Rattle.session_model.specs.proc_model.Talk.{Left}
use Rattle.sql_tree.specs.Statement.{Statement}
use Rattle.name_const_laws.specs.catalog_rules.Objects.{Object}
use Rattle.name_const_laws.specs.log_entries.declared.entries.Entry.{Entry}
use Rattle.name_const_laws.specs.sql_meaning.Scenes.{Scene, Ending, done, failed}
use Rattle.name_const_laws.specs.sql_meaning.Frames.{Context}
use Rattle.name_const_laws.specs.sql_meaning.Changing.{Did}
use Rattle.name_const_laws.specs.sql_meaning.Running.{effect, context_after}
use Rattle.independence_laws.specs.session_ctx.declared.session.SessionVars.{SessionVars}
use Rattle.session_model.specs.Sessions.{Open, Session, Shared, tables_with}
use Rattle.name_const_laws.specs.sql_reach.Carrying.{carried}
use Rattle.name_const_laws.specs.sql_reach.Defining.{number_of_bytes}
use Rattle.session_model.specs.Running.{Known, Call, Turn, Given, is_other, items_of, keep, made_behind, with_counters, scene_for, takes_too_much, undone, settle, ended, given_by, is_warned, item_of, with_context, setting_of}
use Rattle.session_model.specs.declared.format.Format.{Format}
use Rattle.session_model.specs.Machine.{Whole, whole}
use Rattle.session_model.specs.Holding.{changes_in, Owns, SharedHolds}
use Rattle.session_model.proofs.Keeping.{DoneWell}
use Rattle.session_replays.proofs.Spending.{IsWithin}
use Rattle.session_model.proofs.Owning.{Frame, StillHolds, own_changes, made_kept}
use Rattle.session_replays.specs.Again.{Gives, AllGive, EntriesGive}
use Rattle.session_replays.proofs.Giving.{all_behind, entries_behind}

-- Entries that give their changes on the base before, and open items that give theirs on the base after; the base is the same,
-- or no other session had the lock.
pub record Kept (n : ℕ) (old new : Shared) (t : Option (Open Whole)) (es : List (Entry Whole)) : Type 0 where
  pub entries : EntriesGive old.base es
  pub items : AllGive new.base [] (items_of t)
  pub frame : (new.base ≡ old.base) ⊎ (is_other n old.writer ≡ false)

abbrev pub TurnKept : {A : Type 0} → ℕ → Shared → Turn Whole A → Type 0
TurnKept n shared t = Kept n shared t.shared t.session.transaction t.committed

-- nothing that counts is done
pub nothing_kept : (n : ℕ) (shared : Shared) (t : Option (Open Whole)) → AllGive shared.base [] (items_of t) → Kept n shared shared t []
nothing_kept n shared t g = record { entries = tt; items = g; frame = inl refl }

-- for the other sessions, one thing behind the other
frame_on : (n : ℕ) (a b c : Shared) → Frame n a b → (b.base ≡ a.base) ⊎ (is_other n a.writer ≡ false) → (c.base ≡ b.base) ⊎ (is_other n b.writer ≡ false) → (c.base ≡ a.base) ⊎ (is_other n a.writer ≡ false)
frame_on n a b c f (inr p) k = inr p
frame_on n a b c f (inl e) (inl d) = inl (d ∙ e)
frame_on n a b c (inl (w, s)) (inl e) (inr q) = inr (ap (is_other n) (sym w) ∙ q)
frame_on n a b c (inr (p, s)) (inl e) (inr q) = inr p

-- what is kept behind what was kept
pub kept_on : (P : Type 0) (n : ℕ) (a b c : Shared) (first last : Format) (t u : Option (Open Whole)) (front back : List (Entry Whole)) → StillHolds P n a b first last t front → Kept n a b t front → Kept n b c u back
    → Kept n a c u (front ++ back)
kept_on P n a b c first last t u front back h f k = record {
  entries = entries_behind front back a.base b.base f.entries h.entries k.entries;
  items = k.items;
  frame = frame_on n a b c h.frame f.frame k.frame;
}

-- ---- one item

-- a session beside no other sees the base with its own changes
seen_again : (n : ℕ) (left : Left) (context : Context) (shared : Shared) (b : Bool) → is_other n shared.writer ≡ b → b ≡ false
    → scene_for n left context shared ≡ record {
      tables = tables_with shared.changes shared.base.tables;
      changes = shared.changes;
      counters = shared.counters;
      seeds = context.seeds;
      turns = left.turns;
      uuids = left.uuids;
    }
seen_again n left context shared b q e =
    ap (λ (c : Bool). record {
      tables = cond c shared.base.tables (tables_with shared.changes shared.base.tables);
      changes = cond c [] shared.changes;
      counters = shared.counters;
      seeds = context.seeds;
      turns = left.turns;
      uuids = left.uuids;
    }) (q ∙ e)

-- A statement of a session that was done on a scene, where it generated this value first.
pub record WasDone (call : Call Whole) (left : Left) (shared : Shared) (context : Context) (tree : Statement) (value : Option ℤ) (before after : Scene) : Type 0 where
  pub did : Did
  pub first : did.first ≡ value
  pub ends : effect (setting_of shared.base.catalog context (number_of_bytes 0 call.draw.uuid)) left.nesting [] tree before ≡ done did after

-- what is carried has the first value that was generated
carries_first : (catalog : List Object) (s : Statement) (context : Context) (first : Option ℤ) → first ≡ (carried catalog s context first).first
unfolding carried
carries_first catalog s context first = refl

module _ (call : Call Whole) (left : Left) (low : IsWithin left) (text : List ℕ) (tree : Statement) (shared : Shared) where
  -- its item gives its changes behind those of the items before
  item_gives : (format : Format) (context : Context) (scene : Scene) (first : Option ℤ) (cs before : List Change) → call.known ≡ whole → is_other call.number shared.writer ≡ false
      → shared.changes ≡ before → scene.changes ≡ shared.changes ++ cs → WasDone call left shared context tree first (scene_for call.number left context shared) scene
      → Gives shared.base before (item_of call format left text tree context shared first cs)
  item_gives format context scene first cs before noted q own f d =
      subst (λ (known : Known Whole). Gives shared.base before (item_of (record call { known = known }) format left text tree context shared first cs)) (sym noted)
      (subst (λ (ds : List Change). Gives shared.base ds (item_of (record call { known = whole }) format left text tree context shared first cs)) own
      (record {
        did = d.did;
        scene = scene;
        ends = ap (effect (setting_of shared.base.catalog context (number_of_bytes 0 call.draw.uuid)) left.nesting [] tree) (sym (seen_again call.number left context shared (is_other call.number shared.writer) refl q)) ∙ d.ends;
        changes = f;
        catalog = refl;
        first = d.first ∙ carries_first shared.base.catalog tree context first;
        carries = ap (λ (v : Option ℤ). carried shared.base.catalog tree context v) (sym d.first);
        nesting = low.nesting;
        turns = low.turns;
      }))

  -- ---- kept

  keep_kept : {A : Type 0} (item : Whole) (scene : Scene) (new : Shared) (vars : SessionVars) (format : Format) (t : Option (Open Whole)) (a : A) → new.base ≡ shared.base → is_other call.number shared.writer ≡ false
      → AllGive shared.base [] (items_of t) → Gives shared.base (changes_in (items_of t)) item
      → let turn : Turn Whole A = keep call item scene new (record { vars = vars; format = format; transaction = t }) a in Kept call.number shared turn.shared turn.session.transaction turn.committed
  keep_kept item scene new vars format None a e q g one = record { entries = ((one, tt), λ next made. tt); items = tt; frame = inr q }
  keep_kept item scene new vars format (Some open') a e q g one = record {
    entries = tt;
    items = all_behind new.base [] open'.items item (subst (λ b. AllGive b [] open'.items) (sym e) g) (subst (λ b. Gives b (changes_in open'.items) item) (sym e) one);
    frame = inl e;
  }

  -- a statement that changed nothing leaves no item, and so does one whose item is too much
  settle_kept : {A : Type 0} (context : Context) (scene : Scene) (first : Option ℤ) (made : List Change) (session : Session Whole) (given : Given A) (refusal : Turn Whole (Given A)) → call.known ≡ whole
      → SharedHolds shared → Owns call.number shared session.format session.transaction → AllGive shared.base [] (items_of session.transaction)
      → WasDone call left shared context tree first (scene_for call.number left context shared) scene → TurnKept call.number shared refusal
      → ((c : Change) (cs : List Change) → made ≡ c ∷ cs → (is_other call.number shared.writer ≡ false) × (scene.changes ≡ shared.changes ++ made))
      → TurnKept call.number shared (settle call (item_of call session.format left text tree context shared first) made scene (with_counters scene shared) session given refusal)
  settle_kept context scene first [] session given refusal noted h o g d taken some = record { entries = tt; items = g; frame = inl refl }
  settle_kept {A = A} context scene first (c ∷ cs) session given refusal noted h o g d taken some = by (takes_too_much call session.transaction (item_of call session.format left text tree context shared first (c ∷ cs)))
    where
      by : (b : Bool) → TurnKept call.number shared (cond b refusal (keep call (item_of call session.format left text tree context shared first (c ∷ cs)) scene (with_counters scene shared) session given))
      by true = taken
      by false =
          let k = some c cs refl in
          keep_kept (item_of call session.format left text tree context shared first (c ∷ cs)) scene (with_counters scene shared) session.vars session.format session.transaction given refl k.0 g
          (item_gives session.format context scene first (c ∷ cs) (changes_in (items_of session.transaction)) noted k.0 (own_changes call.number shared session.format session.transaction h o k.0) k.1 d)

  -- a statement that ended, done or with an error
  pub ended_kept : {A : Type 0} (session : Session Whole) (first last_id : A → Option ℤ) (e : Ending A) → call.known ≡ whole → SharedHolds shared → Owns call.number shared session.format session.transaction
      → AllGive shared.base [] (items_of session.transaction) → DoneWell (scene_for call.number left session.vars.context shared) e
      → ((a : A) (scene : Scene) → e ≡ done a scene → WasDone call left shared session.vars.context tree (first a) (scene_for call.number left session.vars.context shared) scene)
      → let turn : Turn Whole (Given A) = ended call left text tree shared session first last_id (scene_for call.number left session.vars.context shared) e in
      Kept call.number shared turn.shared turn.session.transaction turn.committed
  ended_kept session first last_id (done a scene) noted h o g ends was =
      let before = scene_for call.number left session.vars.context shared in
      let made = made_behind (is_other call.number shared.writer) before scene in
      settle_kept session.vars.context scene (first a) made (with_context (context_after session.vars.context tree scene.seeds (last_id a)) session)
      (given_by a scene (is_warned session.format shared.base.catalog tree made)) (undone 1197 tree shared session scene) noted h o g (was a scene refl)
      (record { entries = tt; items = g; frame = inl refl })
      (λ c cs q. let k = made_kept call.number left session.vars.context shared scene h (is_other call.number shared.writer) refl ends c cs q in (k.0, k.1))
  ended_kept session first last_id (failed code scene) noted h o g ends was = record { entries = tt; items = g; frame = inl refl }
