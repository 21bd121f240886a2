-- What a command leaves of what holds: the lock, the open changes, and where the log ends.
use Rattle.std.proofs.Common.{◌≡◌, ◌≢◌, ℕ, zero, suc, ◌⊎◌, inl, inr, Bool, true, false, not, ◌==◌, List, [], ◌∷◌, ◌++◌, length, take, drop, Option, Some, None, refl, sym, ◌∙◌, ap, subst, arith, cond}
use Rattle.std.proofs.lemmas.List.{append-nil}
use Rattle.std.proofs.lemmas.Bool.{eqb-true, eq-eqb}
use Rattle.std.proofs.Math.Seq.{drop-append_seam}
use Rattle.std.specs.Prelude.{is_some, nat_le, unwrap_or, ◌||◌}
use Rattle.std.specs.Option.{option_map, option_and_then}
use Rattle.val_types.specs.declared.change.Change.{Change}
use Rattle.table_rules.specs.Tables.{Table}
use Rattle.table_rules.specs.Stored.{all_applied}
use Rattle.table_rules.proofs.Equations.{all_applied_behind}
use Rattle.session_ctx.specs.catalog_rules.Bases.{Base}
use Rattle.binlog_sizes.specs.log_entries.declared.entries.Entry.{Entry}
use Rattle.binlog_sizes.specs.log_entries.declared.entries.Entry.TheVariants.{Transaction}
use Rattle.binlog_sizes.specs.log_entries.Entries.{after, with_tables}
use Rattle.binlog_sizes.proofs.of_log_entries.Following.{go_on}
use Rattle.session_ctx.specs.sql_meaning.Scenes.{Scene}
use Rattle.session_ctx.specs.sql_meaning.Frames.{Context}
use Rattle.session_ctx.specs.sql_meaning.Leading.{Leads}
use Rattle.proc_model.specs.Procedures.{plain_refusal}
use Rattle.proc_model.specs.Talk.{Left, Refusal}
use Rattle.session_model.specs.Answers.{refused_as}
use Rattle.session_model.specs.Sessions.{Open, Shared, tables_with}
use Rattle.session_model.specs.Running.{is_other, items_of, made_behind, with_counters, scene_for, writing_check, writing_refusal, held_by, most_committed, is_full}
use Rattle.session_model.specs.Machine.{Whole}
use Rattle.session_model.specs.Holding.{changes_of, define, changes_in, holds_lock, EntriesIn, Owns, SharedHolds}
use Rattle.session_model.specs.declared.format.Format.{Format}
use Rattle.session_model.proofs.Logging.{Logged, logged_on, in_behind, no_entry, none_one}

-- ---- the lock

pub same_number : (n : ℕ) → (n == n) ≡ true
same_number n = eq-eqb n n refl

pub held_not_other : (n : ℕ) (w : Option ℕ) → holds_lock n w ≡ true → is_other n w ≡ false
held_not_other n None h = cc
held_not_other n (Some w) h = ap not h

pub other_not_held : (n : ℕ) (w : Option ℕ) → is_other n w ≡ true → holds_lock n w ≡ false
other_not_held n None h = refl
other_not_held n (Some w) h = by (w == n) h
  where
    by : (b : Bool) → not b ≡ true → b ≡ false
    by true e = cc
    by false e = refl

-- a session beside no other: it has the lock, or none has
own_or_free : (n : ℕ) (w : Option ℕ) → is_other n w ≡ false → (holds_lock n w ≡ true) ⊎ (w ≡ None)
own_or_free n None h = inr refl
own_or_free n (Some w) h = inl (by (w == n) h)
  where
    by : (b : Bool) → not b ≡ false → b ≡ true
    by true e = refl
    by false e = cc

-- of two sessions, one beside no other, the second does not have the lock
pub not_both : (n k : ℕ) (w : Option ℕ) → k ≢ n → is_other n w ≡ false → holds_lock k w ≡ false
not_both n k None differ h = refl
not_both n k (Some w) differ h = by (w == n) (w == k) refl refl h
  where
    by : (b c : Bool) → (w == n) ≡ b → (w == k) ≡ c → not b ≡ false → c ≡ false
    by true true p q e = absurd (differ (sym (eqb-true w k q) ∙ eqb-true w n p))
    by true false p q e = refl
    by false c p q e = cc

pub none_taken : {A : Type 0} (k : ℕ) (xs : List A) → xs ≡ [] → take k xs ≡ []
none_taken zero xs e = refl
none_taken (suc k) [] e = refl
none_taken (suc k) (x ∷ xs) e = cc

-- ---- what a turn leaves

-- For the other sessions it is as before, or none of them has or had the lock.
abbrev pub Frame : ℕ → Shared → Shared → Type 0
Frame n old new = ((new.writer ≡ old.writer) × (new.changes ≡ old.changes)) ⊎ ((is_other n old.writer ≡ false) × (is_other n new.writer ≡ false))

-- What is left holds; the entries that were put out make the new base, lead to the new end of the log, and are logged in the format
-- that the session had at first. A premise is that of their texts.
pub record StillHolds (P : Type 0) (n : ℕ) (old new : Shared) (first last : Format) (t : Option (Open Whole)) (es : List (Entry Whole)) : Type 0 where
  pub holds : SharedHolds new
  pub own : Owns n new last t
  pub entries : after changes_of define es old.base ≡ Some new.base
  pub log : Logged P es old.committed old.place new.committed new.place
  pub formats : EntriesIn first es
  pub frame : Frame n old new

-- nothing is done
pub nothing_done : (P : Type 0) (n : ℕ) (shared : Shared) (first last : Format) (t : Option (Open Whole)) → SharedHolds shared → Owns n shared last t → StillHolds P n shared shared first last t []
nothing_done P n shared first last t h o = record { holds = h; own = o; entries = refl; log = no_entry shared.committed shared.place; formats = tt; frame = inl (refl, refl) }

-- for the other sessions, one thing behind the other
frame_on : (n : ℕ) (a b c : Shared) → Frame n a b → Frame n b c → Frame n a c
frame_on n a b c (inl (w, d)) (inl (x, e)) = inl (x ∙ w, e ∙ d)
frame_on n a b c (inl (w, d)) (inr (p, q)) = inr (ap (is_other n) (sym w) ∙ p, q)
frame_on n a b c (inr (p, q)) (inl (x, e)) = inr (p, ap (is_other n) x ∙ q)
frame_on n a b c (inr (p, q)) (inr (r, s)) = inr (p, s)

-- what is left behind what was left, where the format is still the first
pub holds_on : (P : Type 0) (n : ℕ) (a b c : Shared) (first mid last : Format) (t u : Option (Open Whole)) (front back : List (Entry Whole)) → mid ≡ first
    → StillHolds P n a b first mid t front → StillHolds P n b c mid last u back → StillHolds P n a c first last u (front ++ back)
holds_on P n a b c first mid last t u front back same f k = record {
  holds = k.holds;
  own = k.own;
  entries = go_on changes_of define front back a.base ∙ (ap (λ (made : Option Base). option_and_then (after changes_of define back) made) f.entries ∙ k.entries);
  log = logged_on front back a.committed b.committed c.committed a.place b.place c.place f.log k.log;
  formats = in_behind first front back f.formats (subst (λ (format : Format). EntriesIn format back) same k.formats);
  frame = frame_on n a b c f.frame k.frame;
}

-- without items of its own a session beside no other has no changes
pub no_changes : (n : ℕ) (shared : Shared) (format : Format) (t : Option (Open Whole)) → SharedHolds shared → Owns n shared format t → is_other n shared.writer ≡ false → items_of t ≡ [] → shared.changes ≡ []
no_changes n shared format t h o q e = by (own_or_free n shared.writer q)
  where
    by : (holds_lock n shared.writer ≡ true) ⊎ (shared.writer ≡ None) → shared.changes ≡ []
    by (inl l) = o.own l ∙ ap changes_in e
    by (inr free) = h.free free

-- the open changes are those of the items of a session beside no other
pub own_changes : (n : ℕ) (shared : Shared) (format : Format) (t : Option (Open Whole)) → SharedHolds shared → Owns n shared format t → is_other n shared.writer ≡ false → shared.changes ≡ changes_in (items_of t)
own_changes n shared format t h o q = by (own_or_free n shared.writer q)
  where
    free_not_held : (w : Option ℕ) → w ≡ None → holds_lock n w ≡ false
    free_not_held None e = refl
    free_not_held (Some w) e = cc

    by : (holds_lock n shared.writer ≡ true) ⊎ (shared.writer ≡ None) → shared.changes ≡ changes_in (items_of t)
    by (inl l) = o.own l
    by (inr free) = h.free free ∙ sym (ap changes_in (o.none (free_not_held shared.writer free)))

-- a session that is closed owns nothing, where nothing is open
pub closed_owns : (n : ℕ) (shared : Shared) (format : Format) → shared.changes ≡ [] → Owns n shared format None
closed_owns n shared format e = record { own = λ _. e; none = λ _. refl; saves = omega arith; one = none_one; formats = tt }

-- ---- the end of a transaction

-- changes that can be made, made to the tables
made_tables : (cs : List Change) (ts : List Table) → is_some (all_applied cs ts) ≡ true → all_applied cs ts ≡ Some (tables_with cs ts)
made_tables cs ts h = by (all_applied cs ts) h
  where
    by : (o : Option (List Table)) → is_some o ≡ true → o ≡ Some (unwrap_or o ts)
    by None e = cc
    by (Some us) e = refl

pub entry_made : (stamp server : ℕ) (is : List Whole) (base : Base) (cs : List Change) → cs ≡ changes_in is → is_some (all_applied cs base.tables) ≡ true
    → after changes_of define (Transaction stamp server is ∷ []) base ≡ Some (with_tables base (tables_with cs base.tables))
entry_made stamp server is base cs e h =
    let made : all_applied (changes_in is) base.tables ≡ Some (tables_with cs base.tables) = ap (λ (ds : List Change). all_applied ds base.tables) (sym e) ∙ made_tables cs base.tables h in
    ap (λ (o : Option (List Table)). option_and_then (after changes_of define []) (option_map (with_tables base) o)) made

pub released_left : (P : Type 0) (n : ℕ) (shared : Shared) (format : Format) (t : Option (Open Whole)) → SharedHolds shared → Owns n shared format t → items_of t ≡ [] → (b : Bool) → is_other n shared.writer ≡ b
    → StillHolds P n shared (cond b shared (record shared { writer = None })) format format None []
released_left P n shared format t h o e true q = record {
  holds = h;
  own = record { own = λ l. absurd (by (other_not_held n shared.writer q) l); none = λ _. refl; saves = omega arith; one = none_one; formats = tt };
  entries = refl;
  log = no_entry shared.committed shared.place;
  formats = tt;
  frame = inl (refl, refl);
}
  where
    by : {b : Bool} → b ≡ false → b ≡ true → ⊥
    by p r = cc
released_left P n shared format t h o e false q = record {
  holds = record { free = λ _. no_changes n shared format t h o q e; makes = h.makes };
  own = closed_owns n (record shared { writer = None }) format (no_changes n shared format t h o q e);
  entries = refl;
  log = no_entry shared.committed shared.place;
  formats = tt;
  frame = inr (q, refl);
}

pub must_own : (n : ℕ) (shared : Shared) (format : Format) (i : Whole) (is : List Whole) (t : Option (Open Whole)) → Owns n shared format t → items_of t ≡ i ∷ is → holds_lock n shared.writer ≡ true
must_own n shared format i is t o e = by (holds_lock n shared.writer) refl
  where
    not_empty : [] ≡ i ∷ is → ⊥
    not_empty p = cc

    by : (b : Bool) → holds_lock n shared.writer ≡ b → b ≡ true
    by true q = refl
    by false q = absurd (not_empty (sym (o.none q) ∙ e))

-- ---- a statement's changes kept

-- where the session keeps the lock, another does not have it
pub not_other_own : (n : ℕ) → is_other n (Some n) ≡ false
not_other_own n = ap not (same_number n)

pub one_item : (item : Whole) (cs : List Change) → changes_of item ≡ cs → changes_in (item ∷ []) ≡ cs
one_item item cs e = append-nil (changes_of item) ∙ e

-- the tables that a session sees beside no other
made_more : (changes cs : List Change) (ts us : List Table) → is_some (all_applied changes ts) ≡ true → all_applied cs (tables_with changes ts) ≡ Some us
    → all_applied (changes ++ cs) ts ≡ Some us
made_more changes cs ts us h e = all_applied_behind changes cs ts ∙ (ap (λ (o : Option (List Table)). option_and_then (all_applied cs) o) (made_tables changes ts h) ∙ e)

some_there : {A : Type 0} (o : Option A) (a : A) → o ≡ Some a → is_some o ≡ true
some_there o a e = ap is_some e

-- beside another session's open changes none are kept; else they stand behind those before
pub made_kept : (n : ℕ) (left : Left) (context : Context) (shared : Shared) (scene : Scene) → SharedHolds shared → (b : Bool) → is_other n shared.writer ≡ b
    → Leads (scene_for n left context shared) scene → (c : Change) (cs : List Change) → made_behind b (scene_for n left context shared) scene ≡ c ∷ cs
    → (b ≡ false) × (scene.changes ≡ shared.changes ++ made_behind b (scene_for n left context shared) scene)
    × (is_some (all_applied (shared.changes ++ made_behind b (scene_for n left context shared) scene) shared.base.tables) ≡ true)
made_kept n left context shared scene h true q leads c cs e = cc
made_kept n left context shared scene h false q leads c cs e =
    let old : (scene_for n left context shared).changes ≡ shared.changes = ap (λ (b : Bool). cond b [] shared.changes) q in
    let seen : (scene_for n left context shared).tables ≡ tables_with shared.changes shared.base.tables = ap (λ (b : Bool). cond b shared.base.tables (tables_with shared.changes shared.base.tables)) q in
    let added : scene.changes ≡ shared.changes ++ leads.more = leads.added ∙ ap (λ (ds : List Change). ds ++ leads.more) old in
    let made : drop (length (scene_for n left context shared).changes) scene.changes ≡ leads.more =
    ap (λ (ds : List Change). drop (length ds) scene.changes) old ∙ (ap (λ (ds : List Change). drop (length shared.changes) ds) added ∙ drop-append_seam shared.changes leads.more) in
    let applied' : all_applied leads.more (tables_with shared.changes shared.base.tables) ≡ Some scene.tables = ap (λ (ts : List Table). all_applied leads.more ts) (sym seen) ∙ leads.made in (
      refl,
      added ∙ ap (λ (ds : List Change). shared.changes ++ ds) (sym made),
      ap (λ (ds : List Change). is_some (all_applied (shared.changes ++ ds) shared.base.tables)) made
          ∙ some_there (all_applied (shared.changes ++ leads.more) shared.base.tables) scene.tables (made_more shared.changes leads.more shared.base.tables scene.tables h.makes applied'),
    )

-- ---- a statement's end

pub counters_hold : (scene : Scene) (shared : Shared) → SharedHolds shared → SharedHolds (with_counters scene shared)
counters_hold scene shared h = record { free = h.free; makes = h.makes }

pub counters_owned : (n : ℕ) (scene : Scene) (shared : Shared) (format : Format) (t : Option (Open Whole)) → Owns n shared format t → Owns n (with_counters scene shared) format t
counters_owned n scene shared format t o = record { own = o.own; none = o.none; saves = o.saves; one = o.one; formats = o.formats }

-- what is left from a base with other counters, is left from the base
pub from_counters : (P : Type 0) (n : ℕ) (scene : Scene) (shared new : Shared) (first last : Format) (t : Option (Open Whole)) (es : List (Entry Whole)) → StillHolds P n (with_counters scene shared) new first last t es → StillHolds P n shared new first last t es
from_counters P n scene shared new first last t es l = record { holds = l.holds; own = l.own; entries = l.entries; log = l.log; formats = l.formats; frame = l.frame }

-- ---- statements that write

-- where nothing refuses a session that writes, it has the lock or none has
pub free_to_write : (n : ℕ) (shared : Shared) → writing_refusal n shared ≡ None → is_other n shared.writer ≡ false
free_to_write n shared e = limits (nat_le most_committed shared.committed || is_full shared.place) (unanswered (writing_check n shared) e)
  where
    unanswered : (o : Option Refusal) → option_map refused_as o ≡ None → o ≡ None
    unanswered None q = refl
    unanswered (Some refusal) q = cc

    by : (b : Bool) (w : ℕ) → cond {A = Option Refusal} b None (Some (record { code = 1205; holder = Some w })) ≡ None → not b ≡ false
    by true w q = refl
    by false w q = cc

    held : (w : Option ℕ) → held_by n w ≡ None → is_other n w ≡ false
    held None q = refl
    held (Some w) q = by (w == n) w q

    limits : (b : Bool) → cond {A = Option Refusal} b (Some (plain_refusal 30008)) (held_by n shared.writer) ≡ None → is_other n shared.writer ≡ false
    limits true q = cc
    limits false q = held shared.writer q
