-- A source's whole log, read again and carried out.
use Rattle.std.proofs.Common.{◌≡◌, ◌<◌, ◌^◌, ℕ, ◌+◌, Bool, false, List, [], ◌∷◌, ◌++◌, length, map, Option, Some, None, Result, refl, sym, ap, ◌∙◌, subst, append_assoc, append-nil, arith}
use Rattle.port_traits.specs.declared.identity.Identity.{Identity}
use Rattle.port_traits.specs.declared.identity.Draw.{Draw}
use Rattle.apply_laws.specs.catalog_rules.Bases.{Base, empty_base}
use Rattle.apply_laws.specs.log_entries.declared.entries.Entry.{Entry}
use Rattle.apply_laws.specs.log_entries.declared.entries.Entry.TheVariants.{Transaction, Definition, LogStart}
use Rattle.apply_laws.specs.log_model.Groups.{Group, group, group_at}
use Rattle.apply_laws.specs.log_model.Log.{LogPlace, behind, counted, description, entry_bytes, log, magic, EntriesHaveLength, HeadsHaveLength}
use Rattle.apply_laws.specs.log_model.Written.{bytes_of}
use Rattle.apply_laws.specs.log_entry_laws.Entries.{group_of_entry, start_group, StaysInLog, CanLog, CanLogAll}
use Rattle.apply_laws.specs.log_entry_laws.Laws.{EntryIsRead, GroupsHaveBounds, StartIsRead}
use Rattle.run_model.specs.log_file_model.Passing.{EndIsSeen, GroupIsPassed, MagicIsPassed, Passed as PassedBy, ending_with, names_next}
use Rattle.run_model.specs.log_file_model.Walk.{ended, grouped, Grouped, Piece}
use Rattle.apply_laws.specs.apply_model.Stops.{Differs}
use Rattle.apply_laws.specs.apply_model.Groups.{Applied, group_carried}
use Rattle.apply_laws.specs.session_model.Machine.{Whole, kept_entry, log_of, first_place, nowhere}
use Rattle.apply_laws.specs.session_replays.Followed.{EntriesFollow}
use Rattle.run_model.specs.replica_model.Replaying.{Replay, all_replayed, by_form, carried, first_replay, replayed, unless_stopped}
use Rattle.run_model.specs.Following.{AreCommitted, groups_of}
use Rattle.run_laws.specs.Replays.{LogIsItsEntries, ReplayIsEqual, groups_in}
use Rattle.run_laws.proofs.Carrying.{Appliers, stays, others, in_front, in_back, Ready, history_ready, entry_carried, nothing_is_owed}
use Rattle.run_laws.proofs.Fetching.{entry_moves}
use Rattle.run_laws.proofs.Places.{first_event_length}
use Rattle.run_model.specs.Run.{from_nothing}

-- a log with its beginning and entries
abbrev begun : (stamp server : ℕ) → List (Entry Whole) → List (Entry Whole)
begun stamp server es = LogStart stamp server ∷ es

-- ---- a log is its entries

-- What the proofs take from the crates below.
pub record Reads : Type 0 where
  pub have : EntriesHaveLength
  pub heads : HeadsHaveLength
  pub bounds : GroupsHaveBounds
  pub start : StartIsRead
  pub entry : EntryIsRead
  pub magic_passed : MagicIsPassed
  pub group_passed : GroupIsPassed
  pub end_seen : EndIsSeen

-- a log's bytes that were passed, from its first group on
abbrev Passed : (front : List ℕ) → List Piece → (pos : ℕ) → (closed : Bool) → Type 0
Passed front ps pos closed = PassedBy grouped front ps pos closed

-- entries read behind bytes of a log that were passed
record Read (es : List (Entry Whole)) (number : ℕ) (p : LogPlace) (front : List ℕ) (ps : List Piece) : Type 0 where
  pub more : List Piece
  pub pos : ℕ
  pub passed : Passed (front ++ log (map kept_entry es) number p) (ps ++ more) pos false
  pub groups : groups_in more ≡ groups_of (map kept_entry es) number p

names_none : (e : Entry Whole) (number : ℕ) (p : LogPlace) → StaysInLog (kept_entry e) → names_next (group_of_entry (kept_entry e) number p).form ≡ false
names_none (Transaction stamp server []) number p stay = refl
names_none (Transaction stamp server (i ∷ is)) number p stay = refl
names_none (Definition stamp server i) number p stay = refl
names_none (LogStart stamp server) number p stay = absurd stay

-- the beginning of a log
start_passed : Reads → (stamp server : ℕ) → stamp < 2 ^ 32
    → Passed (magic ++ bytes_of server 4 (description stamp)) (record { bytes = bytes_of server 4 (description stamp); group = start_group } ∷ []) 123 false
start_passed reads stamp server fits =
    let first : List ℕ = bytes_of server 4 (description stamp) in
    let read : group_at (record { bytes = first; pos = 4 }) ≡ group start_group =
    ap (λ (bs : List ℕ). group_at (record { bytes = bs; pos = 4 })) (sym (append-nil first)) ∙ reads.start stamp server [] fits in
    let size : length first ≡ 119 = first_event_length reads.heads stamp server in
    let end : 123 ≡ 4 + length first = omega (arith, size) in
    subst (λ (pos : ℕ). Passed (magic ++ first) (record { bytes = first; group = start_group } ∷ []) pos false) (sym end)
    (reads.group_passed grouped magic first [] 4 start_group reads.magic_passed read end)

-- one entry more
entry_passed : Reads → (e : Entry Whole) (number : ℕ) (p : LogPlace) (front : List ℕ) (ps : List Piece) → StaysInLog (kept_entry e) → CanLog (kept_entry e) number p → Passed front ps p.pos false
    → Passed (front ++ entry_bytes (kept_entry e) number p) (ps ++ record { bytes = entry_bytes (kept_entry e) number p; group = group_of_entry (kept_entry e) number p } ∷ []) (behind (kept_entry e) number p).pos false
entry_passed reads e number p front ps stay can passed =
    let bytes : List ℕ = entry_bytes (kept_entry e) number p in
    let g : Group = group_of_entry (kept_entry e) number p in
    let all : List Piece = ps ++ record { bytes = bytes; group = g } ∷ [] in
    let read : group_at (record { bytes = bytes; pos = p.pos }) ≡ group g =
    ap (λ (bs : List ℕ). group_at (record { bytes = bs; pos = p.pos })) (sym (append-nil bytes)) ∙ reads.entry (kept_entry e) number p [] stay can in
    let on : Passed (front ++ bytes) all (p.pos + length bytes) (names_next g.form) =
    reads.group_passed grouped front bytes ps p.pos g passed read (reads.bounds (kept_entry e) number p stay).1 in
    let to : p.pos + length bytes ≡ (behind (kept_entry e) number p).pos = sym (ap (λ (q : LogPlace). q.pos) (entry_moves reads.have (kept_entry e) number p stay)) in
    subst (λ (pos : ℕ). Passed (front ++ bytes) all pos false) to
    (subst (λ (closed : Bool). Passed (front ++ bytes) all (p.pos + length bytes) closed) (names_none e number p stay) on)

entries_read : Reads → (es : List (Entry Whole)) (number : ℕ) (p : LogPlace) (front : List ℕ) (ps : List Piece) → AreCommitted es → CanLogAll (map kept_entry es) number p → Passed front ps p.pos false
    → Read es number p front ps
entries_read reads [] number p front ps committed can passed = record {
  more = [];
  pos = p.pos;
  passed = subst (λ (bs : List ℕ). Passed bs (ps ++ []) p.pos false) (sym (append-nil front)) (subst (λ (qs : List Piece). Passed front qs p.pos false) (sym (append-nil ps)) passed);
  groups = refl;
}
entries_read reads (e ∷ es) number p front ps committed can passed =
    let bytes : List ℕ = entry_bytes (kept_entry e) number p in
    let piece : Piece = record { bytes = bytes; group = group_of_entry (kept_entry e) number p } in
    let r : Read es (counted (kept_entry e) number) (behind (kept_entry e) number p) (front ++ bytes) (ps ++ piece ∷ []) =
    entries_read reads es (counted (kept_entry e) number) (behind (kept_entry e) number p) (front ++ bytes) (ps ++ piece ∷ []) (others e es committed) can.1
    (entry_passed reads e number p front ps (stays e es committed) can.0 passed) in
    let rest : List ℕ = log (map kept_entry es) (counted (kept_entry e) number) (behind (kept_entry e) number p) in
    record {
      more = piece ∷ r.more;
      pos = r.pos;
      passed = subst (λ (bs : List ℕ). Passed bs (ps ++ piece ∷ r.more) r.pos false) (append_assoc front bytes rest)
          (subst (λ (qs : List Piece). Passed ((front ++ bytes) ++ rest) qs r.pos false) (append_assoc ps (piece ∷ []) r.more) r.passed);
      groups = ap (λ (gs : List Group). group_of_entry (kept_entry e) number p ∷ gs) r.groups;
    }

pub log_is_its_entries : Reads → LogIsItsEntries
log_is_its_entries reads m stamp server committed logged =
    let can : CanLogAll (map kept_entry (begun stamp server committed)) 0 nowhere = subst (λ (es : List (Entry Whole)). CanLogAll (map kept_entry es) 0 nowhere) logged.history logged.can in
    let first : List ℕ = bytes_of server 4 (description stamp) in
    let r : Read committed 0 first_place (magic ++ first) (record { bytes = first; group = start_group } ∷ []) =
    entries_read reads committed 0 first_place (magic ++ first) (record { bytes = first; group = start_group } ∷ []) logged.are can.1 (start_passed reads stamp server can.0) in
    let read : grouped (log_of m) ≡ ending_with (record { bytes = first; group = start_group } ∷ r.more) ended =
    ap (λ (es : List (Entry Whole)). grouped (log (map kept_entry es) 0 nowhere)) logged.history ∙ reads.end_seen grouped _ _ r.pos false r.passed in
    (ap (λ (g : Grouped). groups_in g.pieces) read ∙ ap (λ (gs : List Group). start_group ∷ gs) r.groups, ap (λ (g : Grouped). g.ending) read)

-- ---- its replay

module _ (identity : Identity) (draw : Draw) where
  -- only the groups count
  abbrev pub all_by : List Group → Replay → Replay
  all_by [] r = r
  all_by (g ∷ gs) r = let s = by_form identity draw g r g.form in unless_stopped (all_by gs) s s.stop

  pub by_groups : (ps : List Piece) (r : Replay) → all_replayed identity draw ps r ≡ all_by (groups_in ps) r
  by_groups [] r = refl
  by_groups (p ∷ ps) r = let s = by_form identity draw p.group r p.group.form in by s s.stop (by_groups ps s)
    where
      by : (s : Replay) (o : Option Differs) → all_replayed identity draw ps s ≡ all_by (groups_in ps) s
          → unless_stopped (all_replayed identity draw ps) s o ≡ unless_stopped (all_by (groups_in ps)) s o
      by s None same = same
      by s (Some d) same = refl

  -- it came through, to a base
  abbrev Ends : Replay → Base → Type 0
  Ends r last = (r.stop ≡ None) × (r.base ≡ last)

  abbrev goes : (Replay → Replay) → Replay → Replay
  goes more s = unless_stopped more s s.stop

  -- a group that is an entry
  form_ends : (more : Replay → Replay) (last : Base) (e : Entry Whole) (number : ℕ) (p : LogPlace) (r : Replay) → StaysInLog (kept_entry e) → CanLog (kept_entry e) number p
      → Ends (goes more (carried (group_of_entry (kept_entry e) number p) r (group_carried identity draw r.base r.counters (group_of_entry (kept_entry e) number p)))) last
      → Ends (goes more (by_form identity draw (group_of_entry (kept_entry e) number p) r (group_of_entry (kept_entry e) number p).form)) last
  form_ends more last (Transaction stamp server []) number p r stay can ends = let no : ⊥ = omega (arith, can.0) in absurd no
  form_ends more last (Transaction stamp server (i ∷ is)) number p r stay can ends = ends
  form_ends more last (Definition stamp server i) number p r stay can ends = ends
  form_ends more last (LogStart stamp server) number p r stay can ends = absurd stay

  entries_replayed : Appliers → (es : List (Entry Whole)) (number : ℕ) (p : LogPlace) (last : Base) (r : Replay) → Ready r.base last es → AreCommitted es
      → CanLogAll (map kept_entry es) number p → EntriesFollow es → r.stop ≡ None → Ends (all_by (groups_of (map kept_entry es) number p) r) last
  entries_replayed appliers [] number p last r ready committed can follow through = (through, same ready.makes)
    where
      same : {x y : Base} → Some x ≡ Some y → x ≡ y
      same q = cc
  entries_replayed appliers (e ∷ es) number p last r ready committed can follow through =
      let c = entry_carried appliers identity draw r.base last r.counters e es number p ready (in_front (e ∷ []) es follow) committed can.0 in
      let g : Group = group_of_entry (kept_entry e) number p in
      let more : Replay → Replay = all_by (groups_of (map kept_entry es) (counted (kept_entry e) number) (behind (kept_entry e) number p)) in
      form_ends more last e number p r (stays e es committed) can.0
      (subst (λ (x : Result Applied Differs). Ends (goes more (carried g r x)) last) (sym c.does)
      (entries_replayed appliers es (counted (kept_entry e) number) (behind (kept_entry e) number p) last _ c.ready (others e es committed) can.1 (in_back (e ∷ []) es follow) refl))

pub replay_is_equal : LogIsItsEntries → Appliers → ReplayIsEqual
unfolding replayed
replay_is_equal entries appliers identity draw m stamp server committed logged replays follow =
    let can : CanLogAll (map kept_entry (begun stamp server committed)) 0 nowhere = subst (λ (es : List (Entry Whole)). CanLogAll (map kept_entry es) 0 nowhere) logged.history logged.can in
    let all : EntriesFollow (begun stamp server committed) = subst EntriesFollow logged.history follow in
    let ready = history_ready appliers.hold from_nothing m stamp server [] committed empty_base (nothing_is_owed appliers.hold) replays logged.history refl in
    let is : all_replayed identity draw (grouped (log_of m)).pieces first_replay ≡ all_by identity draw (groups_of (map kept_entry committed) 0 first_place) first_replay =
    by_groups identity draw (grouped (log_of m)).pieces first_replay ∙ ap (λ (gs : List Group). all_by identity draw gs first_replay) (entries m stamp server committed logged).0 in
    subst (λ (r : Replay). (r.stop ≡ None) × (r.base ≡ m.state.shared.base)) (sym is)
    (entries_replayed identity draw appliers committed 0 first_place m.state.shared.base first_replay ready logged.are can.1 all refl)
