-- The source's log, as the files of its disk have it.
use Rattle.std.proofs.Common.{◌≡◌, ◌≤◌, ℕ, ◌+◌, ◌-◌, min, zero, suc, ◌==◌, eqb, Bool, true, false, if◌then◌else◌, List, [], ◌∷◌, ◌++◌, length, map, take, drop, Option, Some, None, IfSome, refl, sym, ap, ◌∙◌, subst, append_assoc, arith, length-drop}
use Rattle.std.proofs.lemmas.Bool.{cond-false, eqb-true, eqb-false, ne_eqb}
use Rattle.std.proofs.lemmas.List.{length-take, map-append, take_min}
use Rattle.run_laws.specs.log_model.Log.{LogGoesOn, LogPlace, behind, counted_all, head, log, written_to}
use Rattle.run_laws.specs.session_model.Machine.{Whole, first_place, kept_entry, log_bytes, nowhere}
use Rattle.run_laws.specs.session_model.Holding.{Beginning, Holds}
use Rattle.store_model.specs.Entries.{writer_at}
use Rattle.durable_source.specs.Standing.{beginning_of}
use Rattle.waiting_entries.specs.Added.{added_to, rotation_at}
use Rattle.run_stores.specs.durable_runs.Laws.{OneLog, StoredBehind, StoresGoOn}
use Rattle.run_stores.specs.durable_runs.Sources.{Stored, end_of, log_in}
use Rattle.run_stores.specs.Standing.{HasOneLog}
use Rattle.run_stores.proofs.Logs.{added_none, none_begins}
use Rattle.run_laws.proofs.Carrying.{first_ones, last_ones}
use Rattle.run_laws.specs.log_entries.declared.entries.Item.{Item}
use Rattle.run_laws.specs.log_entries.declared.entries.Entry.{Entry}
use Rattle.run_laws.specs.log_entries.declared.entries.Entry.TheVariants.{Transaction, Definition, LogStart}
use Rattle.run_laws.specs.run_model.Following.{AreCommitted, head_entries}
use Rattle.run_laws.specs.run_model.Run.{Both, Names, Read, nothing, bytes_to, bytes_before, number_before, place_before, log_with}
use Rattle.disk_model.specs.Story.{Story, seen}
use Rattle.script_run.specs.declared.nodes.Nodes.{Nodes}
use Rattle.script_run.specs.Disks.{Disks, Stores}
use Rattle.script_run.specs.Together.{Together}
use Rattle.script_run.specs.Marks.{committed_of}
use Rattle.script_run.proofs.Beginning.{beginning_is}

-- ---- laws that are used here

-- of logs and stores
pub record Known : Type 0 where
  pub goes_on : LogGoesOn
  pub one : OneLog
  pub stores : StoresGoOn

-- ---- entries in a list

-- a writer stays in its log
pub stays_at : (es : List (Entry Whole)) (number : ℕ) (p : LogPlace) → AreCommitted es → (written_to (map kept_entry es) number p).log ≡ p.log
stays_at [] number p committed = refl
stays_at (Transaction stamp server items ∷ es) number p committed = stays_at es (number + 1) (behind (kept_entry (Transaction stamp server items)) number p) committed
stays_at (Definition stamp server item ∷ es) number p committed = stays_at es (number + 1) (behind (kept_entry (Definition stamp server item)) number p) committed
stays_at (LogStart stamp server ∷ es) number p committed = absurd committed

-- ---- what the source's logs have

-- what a log's head leaves to other logs than the first: nothing
head_none : (n stamp server : ℕ) (es : List (Entry Whole)) → AreCommitted es → (n ≡ 1 → ⊥) → added_to n (map kept_entry (LogStart stamp server ∷ es)) 0 nowhere ≡ []
head_none zero stamp server es committed other = added_none 0 (map kept_entry es) 0 first_place (none_begins es committed) other
head_none (suc zero) stamp server es committed other = absurd (other refl)
head_none (suc (suc n)) stamp server es committed other =
    let m : ℕ = suc (suc n) in
    ap (λ (l : List ℕ). l ++ added_to m (map kept_entry es) 0 first_place)
    (cond-false (eqb m 0) (rotation_at stamp server nowhere) (if m == 1 then head stamp server else []) (ne_eqb m 0 (λ e. cc)) ∙ cond-false (eqb m 1) (head stamp server) [] (ne_eqb m 1 other))
    ∙ added_none m (map kept_entry es) 0 first_place (none_begins es committed) other

-- where a source began: on one log, behind what was read of it and what was owed
record Began (start : Stored) (read : Read) (owed : List (Entry Whole)) : Type 0 where
  one : HasOneLog start
  log_is : start.logs 1 ≡ bytes_before read ++ log (map kept_entry owed) (number_before read) (place_before read)
  number : start.held.number ≡ counted_all (map kept_entry owed) (number_before read)
  place : writer_at start.held ≡ written_to (map kept_entry owed) (number_before read) (place_before read)

-- the first log has what was read and all entries, and no other log has anything
record HasAll (logs : ℕ → List ℕ) (read : Read) (es : List (Entry Whole)) : Type 0 where
  first : logs 1 ≡ bytes_before read ++ log (map kept_entry es) (number_before read) (place_before read)
  others : (n : ℕ) → (n ≡ 1 → ⊥) → logs n ≡ []

-- a source without a log begins one
begins_one : Known → (start now : Stored) (history es : List (Entry Whole)) (stamp server : ℕ) → Began start nothing [] → StoredBehind history start now → history ≡ LogStart stamp server ∷ es → AreCommitted es
    → HasAll now.logs nothing history
begins_one k start now history es stamp server began behind is committed =
    let put : (n : ℕ) → start.logs n ≡ [] → now.logs n ≡ added_to n (map kept_entry (LogStart stamp server ∷ es)) 0 nowhere =
    λ n none. behind.logs n ∙ ap (λ (xs : List ℕ). xs ++ added_to n (map kept_entry history) start.held.number (writer_at start.held)) none
    ∙ ap (λ (i : ℕ). added_to n (map kept_entry history) i (writer_at start.held)) began.number ∙ ap (λ (p : LogPlace). added_to n (map kept_entry history) 0 p) began.place
    ∙ ap (λ (hs : List (Entry Whole)). added_to n (map kept_entry hs) 0 nowhere) is in
    record {
      first = put 1 began.log_is ∙ k.one.first stamp server (map kept_entry es) (none_begins es committed) ∙ ap (λ (hs : List (Entry Whole)). log (map kept_entry hs) 0 nowhere) (sym is);
      others = λ n other. put n (began.one.others n other) ∙ head_none n stamp server es committed other;
    }

-- one that has a log goes on in it
goes_in : Known → (start now : Stored) (read : Read) (owed history : List (Entry Whole)) → Began start read owed → StoredBehind history start now → AreCommitted history
    → (written_to (map kept_entry owed) (number_before read) (place_before read)).log ≡ 1 → HasAll now.logs read (owed ++ history)
goes_in k start now read owed history began behind committed there =
    let n : ℕ = number_before read in
    let q : LogPlace = place_before read in
    let p : LogPlace = writer_at start.held in
    let first : p.log ≡ 1 = ap (λ (x : LogPlace). x.log) began.place ∙ there in
    let front : List ℕ = log (map kept_entry owed) n q in
    let back : List ℕ = log (map kept_entry history) (counted_all (map kept_entry owed) n) (written_to (map kept_entry owed) n q) in
    let put : added_to 1 (map kept_entry history) start.held.number p ≡ back =
    ap (λ (l : ℕ). added_to l (map kept_entry history) start.held.number p) (sym first) ∙ k.one.within (map kept_entry history) start.held.number p (none_begins history committed)
    ∙ ap (λ (i : ℕ). log (map kept_entry history) i p) began.number ∙ ap (λ (x : LogPlace). log (map kept_entry history) (counted_all (map kept_entry owed) n) x) began.place in
    record {
      first = behind.logs 1 ∙ ap (λ (xs : List ℕ). xs ++ added_to 1 (map kept_entry history) start.held.number p) began.log_is
          ∙ ap (λ (xs : List ℕ). (bytes_before read ++ front) ++ xs) put ∙ append_assoc (bytes_before read) front back
          ∙ ap (λ (xs : List ℕ). bytes_before read ++ xs) (sym (k.goes_on (map kept_entry owed) (map kept_entry history) n q))
          ∙ ap (λ (es : List (Entry Item)). bytes_before read ++ log es n q) (sym (map-append kept_entry owed history));
      others = λ l other. behind.logs l ∙ ap (λ (xs : List ℕ). xs ++ added_to l (map kept_entry history) start.held.number p) (began.one.others l other)
          ∙ added_none l (map kept_entry history) start.held.number p (none_begins history committed) (λ same. other (same ∙ first));
    }

has_all : Known → (start now : Stored) (read : Read) (owed history es : List (Entry Whole)) (stamp server : ℕ) → Began start read owed → StoredBehind history start now
    → owed ++ history ≡ head_entries read stamp server ++ es → AreCommitted es → HasAll now.logs read (owed ++ history)
has_all k start now nothing [] history es stamp server began behind is committed = begins_one k start now history es stamp server began behind is committed
has_all k start now nothing (LogStart s v ∷ os) history es stamp server began behind is committed =
    let same : es ≡ os ++ history = cc in
    let all : AreCommitted (os ++ history) = subst AreCommitted same committed in
    goes_in k start now nothing (LogStart s v ∷ os) history began behind (last_ones os history all) (stays_at os 0 first_place (first_ones os history all))
has_all k start now nothing (Transaction s v items ∷ os) history es stamp server began behind is committed = cc
has_all k start now nothing (Definition s v item ∷ os) history es stamp server began behind is committed = cc
has_all k start now (bytes_to bytes n) owed history es stamp server began behind is committed =
    let all : AreCommitted (owed ++ history) = subst AreCommitted (sym is) committed in
    goes_in k start now (bytes_to bytes n) owed history began behind (last_ones owed history all) (stays_at owed n (record { log = 1; pos = length bytes }) (first_ones owed history all))

-- ---- a source that stands for a run

module _ (k : Known) (names : Names) (t : Disks) (start : Stores) (nodes : Nodes) (b : Both) (r : Together names t start nodes b) where
  behind_it : StoredBehind b.machine.history start.source r.stands.now
  behind_it = k.stores.is b.machine.history start.source r.stands.now r.stands.first r.stands.reached

  all_logs : HasAll r.stands.now.logs b.from.read (b.from.owed ++ b.machine.history)
  all_logs =
      has_all k start.source r.stands.now b.from.read b.from.owed b.machine.history r.line.entries r.line.stamp r.line.server
      (record { one = r.one; log_is = r.began.log; number = r.began.number; place = r.began.place }) behind_it r.line.are r.line.committed

  -- the files of the disk have the log of the machine, and no other
  pub logs_are : r.stands.now.logs 1 ≡ log_with b.from b.machine
  logs_are = all_logs.first

  pub no_others : (n : ℕ) → (n ≡ 1 → ⊥) → r.stands.now.logs n ≡ []
  no_others = all_logs.others

  -- the store counts as the machine does
  pub number_is : nodes.source.store.number ≡ committed_of b
  number_is =
      r.stands.on.keeps.holds.shows.number ∙ behind_it.number ∙ ap (counted_all (map kept_entry b.machine.history)) r.began.number ∙ r.holds.count

  -- what holds of the run holds of what the disk began with
  pub holds_here : Holds (beginning_of start.source) b.machine
  holds_here = subst (λ (x : Beginning). Holds x b.machine) (sym (beginning_is start.source start.replica b.from r.began)) r.holds

-- ---- what is served

-- a piece of a log
abbrev pub log_piece : Stored → (log pos n : ℕ) → List ℕ
log_piece s log pos n = take n (drop pos (s.logs log))

-- a log is no longer than where it ends
pub log_short : (log : ℕ) (names : Names) (t : Disks) (start : Stores) (nodes : Nodes) (b : Both) (r : Together names t start nodes b) → end_of log r.stands.now.held.ends ≤ 4294967295
    → IfSome t.source (λ _. length (r.stands.now.logs log) ≤ 4294967295)
log_short log names t start nodes b r end = by t.source r.stands.on.logs
  where
    by : (s : Option Story) → IfSome s (λ _. (n : ℕ) → log_in n r.stands.now.held.ends (seen s) ≡ r.stands.now.logs n) → IfSome s (λ _. length (r.stands.now.logs log) ≤ 4294967295)
    by None logs = tt
    by (Some s) logs =
        let same : length (r.stands.now.logs log) ≡ length (take (end_of log r.stands.now.held.ends) (seen (Some s) (7 + log))) = ap length (sym (logs log)) in
        omega (arith, same, length-take (end_of log r.stands.now.held.ends) (seen (Some s) (7 + log)), end)

-- what is asked for up to the last place is all that is asked for
pub served_whole : (bytes : List ℕ) (pos n : ℕ) → length bytes ≤ 4294967295 → take (min n (4294967295 - pos)) (drop pos bytes) ≡ take n (drop pos bytes)
served_whole bytes pos n short = same_front (drop pos bytes) n (4294967295 - pos) (omega (arith, length-drop pos bytes, short))
  where
    same_front : (xs : List ℕ) (n most : ℕ) → length xs ≤ most → take (min n most) xs ≡ take n xs
    same_front xs n most short =
        let same : min (min n most) (length xs) ≡ min n (length xs) = omega (arith, short) in
        sym (take_min (min n most) xs) ∙ ap (λ (k : ℕ). take k xs) same ∙ take_min n xs

nothing_dropped : (n : ℕ) (bytes : List ℕ) → bytes ≡ [] → drop n bytes ≡ []
nothing_dropped zero bytes none = none
nothing_dropped (suc n) [] none = refl
nothing_dropped (suc n) (b ∷ bytes) none = cc

nothing_taken : (n : ℕ) (bytes : List ℕ) → bytes ≡ [] → take n bytes ≡ []
nothing_taken zero bytes none = refl
nothing_taken (suc n) [] none = refl
nothing_taken (suc n) (b ∷ bytes) none = cc

-- of the log with a number, where all but the first have nothing
pub served_at : (logs : ℕ → List ℕ) (bytes : List ℕ) → logs 1 ≡ bytes → ((n : ℕ) → (n ≡ 1 → ⊥) → logs n ≡ []) → (n log pos : ℕ) → take n (drop pos (logs log)) ≡ log_bytes bytes (record { log = log; pos = pos }) n
served_at logs bytes one others n log pos = by (log == 1) refl
  where
    by : (b : Bool) → (log == 1) ≡ b → take n (drop pos (logs log)) ≡ (if b then take n (drop pos bytes) else [])
    by true q = ap (λ (l : ℕ). take n (drop pos (logs l))) (eqb-true log 1 q) ∙ ap (λ (bs : List ℕ). take n (drop pos bs)) one
    by false q = nothing_taken n (drop pos (logs log)) (nothing_dropped pos (logs log) (others log (eqb-false log 1 q)))
