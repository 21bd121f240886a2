-- RESTART of a source that a replica follows: its log has begun, so that nothing is put out, and what it has committed stays.
use Rattle.std.proofs.Common.{◌≡◌, ℕ, zero, suc, ◌==◌, Bool, true, false, List, [], ◌∷◌, ◌++◌, length, map, drop, Option, None, refl, sym, ap, ◌∙◌, subst, append-nil}
use Rattle.std.specs.Prelude.{if◌then◌else◌, replicate, slice_index_or}
use Rattle.port_traits.specs.declared.identity.Draw.{Draw}
use Rattle.apply_laws.specs.log_entries.declared.entries.Entry.{Entry}
use Rattle.apply_laws.specs.log_entries.declared.entries.Entry.TheVariants.{LogStart}
use Rattle.apply_laws.specs.log_entry_laws.Entries.{CanLogAll}
use Rattle.apply_laws.specs.log_model.Log.{LogPlace, behind, counted, counted_all, log, written_to, EntriesHaveLength, HeadsHaveLength}
use Rattle.apply_laws.specs.session_model.Machine.{Whole, kept_entry, Machine, session_slots}
use Rattle.apply_laws.specs.session_model.Sessions.{Session}
use Rattle.apply_laws.specs.session_model.Holding.{Holds, format_of}
use Rattle.apply_laws.specs.session_model.Openings.{opening_entries, restarted}
use Rattle.apply_laws.specs.session_replays.Followed.{EntriesFollow}
use Rattle.apply_laws.specs.session_replays.Replaying.{RestartsReplay}
use Rattle.run_model.specs.Run.{Names, Both, Read, nothing, bytes_to, bytes_before, number_before, place_before, Starts, source_from}
use Rattle.run_model.specs.Following.{AreCommitted, Follows, head_entries}
use Rattle.run_laws.specs.Laws.{IsSound}
use Rattle.run_laws.specs.Restarts.{RestartsKeep, RestartsStaySound, RestartsKeepMarks}
use Rattle.run_laws.proofs.Places.{front_of, place_of, front_place}

-- ---- where a source's log ends

-- a writer behind entries and more of them
pub written_both : (front back : List (Entry Whole)) (number : ℕ) (p : LogPlace)
    → written_to (map kept_entry (front ++ back)) number p
    ≡ written_to (map kept_entry back) (counted_all (map kept_entry front) number) (written_to (map kept_entry front) number p)
written_both [] back number p = refl
written_both (e ∷ es) back number p = written_both es back (counted (kept_entry e) number) (behind (kept_entry e) number p)

-- and behind the head, where that was not read
pub past_head : (read : Read) (stamp server : ℕ) (es : List (Entry Whole))
    → written_to (map kept_entry (head_entries read stamp server ++ es)) (number_before read) (place_before read) ≡ place_of (record { read = read; stamp = stamp; server = server }) es
past_head nothing stamp server es = refl
past_head (bytes_to bytes number) stamp server es = refl

-- the log of a source that a replica follows has begun, and is the first
pub ends_there : EntriesHaveLength → HeadsHaveLength → (from : Starts) (m : Machine) (stamp server : ℕ) (es : List (Entry Whole)) → Holds (source_from from) m
    → from.owed ++ m.history ≡ head_entries from.read stamp server ++ es → AreCommitted es
    → m.state.shared.place ≡ record { log = 1; pos = length (front_of (record { read = from.read; stamp = stamp; server = server }) es) }
ends_there have heads from m stamp server es holds is committed =
    sym holds.place ∙ sym (written_both from.owed m.history (number_before from.read) (place_before from.read))
    ∙ ap (λ (xs : List (Entry Whole)). written_to (map kept_entry xs) (number_before from.read) (place_before from.read)) is
    ∙ past_head from.read stamp server es ∙ front_place have heads (record { read = from.read; stamp = stamp; server = server }) es committed

-- so that opening puts out nothing
none_put : EntriesHaveLength → HeadsHaveLength → (names : Names) (b : Both) (draw : Draw) → Follows names b → IsSound b.from b.machine
    → opening_entries names.source draw b.machine.state.shared.place ≡ []
none_put have heads names b draw f sound =
    ap (opening_entries names.source draw) (ends_there have heads b.from b.machine f.stamp f.server (f.carried ++ f.more) sound.replays.holds f.history f.committed)

-- ---- what stays

none_there : (count n : ℕ) → slice_index_or {A = Option (Session Whole)} (replicate count None) n None ≡ None
none_there zero n = refl
none_there (suc count) zero = refl
none_there (suc count) (suc n) = none_there count n

pub restarts_keep : EntriesHaveLength → HeadsHaveLength → RestartsKeep
restarts_keep have heads names b draw f sound =
    let m : Machine = b.machine in
    let none : opening_entries names.source draw m.state.shared.place ≡ [] = none_put have heads names b draw f sound in
    record {
      history = ap (λ (es : List (Entry Whole)). m.history ++ es) none ∙ append-nil m.history;
      base = refl;
      number = ap (λ (es : List (Entry Whole)). counted_all (map kept_entry es) m.state.shared.committed) none;
      place = ap (λ (es : List (Entry Whole)). written_to (map kept_entry es) m.state.shared.committed m.state.shared.place) none;
      sessions = none_there session_slots;
      formats = λ n. ap format_of (none_there session_slots n);
    }

pub restarts_stay_sound : EntriesHaveLength → HeadsHaveLength → RestartsReplay → RestartsStaySound
restarts_stay_sound have heads replay names b draw f sound = record {
  behind = sound.behind;
  replays = replay names.source draw (source_from b.from) b.machine sound.replays;
  logs = subst (λ (es : List (Entry Whole)). CanLogAll (map kept_entry (b.from.owed ++ es)) (number_before b.from.read) (place_before b.from.read))
      (sym (restarts_keep have heads names b draw f sound).history) sound.logs;
}

-- ---- a replica goes on following

pub source_follows : EntriesHaveLength → HeadsHaveLength → (names : Names) (b : Both) (draw : Draw) → Follows names b → IsSound b.from b.machine
    → Follows names (record b { machine = restarted names.source draw b.machine })
source_follows have heads names b draw f sound =
    let same : (restarted names.source draw b.machine).history ≡ b.machine.history = (restarts_keep have heads names b draw f sound).history in
    record {
      stamp = f.stamp;
      server = f.server;
      carried = f.carried;
      more = f.more;
      history = ap (λ (es : List (Entry Whole)). b.from.owed ++ es) same ∙ f.history;
      committed = f.committed;
      steps = f.steps;
      makes = f.makes;
      base = f.base;
      number = f.number;
      place = f.place;
      rest = f.rest;
      relay = f.relay ∙ ap (λ (es : List (Entry Whole)). drop b.replica.place.pos (bytes_before b.from.read ++ log (map kept_entry (b.from.owed ++ es)) (number_before b.from.read) (place_before b.from.read)))
          (sym same);
    }

-- the head of a log does the same at every replica
pub head_follows : (stamp server : ℕ) (first : Bool) → EntriesFollow (if first then LogStart stamp server ∷ [] else [])
head_follows stamp server true = tt
head_follows stamp server false = tt

-- ---- marks

-- the head of a log is no transaction
head_counts : (stamp server number : ℕ) (first : Bool) → counted_all (map kept_entry (if first then LogStart stamp server ∷ [] else [])) number ≡ number
head_counts stamp server number true = refl
head_counts stamp server number false = refl

pub restarts_keep_marks : RestartsKeepMarks
restarts_keep_marks = record {
  source = λ names b k draw. ap (λ (n : ℕ). record { command = k; committed = n; src_calls = 0; applied = b.replica.number; rep_calls = 0 })
      (head_counts draw.now names.source.server_id b.machine.state.shared.committed (b.machine.state.shared.place.log == 0));
  replica = λ names b k draw. refl;
}
