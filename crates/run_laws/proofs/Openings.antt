-- Where both nodes open, the replica follows; and a run ends where the next one may begin.
use Rattle.std.proofs.Common.{◌≡◌, ◌≤◌, ◌<◌, ◌^◌, ℕ, ◌+◌, ◌-◌, List, [], ◌∷◌, ◌++◌, length, map, drop, Some, refl, sym, ap, ◌∙◌, subst, append_assoc, append-nil, arith, length-append}
use Rattle.std.specs.Prelude.{min}
use Rattle.port_traits.specs.declared.identity.Identity.{Identity}
use Rattle.port_traits.specs.declared.identity.Draw.{Draw}
use Rattle.apply_laws.specs.catalog_rules.Bases.{Base}
use Rattle.apply_laws.specs.log_entries.declared.entries.Entry.{Entry}
use Rattle.apply_laws.specs.log_entries.declared.entries.Entry.TheVariants.{Transaction, Definition, LogStart}
use Rattle.apply_laws.specs.log_entry_laws.Entries.{CanLogAll}
use Rattle.apply_laws.specs.log_model.Log.{LogPlace, counted, counted_all, head, log, written_to, EntriesHaveLength, HeadsHaveLength}
use Rattle.apply_laws.specs.Laws.{BasesHold}
use Rattle.apply_laws.specs.session_model.Machine.{Whole, kept_entry, Machine, first_place}
use Rattle.apply_laws.specs.log_entries.Entries.{after}
use Rattle.apply_laws.specs.session_model.Holding.{Holds, changes_of, define}
use Rattle.apply_laws.specs.session_model.Openings.{committed_in, opening_entries}
use Rattle.apply_laws.specs.session_replays.Bodies.{RunsStayWell}
use Rattle.apply_laws.specs.session_replays.Sizes.{SizesStay}
use Rattle.apply_laws.specs.session_replays.Replaying.{OpeningsReplay}
use Rattle.run_model.specs.replica_model.Replica.{Replica, reopened}
use Rattle.run_model.specs.Run.{Both, Read, nothing, bytes_to, bytes_before, number_before, place_before, Starts, source_from, log_with, both_from}
use Rattle.run_model.specs.Following.{AreCommitted, Follows, head_entries, place_behind, reader_at, reader_from}
use Rattle.run_laws.specs.Laws.{FollowsBegins, IsBehind, IsSound}
use Rattle.run_laws.specs.Openings.{AreOwed, HasBegun, Begins, BeginWithNothing, BothOpen, RunsEndWell, owed_behind, read_behind}
use Rattle.run_laws.proofs.Carrying.{Ready, behind_ready, first_ones, history_ready, last_ones, nothing_is_owed}
use Rattle.run_laws.proofs.Fetching.{Below, HeadFits, can_behind, can_head}
use Rattle.run_laws.proofs.Places.{Line, front_of, count_of, place_of, front_place, log_is, log_parts}
use Rattle.run_laws.proofs.Restarting.{ends_there, past_head, written_both}

-- ---- where a run may begin

pub begin_with_nothing : BasesHold → BeginWithNothing
begin_with_nothing hold = record {
  begins = record { behind = nothing_is_owed hold; begun = tt; number = refl; owed = tt; logs = tt; opened = refl; sizes = refl; bodies = refl };
  opened = λ names src. refl;
}

-- what is owed and what opening puts out: the head of the log, if that was not read, and transactions and definitions
record Put (read : Read) (owed put : List (Entry Whole)) : Type 0 where
  pub stamp : ℕ
  pub server : ℕ
  pub all : List (Entry Whole)
  pub is : owed ++ put ≡ head_entries read stamp server ++ all
  pub committed : AreCommitted all
  pub logs : CanLogAll (map kept_entry (owed ++ put)) (number_before read) (place_before read)

-- nothing is put out where there is a log
put_none : (read : Read) (owed put : List (Entry Whole)) (stamp server : ℕ) (all : List (Entry Whole)) → put ≡ [] → owed ≡ head_entries read stamp server ++ all → AreCommitted all
    → CanLogAll (map kept_entry owed) (number_before read) (place_before read) → Put read owed put
put_none read owed put stamp server all none is committed logs =
    let same : owed ++ put ≡ owed = ap (λ (es : List (Entry Whole)). owed ++ es) none ∙ append-nil owed in
    record {
      stamp = stamp;
      server = server;
      all = all;
      is = same ∙ is;
      committed = committed;
      logs = subst (λ (es : List (Entry Whole)). CanLogAll (map kept_entry es) (number_before read) (place_before read)) (sym same) logs;
    }

put_by : EntriesHaveLength → HeadsHaveLength → (identity : Identity) (draw : Draw) → draw.now < 2 ^ 32 → (read : Read) (owed : List (Entry Whole)) → AreOwed read owed
    → CanLogAll (map kept_entry owed) (number_before read) (place_before read) → Put read owed (opening_entries identity draw (written_to (map kept_entry owed) (number_before read) (place_before read)))
put_by have heads identity draw fits nothing [] are logs =
    record { stamp = draw.now; server = identity.server_id; all = []; is = refl; committed = tt; logs = (fits, tt) }
put_by have heads identity draw fits nothing (LogStart stamp server ∷ es) are logs =
    put_none nothing (LogStart stamp server ∷ es) _ stamp server es (ap (opening_entries identity draw) (front_place have heads (record { read = nothing; stamp = stamp; server = server }) es are)) refl are logs
put_by have heads identity draw fits nothing (Transaction stamp server items ∷ es) are logs = absurd are
put_by have heads identity draw fits nothing (Definition stamp server item ∷ es) are logs = absurd are
put_by have heads identity draw fits (bytes_to bytes number) es are logs =
    put_none (bytes_to bytes number) es _ 0 0 es (ap (opening_entries identity draw) (front_place have heads (record { read = bytes_to bytes number; stamp = 0; server = 0 }) es are)) refl are logs

pub both_open : EntriesHaveLength → HeadsHaveLength → OpeningsReplay → FollowsBegins → BothOpen
both_open have heads replay begin names src from fits begins =
    let b : Both = both_from names src from in
    let put = put_by have heads names.source src fits from.read from.owed begins.owed begins.logs in
    let whole : List ℕ = drop b.replica.place.pos (log_with b.from b.machine) in
    let f : Follows names b = begin names b put.stamp put.server put.all whole begins.behind refl refl put.is put.committed (ap (λ (r : Replica). r.relay ++ whole) begins.opened) in
    record {
      follows = f;
      none = no_entries f.carried (sym f.steps);
      sound = record { behind = begins.behind; replays = replay names.source src (source_from from) begins.sizes begins.bodies; logs = put.logs };
    }
  where
    no_entries : (es : List (Entry Whole)) → length es ≡ 0 → es ≡ []
    no_entries [] none = refl
    no_entries (e ∷ es) none = let no : ⊥ = omega (arith, none) in absurd no

-- ---- where it ends

counted_both : (front back : List (Entry Whole)) (number : ℕ) → counted_all (map kept_entry (front ++ back)) number ≡ counted_all (map kept_entry back) (counted_all (map kept_entry front) number)
counted_both [] back number = refl
counted_both (e ∷ es) back number = counted_both es back (counted (kept_entry e) number)

-- the head of a log is no transaction
past_head_count : (read : Read) (stamp server : ℕ) (es : List (Entry Whole)) → counted_all (map kept_entry (head_entries read stamp server ++ es)) (number_before read) ≡ counted_all (map kept_entry es) (number_before read)
past_head_count nothing stamp server es = refl
past_head_count (bytes_to bytes number) stamp server es = refl

-- how many transactions a source has
pub counts_there : (from : Starts) (m : Machine) (stamp server : ℕ) (es : List (Entry Whole)) → Holds (source_from from) m → from.owed ++ m.history ≡ head_entries from.read stamp server ++ es
    → m.state.shared.committed ≡ counted_all (map kept_entry es) (number_before from.read)
counts_there from m stamp server es holds is =
    sym holds.count ∙ sym (counted_both from.owed m.history (number_before from.read))
    ∙ ap (λ (xs : List (Entry Whole)). counted_all (map kept_entry xs) (number_before from.read)) is ∙ past_head_count from.read stamp server es

-- What is known of a run's end, with what was carried out and what was not.
record Ended (from : Starts) (m : Machine) (stamp server : ℕ) (carried more : List (Entry Whole)) (r : Replica) : Type 0 where
  pub sound : IsSound from m
  pub begun : HasBegun from.read
  pub history : from.owed ++ m.history ≡ head_entries from.read stamp server ++ (carried ++ more)
  pub committed : AreCommitted (carried ++ more)
  pub ready : Ready r.base m.state.shared.base (owed_behind from.read stamp server carried more)
  pub place : r.place ≡ reader_at from.read stamp server carried
  pub number : r.number ≡ number_before (read_behind from.read stamp server carried)
  pub within : r.number ≤ 2 ^ 64 - 1

-- where the next run begins
abbrev next_from : (from : Starts) (m : Machine) (stamp server : ℕ) (carried more : List (Entry Whole)) → Replica → Starts
next_from from m stamp server carried more r = record {
  read = read_behind from.read stamp server carried;
  owed = owed_behind from.read stamp server carried more;
  base = m.state.shared.base;
  replica = reopened r;
}

module _ (below : Below) (sizes : SizesStay) (well : RunsStayWell) (from : Starts) (m : Machine) (stamp server : ℕ) where
  abbrev l : Line
  l = record { read = from.read; stamp = stamp; server = server }

  -- a reader stands where that ends which it has read
  reads_to : (carried : List (Entry Whole)) → reader_at from.read stamp server carried ≡ reader_from (read_behind from.read stamp server carried)
  reads_to [] = refl
  reads_to (e ∷ es) = refl

  owed_there : (read : Read) (carried more : List (Entry Whole)) → AreCommitted (carried ++ more) → AreOwed (read_behind read stamp server carried) (owed_behind read stamp server carried more)
  owed_there nothing [] more committed = committed
  owed_there (bytes_to bytes number) [] more committed = committed
  owed_there read (e ∷ es) more committed = last_ones (e ∷ es) more committed

  -- a writer stands there
  writes_to : (e : Entry Whole) (es more : List (Entry Whole)) → AreCommitted (e ∷ es) → place_of l (e ∷ es) ≡ place_before (read_behind from.read stamp server (e ∷ es))
  writes_to e es more committed = front_place below.have below.heads l (e ∷ es) committed

  can_there : (carried more : List (Entry Whole)) → AreCommitted carried → CanLogAll (map kept_entry (head_entries from.read stamp server ++ (carried ++ more))) (number_before from.read) (place_before from.read)
      → CanLogAll (map kept_entry (owed_behind from.read stamp server carried more)) (number_before (read_behind from.read stamp server carried)) (place_before (read_behind from.read stamp server carried))
  can_there [] more committed can = can
  can_there (e ∷ es) more committed can =
      subst (CanLogAll (map kept_entry more) (count_of l (e ∷ es))) (writes_to e es more committed)
      (can_behind below l (e ∷ es) more (can_head from.read stamp server ((e ∷ es) ++ more) can).1)

  -- its number, its place and its log
  counts_on : (carried more : List (Entry Whole)) → counted_all (map kept_entry (carried ++ more)) (number_before from.read)
      ≡ counted_all (map kept_entry (owed_behind from.read stamp server carried more)) (number_before (read_behind from.read stamp server carried))
  counts_on [] more = sym (past_head_count from.read stamp server more)
  counts_on (e ∷ es) more = counted_both (e ∷ es) more (number_before from.read)

  writes_on : (carried more : List (Entry Whole)) → AreCommitted carried → place_of l (carried ++ more)
      ≡ written_to (map kept_entry (owed_behind from.read stamp server carried more)) (number_before (read_behind from.read stamp server carried)) (place_before (read_behind from.read stamp server carried))
  writes_on [] more committed = sym (past_head from.read stamp server more)
  writes_on (e ∷ es) more committed =
      written_both (e ∷ es) more (number_before from.read) (place_behind from.read) ∙ ap (written_to (map kept_entry more) (count_of l (e ∷ es))) (writes_to e es more committed)

  logs_on : (carried more : List (Entry Whole)) → AreCommitted carried → front_of l (carried ++ more)
      ≡ bytes_before (read_behind from.read stamp server carried)
      ++ log (map kept_entry (owed_behind from.read stamp server carried more)) (number_before (read_behind from.read stamp server carried)) (place_before (read_behind from.read stamp server carried))
  logs_on [] more committed = by from.read
    where
      by : (read : Read) → front_of (record { read = read; stamp = stamp; server = server }) more
          ≡ bytes_before read ++ log (map kept_entry (head_entries read stamp server ++ more)) (number_before read) (place_before read)
      by nothing = refl
      by (bytes_to bytes number) = refl
  logs_on (e ∷ es) more committed =
      log_parts below.goes_on l (e ∷ es) more
      ∙ ap (λ (p : LogPlace). front_of l (e ∷ es) ++ log (map kept_entry more) (count_of l (e ∷ es)) p) (writes_to e es more committed)

  -- what it has read begins with the head of the log
  begun_there : (read : Read) (carried more : List (Entry Whole)) → HeadFits read stamp → HasBegun read → HasBegun (read_behind read stamp server carried)
  begun_there nothing [] more fits begun = tt
  begun_there (bytes_to bytes number) [] more fits begun = begun
  begun_there nothing (e ∷ es) more fits begun =
      record { stamp = stamp; server = server; fits = fits; more = log (map kept_entry (e ∷ es)) 0 first_place; is = refl }
  begun_there (bytes_to bytes number) (e ∷ es) more fits begun =
      let back : List ℕ = log (map kept_entry (e ∷ es)) number (record { log = 1; pos = length bytes }) in
      record {
        stamp = begun.stamp;
        server = begun.server;
        fits = begun.fits;
        more = begun.more ++ back;
        is = ap (λ (bs : List ℕ). bs ++ back) begun.is ∙ append_assoc (head begun.stamp begun.server) begun.more back;
      }

  can_all : (carried more : List (Entry Whole)) (r : Replica) → Ended from m stamp server carried more r
      → CanLogAll (map kept_entry (head_entries from.read stamp server ++ (carried ++ more))) (number_before from.read) (place_before from.read)
  can_all carried more r e = subst (λ (es : List (Entry Whole)). CanLogAll (map kept_entry es) (number_before from.read) (place_before from.read)) e.history e.sound.logs

  -- the replica is behind by what it owes
  behind_there : (carried more : List (Entry Whole)) (r : Replica) → Ended from m stamp server carried more r → IsBehind (next_from from m stamp server carried more r)
  behind_there carried more r e = record {
    holds = e.ready.holds;
    made = e.ready.made;
    give = e.ready.give;
    say = e.ready.say;
    makes = e.ready.makes;
    place = e.place ∙ reads_to carried;
    number = e.within;
  }

  begins_there : (carried more : List (Entry Whole)) (r : Replica) → Ended from m stamp server carried more r → Begins (next_from from m stamp server carried more r)
  begins_there carried more r e = record {
    behind = behind_there carried more r e;
    begun = begun_there from.read carried more (can_head from.read stamp server (carried ++ more) (can_all carried more r e)).0 e.begun;
    number = e.number;
    owed = owed_there from.read carried more e.committed;
    logs = can_there carried more (first_ones carried more e.committed)
        (can_all carried more r e);
    opened = refl;
    sizes = sizes (source_from from) m e.sound.replays.holds e.sound.replays.sizes;
    bodies = well (source_from from) m e.sound.replays.holds e.sound.replays.well e.sound.replays.bodies;
  }

  -- where the source stood
  source_there : (carried more : List (Entry Whole)) (r : Replica) → Ended from m stamp server carried more r → source_from (next_from from m stamp server carried more r) ≡ committed_in m
  source_there carried more r e =
      let all : List (Entry Whole) = carried ++ more in
      let first : AreCommitted carried = first_ones carried more e.committed in
      let count : m.state.shared.committed ≡ counted_all (map kept_entry all) (number_before from.read) = counts_there from m stamp server all e.sound.replays.holds e.history in
      let place : m.state.shared.place ≡ place_of l all =
      ends_there below.have below.heads from m stamp server all e.sound.replays.holds e.history e.committed ∙ sym (front_place below.have below.heads l all e.committed) in
      ap (λ (n : ℕ). record { base = m.state.shared.base; committed = n; place = (source_from (next_from from m stamp server carried more r)).place }) (sym (count ∙ counts_on carried more))
      ∙ ap (λ (p : LogPlace). record { base = m.state.shared.base; committed = m.state.shared.committed; place = p }) (sym (place ∙ writes_on carried more first))

  -- and its log
  log_there : (carried more : List (Entry Whole)) (r : Replica) → Ended from m stamp server carried more r → (now : Machine) → now.history ≡ []
      → log_with (next_from from m stamp server carried more r) now ≡ log_with from m
  log_there carried more r e now none =
      let to : Starts = next_from from m stamp server carried more r in
      ap (λ (es : List (Entry Whole)). bytes_before to.read ++ log (map kept_entry es) (number_before to.read) (place_before to.read))
      (ap (λ (es : List (Entry Whole)). to.owed ++ es) none ∙ append-nil to.owed)
      ∙ sym (logs_on carried more (first_ones carried more e.committed)) ∙ sym (log_is from m stamp server (carried ++ more) e.history)

-- ---- a run that ends

-- transactions and definitions count by one
pub counts_by_one : (es : List (Entry Whole)) (number : ℕ) → AreCommitted es → counted_all (map kept_entry es) number ≡ number + length es
counts_by_one [] number committed = let e : number ≡ number + 0 = omega arith in e
counts_by_one (Transaction stamp server items ∷ es) number committed = omega (arith, counts_by_one es (number + 1) committed)
counts_by_one (Definition stamp server item ∷ es) number committed = omega (arith, counts_by_one es (number + 1) committed)
counts_by_one (LogStart stamp server ∷ es) number committed = absurd committed

-- a replica that counted as its log did counts so behind what it carried out
number_there : (read : Read) (stamp server : ℕ) (carried more : List (Entry Whole)) (first now committed : ℕ) → first ≡ number_before read → now ≡ min (first + length carried) (2 ^ 64 - 1)
    → AreCommitted (carried ++ more) → committed ≡ counted_all (map kept_entry (carried ++ more)) (number_before read) → committed < 2 ^ 64
    → now ≡ number_before (read_behind read stamp server carried)
number_there read stamp server [] more first now committed same is are count fits =
    let all : counted_all (map kept_entry more) (number_before read) ≡ number_before read + length more = counts_by_one more (number_before read) are in
    omega (arith, same, is, count, all, fits)
number_there read stamp server (e ∷ es) more first now committed same is are count fits =
    let front : counted_all (map kept_entry (e ∷ es)) (number_before read) ≡ number_before read + length (e ∷ es) = counts_by_one (e ∷ es) (number_before read) (first_ones (e ∷ es) more are) in
    let all : counted_all (map kept_entry ((e ∷ es) ++ more)) (number_before read) ≡ number_before read + length ((e ∷ es) ++ more) = counts_by_one ((e ∷ es) ++ more) (number_before read) are in
    let size : length ((e ∷ es) ++ more) ≡ length (e ∷ es) + length more = length-append (e ∷ es) more in
    fits_there first (length (e ∷ es)) (length more) now committed (number_before read) (counted_all (map kept_entry (e ∷ es)) (number_before read)) same is front (count ∙ all ∙ ap (λ (n : ℕ). number_before read + n) size) fits
  where
    fits_there : (first k j now committed n c : ℕ) → first ≡ n → now ≡ min (first + k) (2 ^ 64 - 1) → c ≡ n + k → committed ≡ n + (k + j) → committed < 2 ^ 64 → now ≡ c
    fits_there first k j now committed n c same is front all fits = omega (arith, same, is, front, all, fits)

-- what is known of what is left
ready_there : BasesHold → (from : Starts) (m : Machine) (stamp server : ℕ) (carried more : List (Entry Whole)) (base : Base) → IsSound from m
    → from.owed ++ m.history ≡ head_entries from.read stamp server ++ (carried ++ more) → after changes_of define carried from.replica.base ≡ Some base
    → Ready base m.state.shared.base (owed_behind from.read stamp server carried more)
ready_there hold from m stamp server [] more base sound is makes =
    at from.replica.base base makes (subst (Ready from.replica.base m.state.shared.base) is (behind_ready from m sound.behind sound.replays))
  where
    at : (a b : Base) → Some a ≡ Some b → Ready a m.state.shared.base (head_entries from.read stamp server ++ more) → Ready b m.state.shared.base (head_entries from.read stamp server ++ more)
    at a b same r = let e : a ≡ b = cc in rw e at r
ready_there hold from m stamp server (e ∷ es) more base sound is makes = history_ready hold from m stamp server (e ∷ es) more base sound.behind sound.replays is makes

pub runs_end_well : Below → BasesHold → SizesStay → RunsStayWell → RunsEndWell
runs_end_well below hold sizes well names b f begins sound fits follow =
    let from : Starts = b.from in
    let m : Machine = b.machine in
    let e : Ended from m f.stamp f.server f.carried f.more b.replica = record {
      sound = sound;
      begun = begins.begun;
      history = f.history;
      committed = f.committed;
      ready = ready_there hold from m f.stamp f.server f.carried f.more b.replica.base sound f.history (f.base follow);
      place = f.place;
      number = number_there from.read f.stamp f.server f.carried f.more from.replica.number b.replica.number m.state.shared.committed begins.number f.number f.committed
          (counts_there from m f.stamp f.server (f.carried ++ f.more) sound.replays.holds f.history) fits;
      within = least b.replica.number (from.replica.number + length f.carried) f.number;
    } in
    record {
      begins = begins_there below sizes well from m f.stamp f.server f.carried f.more b.replica e;
      source = source_there below sizes well from m f.stamp f.server f.carried f.more b.replica e;
      log = log_there below sizes well from m f.stamp f.server f.carried f.more b.replica e;
    }
  where
    least : (n k : ℕ) → n ≡ min k (2 ^ 64 - 1) → n ≤ 2 ^ 64 - 1
    least n k is = omega (arith, is)
