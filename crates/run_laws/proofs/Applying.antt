-- APPLY of a replica that follows its source.
use Rattle.std.proofs.Common.{◌≡◌, ◌<◌, ℕ, ◌+◌, ◌-◌, zero, suc, Bool, true, false, List, [], ◌∷◌, ◌++◌, length, map, drop, Option, Some, None, Result, Ok, Err, refl, sym, ap, ◌∙◌, subst, append_assoc, append-nil, arith, length-append}
use Rattle.std.specs.Prelude.{◌^◌, min, nat_le, if◌then◌else◌, take, replicate}
use Rattle.std.specs.Option.{option_and_then}
use Rattle.std.proofs.lemmas.List.{drop-drop}
use Rattle.port_traits.specs.declared.identity.Draw.{Draw}
use Rattle.apply_laws.specs.catalog_rules.Bases.{Base}
use Rattle.apply_laws.specs.log_entries.declared.entries.Entry.{Entry}
use Rattle.apply_laws.specs.log_entries.declared.entries.Entry.TheVariants.{Transaction, Definition, LogStart}
use Rattle.apply_laws.specs.log_entries.Entries.{entry_applied, after}
use Rattle.apply_laws.specs.log_model.Groups.{Group, Next, group, not_whole, group_at}
use Rattle.apply_laws.specs.log_model.Log.{LogPlace, behind, counted, description, entry_bytes, log}
use Rattle.apply_laws.specs.log_model.Written.{bytes_of}
use Rattle.apply_laws.specs.apply_model.Stops.{Differs}
use Rattle.apply_laws.specs.apply_model.Groups.{Applied, and_then, group_carried}
use Rattle.apply_laws.specs.log_entry_laws.Entries.{group_of_entry, start_group, StaysInLog, CanLog, CanLogAll}
use Rattle.apply_laws.specs.log_entry_laws.Laws.{Fetched, partly, wholly}
use Rattle.apply_laws.specs.session_model.Machine.{Whole, kept_entry, Machine, first_place}
use Rattle.apply_laws.specs.session_model.Holding.{changes_of, define}
use Rattle.apply_laws.specs.session_replays.Followed.{EntriesFollow}
use Rattle.run_model.specs.replica_model.Replica.{Replica, behind_group, log_begin, size_of}
use Rattle.run_model.specs.replica_model.Applying.{differs, Going, going_from, next_at, carried_out, carry, by_next, go_on}
use Rattle.run_model.specs.Run.{Names, Read, nothing, bytes_to, ReplicaStep, carried_at, carried_in, Starts, log_with, number_before, place_before}
use Rattle.run_model.specs.Following.{AreCommitted, all_carried, applied_of, Follows, groups_of, head_entries, place_behind, reader_at, reader_from}
use Rattle.run_laws.proofs.Places.{Line, begun, front_of, count_of, place_of, front_place, behind_front, first_event_length, count_last, log_is, place_last, reader_last, reader_log}
use Rattle.run_laws.specs.Laws.{IsDiffering, IsSound, behind_head}
use Rattle.run_laws.proofs.Carrying.{Appliers, stays, first_ones, last_ones, in_front, in_back, history_ready, Carries, entry_carried}
use Rattle.run_laws.proofs.Fetching.{Below, HeadFits, Starting, unread, there, starting, empty_front, none_whole, past_bytes, group_size, group_to, can_behind, can_head}
use Rattle.run_laws.proofs.Groups.{carried_last, come_last, groups_last, groups_length, steps_count, steps_last}

-- ---- entries, one more

-- what is made of nothing is made of a base
none_after : (o : Option Base) → option_and_then (after changes_of define []) o ≡ o
none_after None = refl
none_after (Some base) = refl

after_last : (front : List (Entry Whole)) (e : Entry Whole) (base : Base) → after changes_of define (front ++ e ∷ []) base ≡ option_and_then (entry_applied changes_of define e) (after changes_of define front base)
after_last [] e base = none_after (entry_applied changes_of define e base)
after_last (x ∷ xs) e base = by (λ next. after_last xs e next) (entry_applied changes_of define x base)
  where
    by : ((next : Base) → after changes_of define (xs ++ e ∷ []) next ≡ option_and_then (entry_applied changes_of define e) (after changes_of define xs next)) → (o : Option Base) → option_and_then (after changes_of define (xs ++ e ∷ [])) o ≡ option_and_then (entry_applied changes_of define e) (option_and_then (after changes_of define xs) o)
    by rest None = refl
    by rest (Some next) = rest next

number_on : (n f k j most : ℕ) → n ≡ min (f + k) most → j ≡ k + 1 → min (n + 1) most ≡ min (f + j) most
number_on n f k j most is more = omega (arith, is, more)

count_on : (b c k l : ℕ) → b + c ≡ k → l ≡ k + 1 → b + (c + 1) ≡ l
count_on b c k l is more = omega (arith, is, more)

-- what stands behind the head of a log
behind_is : (read : Read) (stamp server : ℕ) (all es : List (Entry Whole)) → all ≡ head_entries read stamp server ++ es → AreCommitted es → behind_head all ≡ es
behind_is nothing stamp server all es is committed = ap behind_head is
behind_is (bytes_to bytes number) stamp server all es is committed = ap behind_head is ∙ none es committed
  where
    none : (es : List (Entry Whole)) → AreCommitted es → behind_head es ≡ es
    none [] committed = refl
    none (Transaction stamp server items ∷ es) committed = refl
    none (Definition stamp server item ∷ es) committed = refl
    none (LogStart stamp server ∷ es) committed = absurd committed

-- ---- an APPLY on its way

-- What an APPLY has round it: who the nodes are, its draw, and what the replica did before it.
pub record Round : Type 0 where
  pub names : Names
  pub draw : Draw
  pub before : List ReplicaStep

-- its steps behind so many groups more
abbrev pub steps_to : Round → ℕ → List ReplicaStep
steps_to t n = t.before ++ replicate n (carried_at t.draw)

-- It has carried out the first entries that its source put out, and stands behind them, at a count and a place in the log: behind the
-- beginning of the log it may have passed over that.
record Way (t : Round) (from : Starts) (m : Machine) (l : Line) (carried more : List (Entry Whole)) (number : ℕ) (p : LogPlace) (rest : List ℕ) (a : Going) : Type 0 where
  pub history : from.owed ++ m.history ≡ begun l (carried ++ more)
  pub committed : AreCommitted (carried ++ more)
  pub steps : carried_in t.before + a.count ≡ length carried
  pub makes : all_carried t.names.replica (groups_of (map kept_entry carried) (number_before l.read) (place_behind l.read)) (steps_to t a.count) (applied_of from.replica) ≡ Ok (applied_of a.replica)
  pub base : EntriesFollow carried → after changes_of define carried from.replica.base ≡ Some a.replica.base
  pub number_is : a.replica.number ≡ min (from.replica.number + length carried) (2 ^ 64 - 1)
  pub place : a.replica.place ≡ reader_at l.read l.stamp l.server carried
  pub relay : a.replica.relay ++ rest ≡ drop a.replica.place.pos (log_with from m)
  pub stop : a.stop ≡ None
  pub count : count_of l carried ≡ number
  pub end : place_of l carried ≡ p
  pub can : CanLogAll (map kept_entry more) number p
  pub tail : drop a.passed a.replica.relay ++ rest ≡ log (map kept_entry more) number p
  pub at : a.replica.place.pos + a.passed ≡ p.pos

-- It came to a replica that follows, and did not stop, or at an item that has no effect, of an entry that may do something else there.
pub record Came (t : Round) (from : Starts) (m : Machine) (a : Going) : Type 0 where
  pub follows : Follows t.names (record { from = from; machine = m; replica = a.replica; steps = steps_to t a.count })
  pub through : EntriesFollow (take (suc (carried_in t.before + a.count)) (behind_head (from.owed ++ m.history))) → a.stop ≡ None
  pub stop : IsDiffering a.stop

-- A replica that has carried out nothing since both began.
record First (t : Round) (from : Starts) (m : Machine) (l : Line) (more : List (Entry Whole)) (rest : List ℕ) (r : Replica) : Type 0 where
  pub history : from.owed ++ m.history ≡ begun l more
  pub committed : AreCommitted more
  pub steps : carried_in t.before ≡ 0
  pub makes : all_carried t.names.replica [] t.before (applied_of from.replica) ≡ Ok (applied_of r)
  pub base : after changes_of define [] from.replica.base ≡ Some r.base
  pub number : r.number ≡ min (from.replica.number + 0) (2 ^ 64 - 1)
  pub place : r.place ≡ reader_from l.read
  pub relay : r.relay ++ rest ≡ drop r.place.pos (log_with from m)

module _ (below : Below) (appliers : Appliers) (t : Round) (from : Starts) (m : Machine) (stamp server : ℕ) (sound : IsSound from m) where
  -- the log that is read
  abbrev l : Line
  l = record { read = from.read; stamp = stamp; server = server }

  came : (carried more : List (Entry Whole)) (number : ℕ) (p : LogPlace) (rest : List ℕ) (a : Going) → Way t from m l carried more number p rest a → Came t from m a
  came carried more number p rest a way = record {
    follows = record {
      stamp = stamp;
      server = server;
      carried = carried;
      more = more;
      history = way.history;
      committed = way.committed;
      steps = steps_count t.before a.count t.draw ∙ way.steps;
      makes = way.makes;
      base = way.base;
      number = way.number_is;
      place = way.place;
      rest = rest;
      relay = way.relay;
    };
    through = λ follow. way.stop;
    stop = subst IsDiffering (sym way.stop) tt;
  }

  -- an entry that does the same at every replica, behind such entries
  way_carries : (carried : List (Entry Whole)) (e : Entry Whole) (es : List (Entry Whole)) (number : ℕ) (p : LogPlace) (rest : List ℕ) (a : Going)
      → (way : Way t from m l carried (e ∷ es) number p rest a) → EntriesFollow carried → EntriesFollow (e ∷ [])
      → Carries t.names.replica t.draw a.replica.base m.state.shared.base a.replica.counters e es number p
  way_carries carried e es number p rest a way before follow =
      entry_carried appliers t.names.replica t.draw a.replica.base m.state.shared.base a.replica.counters e es number p
      (history_ready appliers.hold from m stamp server carried (e ∷ es) a.replica.base sound.behind sound.replays way.history (way.base before))
      follow (last_ones carried (e ∷ es) way.committed) way.can.0

  base_on : (carried : List (Entry Whole)) (e : Entry Whole) (es : List (Entry Whole)) (number : ℕ) (p : LogPlace) (rest : List ℕ) (a : Going) (applied : Applied)
      → (way : Way t from m l carried (e ∷ es) number p rest a) → group_carried t.names.replica t.draw a.replica.base a.replica.counters (group_of_entry (kept_entry e) number p) ≡ Ok applied
      → EntriesFollow carried → EntriesFollow (e ∷ []) → after changes_of define (carried ++ e ∷ []) from.replica.base ≡ Some applied.base
  base_on carried e es number p rest a applied way does before follow =
      let c = way_carries carried e es number p rest a way before follow in
      after_last carried e from.replica.base ∙ ap (option_and_then (entry_applied changes_of define e)) (way.base before) ∙ c.makes ∙ ap (λ (x : Applied). Some x.base) (same c.does does)
    where
      same : {x y : Applied} {r : Result Applied Differs} → r ≡ Ok x → r ≡ Ok y → x ≡ y
      same q s = cc

  -- what is made of the groups so far and of one more
  makes_on : (carried : List (Entry Whole)) (e : Entry Whole) (es : List (Entry Whole)) (number : ℕ) (p : LogPlace) (rest : List ℕ) (a : Going) (applied : Applied)
      → (way : Way t from m l carried (e ∷ es) number p rest a) → group_carried t.names.replica t.draw a.replica.base a.replica.counters (group_of_entry (kept_entry e) number p) ≡ Ok applied
      → all_carried t.names.replica (groups_of (map kept_entry (carried ++ e ∷ [])) (number_before from.read) (place_behind from.read)) (steps_to t (a.count + 1)) (applied_of from.replica) ≡ Ok applied
  makes_on carried e es number p rest a applied way does =
      let n : ℕ = number_before from.read in
      let first : LogPlace = place_behind from.read in
      let x : Applied = applied_of from.replica in
      let gs : List Group = groups_of (map kept_entry carried) n first in
      let g : Group = group_of_entry (kept_entry e) (count_of l carried) (place_of l carried) in
      let here : g ≡ group_of_entry (kept_entry e) number p = ap (λ (k : ℕ). group_of_entry (kept_entry e) k (place_of l carried)) way.count ∙ ap (group_of_entry (kept_entry e) number) way.end in
      let many : length gs ≡ carried_in (steps_to t a.count) = groups_length carried n first ∙ sym way.steps ∙ sym (steps_count t.before a.count t.draw) in
      ap (λ (hs : List Group). all_carried t.names.replica hs (steps_to t (a.count + 1)) x) (groups_last carried e n first)
      ∙ ap (λ (ss : List ReplicaStep). all_carried t.names.replica (gs ++ g ∷ []) ss x) (steps_last t.before a.count t.draw)
      ∙ carried_last t.names.replica gs g (steps_to t a.count) t.draw x many
      ∙ ap (and_then (λ (y : Applied). group_carried t.names.replica t.draw y.base y.counters g)) way.makes
      ∙ ap (group_carried t.names.replica t.draw a.replica.base a.replica.counters) here ∙ does

  -- where one entry more is carried out
  way_on : (carried : List (Entry Whole)) (e : Entry Whole) (es : List (Entry Whole)) (number : ℕ) (p : LogPlace) (rest : List ℕ) (a : Going) (left : List ℕ) (applied : Applied)
      → (way : Way t from m l carried (e ∷ es) number p rest a)
      → drop a.passed a.replica.relay ≡ entry_bytes (kept_entry e) number p ++ left
      → left ++ rest ≡ log (map kept_entry es) (counted (kept_entry e) number) (behind (kept_entry e) number p)
      → group_carried t.names.replica t.draw a.replica.base a.replica.counters (group_of_entry (kept_entry e) number p) ≡ Ok applied
      → Way t from m l (carried ++ e ∷ []) es (counted (kept_entry e) number) (behind (kept_entry e) number p) rest
      (carried_out (group_of_entry (kept_entry e) number p) applied a)
  way_on carried e es number p rest a left applied way split back does =
      let all : List (Entry Whole) = carried ++ e ∷ [] in
      let g : Group = group_of_entry (kept_entry e) number p in
      let stay : StaysInLog (kept_entry e) = stays e es (last_ones carried (e ∷ es) way.committed) in
      let history : from.owed ++ m.history ≡ begun l (all ++ es) = way.history ∙ ap (begun l) (sym (append_assoc carried (e ∷ []) es)) in
      let committed : AreCommitted (all ++ es) = subst AreCommitted (sym (append_assoc carried (e ∷ []) es)) way.committed in
      let size : size_of g ≡ length (entry_bytes (kept_entry e) number p) = group_size below.bounds (kept_entry e) number p stay in
      let relay_is : drop (a.passed + size_of g) a.replica.relay ≡ left =
      sym (drop-drop (size_of g) a.passed a.replica.relay) ∙ past_bytes (entry_bytes (kept_entry e) number p) (drop a.passed a.replica.relay) left (size_of g) split size in
      let count : count_of l all ≡ counted (kept_entry e) number = count_last l carried e ∙ ap (counted (kept_entry e)) way.count in
      let end : place_of l all ≡ behind (kept_entry e) number p =
      place_last l carried e ∙ ap (λ (n : ℕ). behind (kept_entry e) n (place_of l carried)) way.count ∙ ap (behind (kept_entry e) number) way.end in
      let front : place_of l all ≡ record { log = 1; pos = length (front_of l all) } = front_place below.have below.heads l all (first_ones all es committed) in
      let first : p ≡ record { log = 1; pos = length (front_of l carried) } =
      sym way.end ∙ front_place below.have below.heads l carried (first_ones carried (e ∷ es) way.committed) in
      let here : a.replica.place.log ≡ p.log = ap (λ (q : LogPlace). q.log) way.place ∙ reader_log l carried ∙ sym (ap (λ (q : LogPlace). q.log) first) in
      let to : behind_group a.replica.place g ≡ behind (kept_entry e) number p = group_to below.have below.bounds (kept_entry e) number p a.replica.place stay way.can.0 here in
      let place : behind_group a.replica.place g ≡ record { log = 1; pos = length (front_of l all) } = to ∙ sym end ∙ front in
      let pos : (behind_group a.replica.place g).pos ≡ length (front_of l all) = ap (λ (q : LogPlace). q.pos) place in
      let tail : drop (a.passed + size_of g) a.replica.relay ++ rest ≡ log (map kept_entry es) (counted (kept_entry e) number) (behind (kept_entry e) number p) =
      ap (λ (bs : List ℕ). bs ++ rest) relay_is ∙ back in
      let behind_all : drop (length (front_of l all)) (log_with from m) ≡ log (map kept_entry es) (counted (kept_entry e) number) (behind (kept_entry e) number p) =
      behind_front below.goes_on from m stamp server all es history ∙ ap (λ (n : ℕ). log (map kept_entry es) n (place_of l all)) count
      ∙ ap (log (map kept_entry es) (counted (kept_entry e) number)) end in
      record {
        history = history;
        committed = committed;
        steps = count_on (carried_in t.before) a.count (length carried) (length all) way.steps (length-append carried (e ∷ []));
        makes = makes_on carried e es number p rest a applied way does;
        base = λ follow. base_on carried e es number p rest a applied way does (in_front carried (e ∷ []) follow) (in_back carried (e ∷ []) follow);
        number_is = number_on a.replica.number from.replica.number (length carried) (length all) (2 ^ 64 - 1) way.number_is (length-append carried (e ∷ []));
        place = place ∙ sym (reader_last l carried e);
        relay = tail ∙ sym behind_all ∙ ap (λ (n : ℕ). drop n (log_with from m)) (sym pos);
        stop = refl;
        count = count;
        end = end;
        can = way.can.1;
        tail = tail;
        at = let same : (behind_group a.replica.place g).pos ≡ (behind (kept_entry e) number p).pos = ap (λ (q : LogPlace). q.pos) to in omega (arith, same);
      }

  -- a group that is an entry
  form_on : (f : Going → Going) (carried : List (Entry Whole)) (e : Entry Whole) (es : List (Entry Whole)) (number : ℕ) (p : LogPlace) (rest : List ℕ) (a : Going)
      → StaysInLog (kept_entry e) → CanLog (kept_entry e) number p
      → Came t from m (carry f (group_of_entry (kept_entry e) number p) a (group_carried t.names.replica t.draw a.replica.base a.replica.counters (group_of_entry (kept_entry e) number p)))
      → Came t from m (by_next f t.names.replica t.draw a (group (group_of_entry (kept_entry e) number p)))
  form_on f carried (Transaction stamp' server' []) es number p rest a stay can r = let no : ⊥ = omega (arith, can.0) in absurd no
  form_on f carried (Transaction stamp' server' (i ∷ is)) es number p rest a stay can r = r
  form_on f carried (Definition stamp' server' i) es number p rest a stay can r = r
  form_on f carried (LogStart stamp' server') es number p rest a stay can r = absurd stay

  -- where an item of it has no effect, all is left
  stopped : (carried : List (Entry Whole)) (e : Entry Whole) (es : List (Entry Whole)) (number : ℕ) (p : LogPlace) (rest : List ℕ) (a : Going) (d : Differs)
      → (way : Way t from m l carried (e ∷ es) number p rest a) → group_carried t.names.replica t.draw a.replica.base a.replica.counters (group_of_entry (kept_entry e) number p) ≡ Err d
      → Came t from m (record a { stop = Some (differs d) })
  stopped carried e es number p rest a d way does = record {
    follows = (came carried (e ∷ es) number p rest a way).follows;
    through = λ follow.
        let all : EntriesFollow (take (suc (carried_in t.before + a.count)) (carried ++ e ∷ es)) = subst (λ (hs : List (Entry Whole)). EntriesFollow (take (suc (carried_in t.before + a.count)) hs)) (behind_is from.read stamp server (from.owed ++ m.history) (carried ++ e ∷ es) way.history way.committed) follow in
        let come : EntriesFollow (carried ++ e ∷ []) = subst EntriesFollow (come_last carried e es (carried_in t.before + a.count) way.steps) all in
        let c = way_carries carried e es number p rest a way (in_front carried (e ∷ []) come) (in_back carried (e ∷ []) come) in
        absurd (not_both c.does does);
    stop = tt;
  }
    where
      not_both : {x : Applied} {r : Result Applied Differs} → r ≡ Ok x → r ≡ Err d → ⊥
      not_both q s = cc

  -- the group of an entry is carried out, or is not
  carried_or_not : (f : Going → Going)
      → ((carried more : List (Entry Whole)) (number : ℕ) (p : LogPlace) (rest : List ℕ) (a : Going) → Way t from m l carried more number p rest a → Came t from m (f a))
      → (carried : List (Entry Whole)) (e : Entry Whole) (es : List (Entry Whole)) (number : ℕ) (p : LogPlace) (rest : List ℕ) (a : Going) (left : List ℕ)
      → Way t from m l carried (e ∷ es) number p rest a → drop a.passed a.replica.relay ≡ entry_bytes (kept_entry e) number p ++ left
      → left ++ rest ≡ log (map kept_entry es) (counted (kept_entry e) number) (behind (kept_entry e) number p)
      → (r : Result Applied Differs) → group_carried t.names.replica t.draw a.replica.base a.replica.counters (group_of_entry (kept_entry e) number p) ≡ r
      → Came t from m (carry f (group_of_entry (kept_entry e) number p) a r)
  carried_or_not f next carried e es number p rest a left way split back (Ok applied) does =
      next (carried ++ e ∷ []) es (counted (kept_entry e) number) (behind (kept_entry e) number p) rest _ (way_on carried e es number p rest a left applied way split back does)
  carried_or_not f next carried e es number p rest a left way split back (Err d) does = stopped carried e es number p rest a d way does

  -- one turn
  turn : (f : Going → Going)
      → ((carried more : List (Entry Whole)) (number : ℕ) (p : LogPlace) (rest : List ℕ) (a : Going) → Way t from m l carried more number p rest a → Came t from m (f a))
      → (carried more : List (Entry Whole)) (number : ℕ) (p : LogPlace) (rest : List ℕ) (a : Going) → Way t from m l carried more number p rest a
      → Came t from m (by_next f t.names.replica t.draw a (next_at a))
  turn f next carried [] number p rest a way =
      let bytes : List ℕ = drop a.passed a.replica.relay in
      let none : next_at a ≡ not_whole = none_whole below.few bytes (a.replica.place.pos + a.passed) (empty_front bytes rest way.tail) in
      subst (λ (x : Next). Came t from m (by_next f t.names.replica t.draw a x)) (sym none) (came carried [] number p rest a way)
  turn f next carried (e ∷ es) number p rest a way =
      by (below.is_read (kept_entry e) number p (drop a.passed a.replica.relay) rest (log (map kept_entry es) (counted (kept_entry e) number) (behind (kept_entry e) number p)) stay way.can.0 way.tail)
    where
      stay : StaysInLog (kept_entry e)
      stay = stays e es (last_ones carried (e ∷ es) way.committed)

      g : Group
      g = group_of_entry (kept_entry e) number p

      bytes : List ℕ
      bytes = drop a.passed a.replica.relay

      here : {x : Next} → group_at (record { bytes = drop a.passed a.replica.relay; pos = p.pos }) ≡ x → next_at a ≡ x
      here q = ap (λ (n : ℕ). group_at (record { bytes = drop a.passed a.replica.relay; pos = n })) way.at ∙ q

      by : Fetched (entry_bytes (kept_entry e) number p) p.pos (group_of_entry (kept_entry e) number p) (drop a.passed a.replica.relay) rest (log (map kept_entry es) (counted (kept_entry e) number) (behind (kept_entry e) number p))
          → Came t from m (by_next f t.names.replica t.draw a (next_at a))
      by (partly not) = subst (λ (x : Next). Came t from m (by_next f t.names.replica t.draw a x)) (sym (here not)) (came carried (e ∷ es) number p rest a way)
      by (wholly left split back read) =
          subst (λ (x : Next). Came t from m (by_next f t.names.replica t.draw a x)) (sym (here read))
          (form_on f carried e es number p rest a stay way.can.0
          (carried_or_not f next carried e es number p rest a left way split back (group_carried t.names.replica t.draw a.replica.base a.replica.counters (group_of_entry (kept_entry e) number p)) refl))

  by_test : (b : Bool) (x y : Going) → Came t from m x → Came t from m y → Came t from m (if b then x else y)
  by_test true x y p q = p
  by_test false x y p q = q

  -- behind the beginning of the log
  goes : (most wanted : ℕ) (carried more : List (Entry Whole)) (number : ℕ) (p : LogPlace) (rest : List ℕ) (a : Going) → Way t from m l carried more number p rest a
      → Came t from m (go_on most wanted t.names.replica t.draw a)
  goes zero wanted carried more number p rest a way = came carried more number p rest a way
  goes (suc most) wanted carried more number p rest a way =
      by_test (nat_le wanted a.count) _ _ (came carried more number p rest a way) (turn (go_on most wanted t.names.replica t.draw) (goes most wanted) carried more number p rest a way)

  none_yet : carried_in t.before ≡ 0 → carried_in t.before + 0 ≡ 0
  none_yet steps = omega (arith, steps)

  -- no step more
  none_more : (carried : List (Entry Whole)) (r : Replica)
      → all_carried t.names.replica (groups_of (map kept_entry carried) (number_before from.read) (place_behind from.read)) t.before (applied_of from.replica) ≡ Ok (applied_of r)
      → all_carried t.names.replica (groups_of (map kept_entry carried) (number_before from.read) (place_behind from.read)) (steps_to t 0) (applied_of from.replica) ≡ Ok (applied_of r)
  none_more carried r makes =
      ap (λ (ss : List ReplicaStep). all_carried t.names.replica (groups_of (map kept_entry carried) (number_before from.read) (place_behind from.read)) ss (applied_of from.replica)) (append-nil t.before) ∙ makes

  -- before anything is carried out
  at_start : (more : List (Entry Whole)) (rest : List ℕ) (r : Replica) → First t from m l more rest r → Came t from m (going_from r)
  at_start more rest r f = record {
    follows = record {
      stamp = stamp;
      server = server;
      carried = [];
      more = more;
      history = f.history;
      committed = f.committed;
      steps = steps_count t.before 0 t.draw ∙ none_yet f.steps;
      makes = none_more [] r f.makes;
      base = λ follow. f.base;
      number = f.number;
      place = f.place;
      rest = rest;
      relay = f.relay;
    };
    through = λ follow. refl;
    stop = tt;
  }

  -- the head is passed over
  started : (more : List (Entry Whole)) (rest : List ℕ) (r : Replica) (left : List ℕ) → First t from m l more rest r → r.place ≡ log_begin 1 → number_before from.read ≡ 0 → place_behind from.read ≡ first_place
      → CanLogAll (map kept_entry more) 0 first_place → r.relay ≡ bytes_of server 4 (description stamp) ++ left → left ++ rest ≡ log (map kept_entry more) 0 first_place
      → Way t from m l [] more 0 first_place rest (record (going_from r) { passed = 119 })
  started more rest r left f place none behind can split back =
      let size : length (bytes_of server 4 (description stamp)) ≡ 119 = first_event_length below.heads stamp server in
      let pos : r.place.pos ≡ 4 = ap (λ (q : LogPlace). q.pos) place in
      record {
        history = f.history;
        committed = f.committed;
        steps = none_yet f.steps;
        makes = none_more [] r f.makes;
        base = λ follow. f.base;
        number_is = f.number;
        place = f.place;
        relay = f.relay;
        stop = refl;
        count = none;
        end = behind;
        can = can;
        tail = ap (λ (bs : List ℕ). bs ++ rest) (past_bytes (bytes_of server 4 (description stamp)) r.relay left 119 split (sym size)) ∙ back;
        at = omega (arith, pos);
      }

  starts : (most wanted : ℕ) (more : List (Entry Whole)) (rest : List ℕ) (r : Replica) → First t from m l more rest r → r.place ≡ log_begin 1 → number_before from.read ≡ 0 → place_behind from.read ≡ first_place
      → stamp < 2 ^ 32 → CanLogAll (map kept_entry more) 0 first_place → r.relay ++ rest ≡ bytes_of server 4 (description stamp) ++ log (map kept_entry more) 0 first_place
      → Came t from m (go_on most wanted t.names.replica t.draw (going_from r))
  starts zero wanted more rest r f place none behind fits can bytes = at_start more rest r f
  starts (suc most) wanted more rest r f place none behind fits can bytes =
      by_test (nat_le wanted 0) _ _ (at_start more rest r f) (by (below.start_is_read stamp server r.relay rest (log (map kept_entry more) 0 first_place) fits bytes))
    where
      pos : r.place.pos + 0 ≡ 4
      pos = let p : r.place.pos ≡ 4 = ap (λ (q : LogPlace). q.pos) place in omega (arith, p)

      here : {x : Next} → group_at (record { bytes = r.relay; pos = 4 }) ≡ x → next_at (going_from r) ≡ x
      here q = ap (λ (n : ℕ). group_at (record { bytes = r.relay; pos = n })) pos ∙ q

      by : Fetched (bytes_of server 4 (description stamp)) 4 start_group r.relay rest (log (map kept_entry more) 0 first_place)
          → Came t from m (by_next (go_on most wanted t.names.replica t.draw) t.names.replica t.draw (going_from r) (next_at (going_from r)))
      by (partly not) =
          subst (λ (x : Next). Came t from m (by_next (go_on most wanted t.names.replica t.draw) t.names.replica t.draw (going_from r) x)) (sym (here not)) (at_start more rest r f)
      by (wholly left split back read) =
          subst (λ (x : Next). Came t from m (by_next (go_on most wanted t.names.replica t.draw) t.names.replica t.draw (going_from r) x)) (sym (here read))
          (goes most wanted [] more 0 first_place rest (record (going_from r) { passed = 119 }) (started more rest r left f place none behind can split back))

  -- ---- an APPLY

  -- of a replica that has carried out nothing
  from_first : (most wanted : ℕ) (more : List (Entry Whole)) (rest : List ℕ) (r : Replica) → First t from m l more rest r → CanLogAll (map kept_entry more) (number_before from.read) (place_behind from.read)
      → Starting l more r.place (r.relay ++ rest) → Came t from m (go_on most wanted t.names.replica t.draw (going_from r))
  from_first most wanted more rest r f can (unread place none behind fits bytes) =
      starts most wanted more rest r f place none behind fits
      (subst (λ (n : ℕ). CanLogAll (map kept_entry more) n first_place) none (subst (λ (q : LogPlace). CanLogAll (map kept_entry more) (number_before from.read) q) behind can)) bytes
  from_first most wanted more rest r f can (there place bytes) =
      goes most wanted [] more (number_before from.read) (place_behind from.read) rest (going_from r) (record {
        history = f.history;
        committed = f.committed;
        steps = none_yet f.steps;
        makes = none_more [] r f.makes;
        base = λ follow. f.base;
        number_is = f.number;
        place = f.place;
        relay = f.relay;
        stop = refl;
        count = refl;
        end = refl;
        can = can;
        tail = bytes;
        at = let a : r.place.pos ≡ (place_behind from.read).pos = ap (λ (q : LogPlace). q.pos) place in omega (arith, a);
      })

  going : (most wanted : ℕ) (carried more : List (Entry Whole)) (rest : List ℕ) (r : Replica) → from.owed ++ m.history ≡ begun l (carried ++ more) → AreCommitted (carried ++ more)
      → carried_in t.before ≡ length carried
      → all_carried t.names.replica (groups_of (map kept_entry carried) (number_before from.read) (place_behind from.read)) t.before (applied_of from.replica) ≡ Ok (applied_of r)
      → (EntriesFollow carried → after changes_of define carried from.replica.base ≡ Some r.base) → r.number ≡ min (from.replica.number + length carried) (2 ^ 64 - 1)
      → r.place ≡ reader_at from.read stamp server carried → r.relay ++ rest ≡ drop r.place.pos (log_with from m)
      → HeadFits from.read stamp × CanLogAll (map kept_entry (carried ++ more)) (number_before from.read) (place_behind from.read)
      → Came t from m (go_on most wanted t.names.replica t.draw (going_from r))
  going most wanted [] more rest r history committed steps makes base number place relay can =
      from_first most wanted more rest r
      (record {
        history = history;
        committed = committed;
        steps = steps;
        makes = makes;
        base = base tt;
        number = number;
        place = place;
        relay = relay;
      })
      can.1 (subst (Starting l more r.place) (sym relay) (starting from.read stamp server more r.place (log_with from m) can.0 place (log_is from m stamp server more history)))
  going most wanted (x ∷ xs) more rest r history committed steps makes base number place relay can =
      let carried : List (Entry Whole) = x ∷ xs in
      let end : place_of l carried ≡ record { log = 1; pos = length (front_of l carried) } = front_place below.have below.heads l carried (first_ones carried more committed) in
      goes most wanted carried more (count_of l carried) (place_of l carried) rest (going_from r) (record {
        history = history;
        committed = committed;
        steps = let here : carried_in t.before + 0 ≡ length carried = omega (arith, steps) in here;
        makes = none_more carried r makes;
        base = base;
        number_is = number;
        place = place;
        relay = relay;
        stop = refl;
        count = refl;
        end = refl;
        can = can_behind below l carried more can.1;
        tail = relay ∙ ap (λ (q : LogPlace). drop q.pos (log_with from m)) place ∙ behind_front below.goes_on from m stamp server carried more history;
        at = let a : r.place.pos ≡ length (front_of l carried) = ap (λ (q : LogPlace). q.pos) place in
            let b : (place_of l carried).pos ≡ length (front_of l carried) = ap (λ (q : LogPlace). q.pos) end in
            omega (arith, a, b);
      })

  -- behind so many steps of it
  pub steps_from : (most wanted : ℕ) (carried more : List (Entry Whole)) (rest : List ℕ) (r : Replica) → from.owed ++ m.history ≡ begun l (carried ++ more) → AreCommitted (carried ++ more)
      → carried_in t.before ≡ length carried
      → all_carried t.names.replica (groups_of (map kept_entry carried) (number_before from.read) (place_behind from.read)) t.before (applied_of from.replica) ≡ Ok (applied_of r)
      → (EntriesFollow carried → after changes_of define carried from.replica.base ≡ Some r.base) → r.number ≡ min (from.replica.number + length carried) (2 ^ 64 - 1)
      → r.place ≡ reader_at from.read stamp server carried → r.relay ++ rest ≡ drop r.place.pos (log_with from m) → Came t from m (go_on most wanted t.names.replica t.draw (going_from r))
  steps_from most wanted carried more rest r history committed steps makes base number place relay =
      going most wanted carried more rest r history committed steps makes base number place relay
      (can_head from.read stamp server (carried ++ more) (subst (λ (es : List (Entry Whole)). CanLogAll (map kept_entry es) (number_before from.read) (place_before from.read)) history sound.logs))
