-- What a replica makes of a source's log that is cut.
use Rattle.std.proofs.Common.{◌≡◌, ◌≤◌, ℕ, ◌+◌, zero, suc, List, [], ◌∷◌, ◌++◌, length, map, take, Option, Some, None, Result, Ok, Err, refl, sym, ap, ◌∙◌, subst, append-nil, arith}
use Rattle.std.proofs.lemmas.List.{take_all}
use Rattle.std.specs.Option.{option_and_then}
use Rattle.port_traits.specs.declared.identity.Identity.{Identity}
use Rattle.port_traits.specs.declared.identity.Draw.{Draw}
use Rattle.apply_laws.specs.catalog_rules.Bases.{Base}
use Rattle.apply_laws.specs.log_entries.declared.entries.Entry.{Entry}
use Rattle.apply_laws.specs.log_entries.declared.entries.Entry.TheVariants.{Transaction, Definition, LogStart}
use Rattle.apply_laws.specs.log_entries.Entries.{after}
use Rattle.apply_laws.specs.log_entry_laws.Entries.{group_of_entry, start_group, StaysInLog, CanLog, CanLogAll}
use Rattle.apply_laws.specs.log_entry_laws.Laws.{GroupsHaveBounds}
use Rattle.apply_laws.specs.log_model.Groups.{Group}
use Rattle.apply_laws.specs.log_model.Log.{LogPlace, behind, counted, end_from, read_to, EntriesHaveLength}
use Rattle.apply_laws.specs.apply_model.Stops.{Differs}
use Rattle.apply_laws.specs.apply_model.Groups.{Applied, group_carried}
use Rattle.apply_laws.specs.session_model.Machine.{Whole, first_place, kept_entry}
use Rattle.apply_laws.specs.session_model.Holding.{changes_of, define}
use Rattle.apply_laws.specs.session_replays.Followed.{EntriesFollow}
use Rattle.run_model.specs.log_file_model.Walk.{Piece, grouped_from}
use Rattle.run_model.specs.replica_model.Replaying.{Replay, all_replayed, by_form, carried, replay_by, replayed_from, unless_stopped}
use Rattle.run_model.specs.replica_model.Replica.{Replica}
use Rattle.run_model.specs.Run.{Read, nothing, bytes_to, Starts, number_before, place_before}
use Rattle.run_model.specs.Following.{AreCommitted, groups_of, reader_from}
use Rattle.run_laws.specs.Fronts.{FrontsAreRead, IsFrontOf, NoReplayStops, ReplaysHaveCarried, WholeIsReplayed, groups_owed, log_at}
use Rattle.run_laws.specs.Openings.{AreOwed, Begins}
use Rattle.run_laws.specs.Replays.{groups_in}
use Rattle.run_laws.proofs.Carrying.{Appliers, Ready, entry_carried, in_back, in_front, others, stays}
use Rattle.run_laws.proofs.Fetching.{group_leads, group_to}
use Rattle.run_laws.proofs.Replaying.{all_by, by_groups}

-- ---- the first of lists

none_taken : (k : ℕ) → Path (List Group) (take k []) []
none_taken zero = refl
none_taken (suc k) = refl

take_twice : (k j : ℕ) (gs : List Group) → (m : ℕ) × (take k (take j gs) ≡ take m gs)
take_twice zero j gs = (0, refl)
take_twice (suc k) zero gs = (0, refl)
take_twice (suc k) (suc j) [] = (0, refl)
take_twice (suc k) (suc j) (g ∷ gs) = let m = take_twice k j gs in (suc m.0, ap (λ (hs : List Group). g ∷ hs) m.1)

groups_taken : (k : ℕ) (ps : List Piece) → groups_in (take k ps) ≡ take k (groups_in ps)
groups_taken zero ps = refl
groups_taken (suc k) [] = refl
groups_taken (suc k) (p ∷ ps) = ap (λ (gs : List Group). p.group ∷ gs) (groups_taken k ps)

groups_first : (front left : List (Entry Whole)) (number : ℕ) (p : LogPlace) → groups_of (map kept_entry front) number p ≡ take (length front) (groups_of (map kept_entry (front ++ left)) number p)
groups_first [] left number p = refl
groups_first (e ∷ es) left number p =
    ap (λ (gs : List Group). group_of_entry (kept_entry e) number p ∷ gs) (groups_first es left (counted (kept_entry e) number) (behind (kept_entry e) number p))

owed_first : (read : Read) (front left : List (Entry Whole)) → (j : ℕ) × (groups_owed read front ≡ take j (groups_owed read (front ++ left)))
owed_first nothing [] left = (0, refl)
owed_first nothing (LogStart stamp server ∷ es) left = (suc (length es), ap (λ (gs : List Group). start_group ∷ gs) (groups_first es left 0 first_place))
owed_first nothing (Transaction stamp server items ∷ es) left = (0, refl)
owed_first nothing (Definition stamp server item ∷ es) left = (0, refl)
owed_first (bytes_to bytes number) front left = (length front, groups_first front left number (record { log = 1; pos = length bytes }))

-- ---- entries carried out

-- What a replay came to from entries on: the first of them were carried out, where what came before did the same at every replica.
record Comes (Before : Type 0) (k : ℕ) (es : List (Entry Whole)) (number : ℕ) (p reader : LogPlace) (base : Base) (s : Replay) : Type 0 where
  pub front : List (Entry Whole)
  pub left : List (Entry Whole)
  pub all : es ≡ front ++ left
  pub place : s.place ≡ end_from reader (map kept_entry front) number p
  pub base_is : Before → EntriesFollow front → after changes_of define front base ≡ Some s.base
  pub through : Before → EntriesFollow es → s.stop ≡ None
  pub all_of : length es ≤ k → s.stop ≡ None → left ≡ []

none_comes : (Before : Type 0) (k : ℕ) (es : List (Entry Whole)) (number : ℕ) (p : LogPlace) (r : Replay) → r.stop ≡ None → (length es ≤ k → es ≡ []) → Comes Before k es number p r.place r.base r
none_comes Before k es number p r stop none =
    record { front = []; left = es; all = refl; place = refl; base_is = λ b follow. refl; through = λ b follow. stop; all_of = λ le stop. none le }

none_there : (es : List (Entry Whole)) → length es ≤ 0 → es ≡ []
none_there [] le = refl
none_there (e ∷ es) le = absurd (omega (arith, le))

-- what differs has stopped
not_through : (d : Differs) → Path (Option Differs) (Some d) None → ⊥
not_through d is = cc

module _ (appliers : Appliers) (have : EntriesHaveLength) (bounds : GroupsHaveBounds) (identity : Identity) (draw : Draw) where
  form_is : (e : Entry Whole) (number : ℕ) (p : LogPlace) (r : Replay) → StaysInLog (kept_entry e) → CanLog (kept_entry e) number p
      → by_form identity draw (group_of_entry (kept_entry e) number p) r (group_of_entry (kept_entry e) number p).form
      ≡ carried (group_of_entry (kept_entry e) number p) r (group_carried identity draw r.base r.counters (group_of_entry (kept_entry e) number p))
  form_is (Transaction stamp server []) number p r stay can = let no : ⊥ = omega (arith, can.0) in absurd no
  form_is (Transaction stamp server (i ∷ is)) number p r stay can = refl
  form_is (Definition stamp server i) number p r stay can = refl
  form_is (LogStart stamp server) number p r stay can = absurd stay

  reads_to : (e : Entry Whole) (number : ℕ) (p : LogPlace) → StaysInLog (kept_entry e) → read_to (kept_entry e) number p ≡ behind (kept_entry e) number p
  reads_to (Transaction stamp server is) number p stay = refl
  reads_to (Definition stamp server i) number p stay = refl
  reads_to (LogStart stamp server) number p stay = absurd stay

  same_ok : {x y : Applied} {o : Result Applied Differs} → o ≡ Ok x → o ≡ Ok y → x ≡ y
  same_ok q s = cc

  not_both : {x : Applied} {d : Differs} {o : Result Applied Differs} → o ≡ Ok x → o ≡ Err d → ⊥
  not_both q s = cc

  one_comes : (Before : Type 0) (k : ℕ) (e : Entry Whole) (es : List (Entry Whole)) (number : ℕ) (p : LogPlace) (last : Base) (r : Replay) (more : Replay → Replay)
      → (Before → Ready r.base last (e ∷ es)) → AreCommitted (e ∷ es) → CanLog (kept_entry e) number p → r.place.log ≡ p.log
      → ((s : Replay) → (Before × EntriesFollow (e ∷ []) → Ready s.base last es) → s.stop ≡ None → s.place.log ≡ (behind (kept_entry e) number p).log
      → Comes (Before × EntriesFollow (e ∷ [])) k es (counted (kept_entry e) number) (behind (kept_entry e) number p) s.place s.base (more s))
      → (o : Result Applied Differs) → group_carried identity draw r.base r.counters (group_of_entry (kept_entry e) number p) ≡ o
      → Comes Before (suc k) (e ∷ es) number p r.place r.base
      (unless_stopped more (carried (group_of_entry (kept_entry e) number p) r o) (carried (group_of_entry (kept_entry e) number p) r o).stop)
  one_comes Before k e es number p last r more ready committed can log next (Ok applied) does =
      let g : Group = group_of_entry (kept_entry e) number p in
      let stay : StaysInLog (kept_entry e) = stays e es committed in
      let s : Replay = carried g r (Ok applied) in
      let to : s.place ≡ behind (kept_entry e) number p = sym (group_leads (kept_entry e) number p r.place stay can) ∙ group_to have bounds (kept_entry e) number p r.place stay can log in
      let out = λ (b : Before) (f : EntriesFollow (e ∷ [])). entry_carried appliers identity draw r.base last r.counters e es number p (ready b) f committed can in
      let c : Comes (Before × EntriesFollow (e ∷ [])) k es (counted (kept_entry e) number) (behind (kept_entry e) number p) s.place s.base (more s) =
      next s (λ both. subst (λ (x : Applied). Ready x.base last es) (same_ok (out both.0 both.1).does does) (out both.0 both.1).ready) refl (ap (λ (q : LogPlace). q.log) to) in
      record {
        front = e ∷ c.front;
        left = c.left;
        all = ap (λ (xs : List (Entry Whole)). e ∷ xs) c.all;
        place = c.place ∙ ap (λ (q : LogPlace). end_from q (map kept_entry c.front) (counted (kept_entry e) number) (behind (kept_entry e) number p)) (to ∙ sym (reads_to e number p stay));
        base_is = λ b follow.
            let f : EntriesFollow (e ∷ []) = in_front (e ∷ []) c.front follow in
            let o = out b f in
            ap (option_and_then (after changes_of define c.front)) o.makes ∙ ap (λ (x : Applied). after changes_of define c.front x.base) (same_ok o.does does)
            ∙ c.base_is (b, f) (in_back (e ∷ []) c.front follow);
        through = λ b follow. c.through (b, in_front (e ∷ []) es follow) (in_back (e ∷ []) es follow);
        all_of = λ le stop. c.all_of (omega (arith, le)) stop;
      }
  one_comes Before k e es number p last r more ready committed can log next (Err d) does = record {
    front = [];
    left = e ∷ es;
    all = refl;
    place = refl;
    base_is = λ b follow. refl;
    through = λ b follow.
        let o = entry_carried appliers identity draw r.base last r.counters e es number p (ready b) (in_front (e ∷ []) es follow) committed can in
        absurd (not_both o.does does);
    all_of = λ le stop. absurd (not_through d stop);
  }

  entries_come : (Before : Type 0) (k : ℕ) (es : List (Entry Whole)) (number : ℕ) (p : LogPlace) (last : Base) (r : Replay) → (Before → Ready r.base last es)
      → AreCommitted es → CanLogAll (map kept_entry es) number p → r.stop ≡ None → r.place.log ≡ p.log
      → Comes Before k es number p r.place r.base (all_by identity draw (take k (groups_of (map kept_entry es) number p)) r)
  entries_come Before zero es number p last r ready committed can stop log = none_comes Before zero es number p r stop (none_there es)
  entries_come Before (suc k) [] number p last r ready committed can stop log = none_comes Before (suc k) [] number p r stop (λ le. refl)
  entries_come Before (suc k) (e ∷ es) number p last r ready committed can stop log =
      let more : Replay → Replay = all_by identity draw (take k (groups_of (map kept_entry es) (counted (kept_entry e) number) (behind (kept_entry e) number p))) in
      subst (λ (s : Replay). Comes Before (suc k) (e ∷ es) number p r.place r.base (unless_stopped more s s.stop)) (sym (form_is e number p r (stays e es committed) can.0))
      (one_comes Before k e es number p last r more ready committed can.0 log
      (λ s ready' stop' log'. entries_come (Before × EntriesFollow (e ∷ [])) k es (counted (kept_entry e) number) (behind (kept_entry e) number p) last s ready' (others e es committed) can.1 stop' log')
      (group_carried identity draw r.base r.counters (group_of_entry (kept_entry e) number p)) refl)

  -- ---- from where a run may begin

  -- What a replica came to that owed entries.
  record Came (read : Read) (m : ℕ) (owed : List (Entry Whole)) (base : Base) (s : Replay) : Type 0 where
    pub front : List (Entry Whole)
    pub left : List (Entry Whole)
    pub all : owed ≡ front ++ left
    pub place : s.place ≡ end_from (reader_from read) (map kept_entry front) (number_before read) (place_before read)
    pub base_is : EntriesFollow front → after changes_of define front base ≡ Some s.base
    pub through : EntriesFollow owed → s.stop ≡ None
    pub all_of : length owed ≤ m → s.stop ≡ None → left ≡ []

  none_came : (read : Read) (m : ℕ) (owed : List (Entry Whole)) (r : Replica) (s : Replay) → r.place ≡ reader_from read → s ≡ replay_by r → (length owed ≤ m → owed ≡ []) → Came read m owed r.base s
  none_came read m owed r s place is none =
      subst (Came read m owed r.base) (sym is)
      (record { front = []; left = owed; all = refl; place = place; base_is = λ follow. refl; through = λ follow. refl; all_of = λ le stop. none le })

  came : (read : Read) (owed : List (Entry Whole)) (m : ℕ) (r : Replica) (last : Base) → AreOwed read owed → CanLogAll (map kept_entry owed) (number_before read) (place_before read)
      → Ready r.base last owed → r.place ≡ reader_from read → Came read m owed r.base (all_by identity draw (take m (groups_owed read owed)) (replay_by r))
  came nothing [] m r last are can ready place = none_came nothing m [] r _ place (ap (λ (gs : List Group). all_by identity draw gs (replay_by r)) (none_taken m)) (λ le. refl)
  came nothing (Transaction stamp server items ∷ es) m r last are can ready place = absurd are
  came nothing (Definition stamp server item ∷ es) m r last are can ready place = absurd are
  came nothing (LogStart stamp server ∷ es) zero r last are can ready place = none_came nothing zero (LogStart stamp server ∷ es) r _ place refl (none_there (LogStart stamp server ∷ es))
  came nothing (LogStart stamp server ∷ es) (suc m) r last are can ready place =
      let past : Ready r.base last es = record { holds = ready.holds; made = ready.made.1; give = ready.give.1 r.base refl; say = ready.say; makes = ready.makes } in
      let c = entries_come (Unit {0}) m es 0 first_place last (replay_by r) (λ b. past) are can.1 refl (ap (λ (q : LogPlace). q.log) place) in
      record {
        front = LogStart stamp server ∷ c.front;
        left = c.left;
        all = ap (λ (xs : List (Entry Whole)). LogStart stamp server ∷ xs) c.all;
        place = c.place ∙ ap (λ (q : LogPlace). end_from q (map kept_entry c.front) 0 first_place) place;
        base_is = λ follow. c.base_is tt follow;
        through = λ follow. c.through tt follow;
        all_of = λ le stop. c.all_of (omega (arith, le)) stop;
      }
  came (bytes_to bytes number) es m r last are can ready place =
      let p : LogPlace = record { log = 1; pos = length bytes } in
      let c = entries_come (Unit {0}) m es number p last (replay_by r) (λ b. ready) are can refl (ap (λ (q : LogPlace). q.log) place) in
      record {
        front = c.front;
        left = c.left;
        all = c.all;
        place = c.place ∙ ap (λ (q : LogPlace). end_from q (map kept_entry c.front) number p) place;
        base_is = λ follow. c.base_is tt follow;
        through = λ follow. c.through tt follow;
        all_of = c.all_of;
      }

  came_by : (from : Starts) (m : ℕ) (ps : List Piece) → Begins from → groups_in ps ≡ take m (groups_owed from.read from.owed)
      → Came from.read m from.owed from.replica.base (all_replayed identity draw ps (replay_by from.replica))
  came_by from m ps begins owed =
      let b = begins.behind in
      subst (Came from.read m from.owed from.replica.base)
      (sym (by_groups identity draw ps (replay_by from.replica) ∙ ap (λ (gs : List Group). all_by identity draw gs (replay_by from.replica)) owed))
      (came from.read from.owed m from.replica from.base begins.owed begins.logs
      (record { holds = b.holds; made = b.made; give = b.give; say = b.say; makes = b.makes }) b.place)

  came_from : FrontsAreRead → (from : Starts) (bytes : List ℕ) (ps : List Piece) (k : ℕ) → Begins from → IsFrontOf from bytes
      → groups_in ps ≡ take k (groups_in (grouped_from from.replica.place.pos bytes).pieces)
      → (m : ℕ) × Came from.read m from.owed from.replica.base (all_replayed identity draw ps (replay_by from.replica))
  came_from fronts from bytes ps k begins front is =
      let read = fronts from bytes begins front in
      let j = owed_first from.read read.front read.left in
      let m = take_twice k j.0 (groups_owed from.read (read.front ++ read.left)) in
      let owed : groups_in ps ≡ take m.0 (groups_owed from.read from.owed) =
      is ∙ ap (λ (gs : List Group). take k gs) (read.groups ∙ j.1) ∙ m.1 ∙ ap (λ (es : List (Entry Whole)). take m.0 (groups_owed from.read es)) (sym read.all) in
      (m.0, came_by from m.0 ps begins owed)

  -- of a whole log, all groups that are owed
  came_whole : FrontsAreRead → (from : Starts) (bytes : List ℕ) → Begins from → IsFrontOf from bytes → bytes ≡ log_at from
      → (m : ℕ) × ((length from.owed ≤ m) × Came from.read m from.owed from.replica.base (all_replayed identity draw (grouped_from from.replica.place.pos bytes).pieces (replay_by from.replica)))
  came_whole fronts from bytes begins front is =
      let ps : List Piece = (grouped_from from.replica.place.pos bytes).pieces in
      let read = fronts from bytes begins front in
      let same : read.front ≡ from.owed = sym (append-nil read.front) ∙ ap (λ (es : List (Entry Whole)). read.front ++ es) (sym (read.whole is).0) ∙ sym read.all in
      let gs : List Group = groups_owed from.read from.owed in
      let m : ℕ = length gs + length from.owed in
      let owed : groups_in ps ≡ take m gs = read.groups ∙ ap (groups_owed from.read) same ∙ sym (take_all m gs (omega arith)) in
      (m, (omega arith, came_by from m ps begins owed))

take_whole : (gs : List Group) → gs ≡ take (length gs) gs
take_whole [] = refl
take_whole (g ∷ gs) = ap (λ (hs : List Group). g ∷ hs) (take_whole gs)

pub replays_have_carried : Appliers → EntriesHaveLength → GroupsHaveBounds → FrontsAreRead → ReplaysHaveCarried
replays_have_carried appliers have bounds fronts identity draw from bytes k begins front =
    let ps : List Piece = (grouped_from from.replica.place.pos bytes).pieces in
    let c = (came_from appliers have bounds identity draw fronts from bytes (take k ps) k begins front (groups_taken k ps)).1 in
    record { front = c.front; left = c.left; all = c.all; place = c.place; base = c.base_is }

pub no_replay_stops : Appliers → EntriesHaveLength → GroupsHaveBounds → FrontsAreRead → NoReplayStops
unfolding replayed_from
no_replay_stops appliers have bounds fronts identity draw from bytes begins front follow =
    let ps : List Piece = (grouped_from from.replica.place.pos bytes).pieces in
    (came_from appliers have bounds identity draw fronts from bytes ps (length (groups_in ps)) begins front (take_whole (groups_in ps))).1.through follow

same_base : (x y : Base) {o : Option Base} → o ≡ Some x → o ≡ Some y → x ≡ y
same_base x y p q = cc

pub whole_is_replayed : Appliers → EntriesHaveLength → GroupsHaveBounds → FrontsAreRead → WholeIsReplayed
unfolding replayed_from
whole_is_replayed appliers have bounds fronts identity draw from bytes begins front is follow =
    let c = came_whole appliers have bounds identity draw fronts from bytes begins front is in
    let through = c.1.1.through follow in
    let same : c.1.1.front ≡ from.owed = sym (append-nil c.1.1.front) ∙ ap (λ (es : List (Entry Whole)). c.1.1.front ++ es) (sym (c.1.1.all_of c.1.0 through)) ∙ sym c.1.1.all in
    record {
      through = through;
      place = c.1.1.place ∙ ap (λ (es : List (Entry Whole)). end_from (reader_from from.read) (map kept_entry es) (number_before from.read) (place_before from.read)) same;
      base = same_base (replayed_from identity draw from.replica bytes).base from.base
          (ap (λ (es : List (Entry Whole)). after changes_of define es from.replica.base) (sym same) ∙ c.1.1.base_is (subst EntriesFollow (sym same) follow)) begins.behind.makes;
    }
