-- Stores that stand where a run may begin let it; so do those in which a run ends.
use Rattle.std.proofs.Common.{◌≡◌, inl, inr, ◌≤◌, ℕ, ◌+◌, eqb, Bool, true, false, List, [], ◌∷◌, ◌++◌, length, map, take, drop, Some, refl, sym, ap, ◌∙◌, subst, append_assoc, append-nil, arith, length-append}
use Rattle.std.specs.Prelude.{if◌then◌else◌, ◌==◌}
use Rattle.std.proofs.Math.Seq.{drop-append_seam, take-append_seam}
use Rattle.std.proofs.lemmas.Bool.{cond-true, cond-false, eqb-true, eqb-false, ne_eqb}
use Rattle.store_model.specs.Held.{LogEnd, Held, first_read, last_end, nothing_held}
use Rattle.store_model.specs.Entries.{writer_at}
use Rattle.durable_runs.specs.Behind.{Behind, HasHead, IsPlaceIn, from_place, nothing_stored, writer_of}
use Rattle.durable_runs.specs.Sources.{Stored}
use Rattle.waiting_entries.specs.Added.{added_to}
use Rattle.run_laws.specs.apply_laws.catalog_rules.Bases.{Base}
use Rattle.run_laws.specs.log_entries.declared.entries.Entry.{Entry}
use Rattle.run_laws.specs.log_entries.declared.entries.Entry.TheVariants.{Transaction, Definition, LogStart}
use Rattle.run_laws.specs.log_entries.Entries.{after}
use Rattle.run_laws.specs.log_entry_laws.Entries.{CanLogAll}
use Rattle.run_laws.specs.log_model.Log.{LogPlace, counted_all, head, log, written_to, HeadsHaveLength}
use Rattle.run_laws.specs.session_model.Machine.{Whole, kept_entry, Machine, first_place}
use Rattle.run_laws.specs.session_model.Holding.{Beginning, changes_of, define, EntriesMade}
use Rattle.run_laws.specs.run_model.replica_model.Replica.{Replica, replica_from}
use Rattle.run_laws.specs.run_model.Run.{Read, nothing, bytes_to, bytes_before, number_before, place_before, from_nothing, Starts}
use Rattle.run_laws.specs.run_model.Following.{AreCommitted}
use Rattle.run_laws.specs.Laws.{behind_head}
use Rattle.run_laws.specs.Openings.{Begins, BeginWithNothing, BothOpen, IsLogFront, RunsEndWell, begins_next, owed_behind}
use Rattle.run_laws.proofs.Carrying.{last_ones}
use Rattle.run_laws.proofs.Places.{written_place}
use Rattle.run_stores.specs.Standing.{CanBegin, FrontStands, HasOneLog, StandAt}
use Rattle.run_stores.specs.Laws.{NothingBegins, StoresBegin, StoresLetBegin, StoresOpen, RunsEndBehind}
use Rattle.run_stores.proofs.Beginning.{Below}
use Rattle.run_stores.proofs.Logs.{added_none, behind_committed, none_begins, no_bytes}

-- ---- the ends of logs

no_ends : (ends : List LogEnd) → length ends ≡ 0 → ends ≡ []
no_ends [] none = refl
no_ends (e ∷ ends) none = let no : ⊥ = omega (arith, none) in absurd no

place_in : (ends : List LogEnd) (place : LogPlace) → length ends ≡ 1 → place.log ≡ 1 → IsPlaceIn place ends
place_in [] place one first = let no : ⊥ = omega (arith, one) in absurd no
place_in (e ∷ ends) place one first = (omega (arith, first), omega (arith, one, first))

head_in : (ends : List LogEnd) (place : LogPlace) (logs : ℕ → List ℕ) (stamp server : ℕ) → place.log ≡ 1 → take 123 (logs 1) ≡ head stamp server → HasHead place ends logs
head_in [] place logs stamp server first is = tt
head_in (e ∷ ends) place logs stamp server first is = (stamp, (server, ap (λ (n : ℕ). take 123 (logs n)) first ∙ is))

front_in : (ends : List LogEnd) (log : List ℕ) → IsLogFront log → FrontStands ends log
front_in [] log front = tt
front_in (e ∷ ends) log front = front

-- where a writer stood: behind the head, or at the place
writes_first : (ends : List LogEnd) → length ends ≡ 1 → writer_of first_read ends ≡ first_place
writes_first [] one = let no : ⊥ = omega (arith, one) in absurd no
writes_first (e ∷ ends) one = refl

writes_past : (ends : List LogEnd) (place : LogPlace) → length ends ≡ 1 → (place.pos == 4) ≡ false → writer_of place ends ≡ place
writes_past [] place one past = let no : ⊥ = omega (arith, one) in absurd no
writes_past (e ∷ ends) place one past = ap (λ (t : Bool). if t then record { log = place.log; pos = 123 } else place) past

-- a front of a log's head
head_read : HeadsHaveLength → (stamp server : ℕ) (more : List ℕ) → take 123 (head stamp server ++ more) ≡ head stamp server
head_read heads stamp server more = ap (λ (n : ℕ). take n (head stamp server ++ more)) (sym (heads stamp server)) ∙ take-append_seam (head stamp server) more

-- ---- stores of one log

module _ (below : Below) (source : Stored) (replica : Held) (one : HasOneLog source) where
  -- What is known of both stores where the source has a log.
  record Known (es : List (Entry Whole)) (w : LogPlace) : Type 0 where
    ends : length source.held.ends ≡ 1
    at_log : replica.place.log ≡ 1
    first : w.log ≡ 1
    writes : writer_of replica.place source.held.ends ≡ w
    committed : AreCommitted es
    made : EntriesMade es
    base : after changes_of define es replica.base ≡ Some source.held.base
    number : counted_all (map kept_entry es) replica.number ≡ source.held.number
    to : written_to (map kept_entry es) replica.number w ≡ writer_at source.held
    tail : drop w.pos (source.logs 1) ≡ log (map kept_entry es) replica.number w
    front : IsLogFront (source.logs 1)

  -- what each log has from the writer's place on
  log_at : (es : List (Entry Whole)) (w : LogPlace) → Known es w → (n : ℕ) → from_place n w source.logs ≡ added_to n (map kept_entry es) replica.number w
  log_at es w h n = by (n == w.log) refl
    where
      by : (b : Bool) → (n == w.log) ≡ b → from_place n w source.logs ≡ added_to n (map kept_entry es) replica.number w
      by true q =
          let same : n ≡ w.log = eqb-true n w.log q in
          cond-true (eqb n w.log) (drop w.pos (source.logs n)) (source.logs n) q ∙ ap (λ (k : ℕ). drop w.pos (source.logs k)) (same ∙ h.first) ∙ h.tail
          ∙ sym (below.one (map kept_entry es) replica.number w (none_begins es h.committed)) ∙ ap (λ (k : ℕ). added_to k (map kept_entry es) replica.number w) (sym same)
      by false q =
          let other : n ≡ w.log → ⊥ = eqb-false n w.log q in
          cond-false (eqb n w.log) (drop w.pos (source.logs n)) (source.logs n) q ∙ one.others n (λ is. other (is ∙ sym h.first))
          ∙ sym (added_none n (map kept_entry es) replica.number w (none_begins es h.committed) other)

  behind_by : (es : List (Entry Whole)) (w : LogPlace) → Known es w → Behind source replica es
  behind_by es w h = record {
    made = h.made;
    base = h.base;
    number = h.number;
    place = place_in source.held.ends replica.place h.ends h.at_log;
    begins = head_in source.held.ends replica.place source.logs h.front.stamp h.front.server h.at_log
        (ap (take 123) h.front.is ∙ head_read below.heads h.front.stamp h.front.server h.front.more);
    ends = ap (written_to (map kept_entry es) replica.number) h.writes ∙ h.to;
    logs = λ n from. subst (λ (q : LogPlace). from_place n q source.logs ≡ added_to n (map kept_entry es) replica.number q) (sym h.writes) (log_at es w h n);
  }

  -- where both stand
  abbrev at : Read → List (Entry Whole) → Starts
  at read owed = record { read = read; owed = owed; base = source.held.base; replica = replica_from replica.base replica.number replica.place }

  -- the source, and its log
  record There (read : Read) (owed : List (Entry Whole)) : Type 0 where
    begins : Begins (at read owed)
    number : source.held.number ≡ counted_all (map kept_entry owed) (number_before read)
    place : writer_at source.held ≡ written_to (map kept_entry owed) (number_before read) (place_before read)
    log : source.logs 1 ≡ bytes_before read ++ log (map kept_entry owed) (number_before read) (place_before read)

  -- one log, where entries end in the first
  one_end : (es : List (Entry Whole)) (number : ℕ) (p : LogPlace) → AreCommitted es → p.log ≡ 1 → writer_at source.held ≡ written_to (map kept_entry es) number p → length source.held.ends ≡ 1
  one_end es number p committed first is =
      ap (λ (q : LogPlace). q.log) (is ∙ written_place below.have es committed number p) ∙ first

  not_none : length source.held.ends ≡ 1 → source.held.ends ≡ [] → ⊥
  not_none ends none = let zero_of : length source.held.ends ≡ 0 = ap length none in omega (arith, ends, zero_of)

  -- a source without a log
  nothing_there : There nothing [] → CanBegin source replica []
  nothing_there h =
      let none : source.held.ends ≡ [] = no_ends source.held.ends (ap (λ (p : LogPlace). p.log) h.place) in
      let place : replica.place ≡ first_read = h.begins.behind.place in
      let number : replica.number ≡ 0 = h.begins.number in
      let log_one : source.logs 1 ≡ [] = no_bytes (source.logs 1) (one.long ∙ ap last_end none) in
      let all : (n : ℕ) → source.logs n ≡ [] = λ n. nothing_in n log_one (n == 1) refl in
      record {
        behind = record {
          made = tt;
          base = h.begins.behind.makes;
          number = number ∙ sym h.number;
          place = subst (IsPlaceIn replica.place) (sym none) place;
          begins = subst (λ (ends : List LogEnd). HasHead replica.place ends source.logs) (sym none) tt;
          ends = ap (writer_of replica.place) none ∙ sym h.place;
          logs = λ n from. either (n == (writer_of replica.place source.held.ends).log) (source.logs n) (drop (writer_of replica.place source.held.ends).pos (source.logs n)) (all n)
              (ap (λ (p : LogPlace). drop p.pos (source.logs n)) (ap (writer_of replica.place) none) ∙ all n);
        };
        one = one;
        front = subst (λ (ends : List LogEnd). FrontStands ends (source.logs 1)) (sym none) tt;
        place = inl (ap (λ (p : LogPlace). p.pos) place);
        first = λ is. number;
        none = λ is. refl;
        within = h.begins.behind.number;
        holds = h.begins.behind.holds;
        give = tt;
        say = tt;
        can = tt;
        sizes = h.begins.sizes;
        bodies = h.begins.bodies;
      }
    where
      nothing_in : (n : ℕ) → source.logs 1 ≡ [] → (b : Bool) → (n == 1) ≡ b → source.logs n ≡ []
      nothing_in n none true q = ap source.logs (eqb-true n 1 q) ∙ none
      nothing_in n none false q = one.others n (eqb-false n 1 q)

      either : (b : Bool) (bytes part : List ℕ) → bytes ≡ [] → part ≡ [] → (if b then part else bytes) ≡ []
      either true bytes part whole is = is
      either false bytes part whole is = whole

  -- a replica that has read nothing of a log
  unread_there : (stamp server : ℕ) (es : List (Entry Whole)) → There nothing (LogStart stamp server ∷ es) → CanBegin source replica es
  unread_there stamp server es h =
      let place : replica.place ≡ first_read = h.begins.behind.place in
      let number : replica.number ≡ 0 = h.begins.number in
      let back : List ℕ = log (map kept_entry es) 0 first_place in
      let ends : length source.held.ends ≡ 1 = one_end es 0 first_place h.begins.owed refl h.place in
      let writes : writer_of replica.place source.held.ends ≡ first_place = ap (λ (p : LogPlace). writer_of p source.held.ends) place ∙ writes_first source.held.ends ends in
      let b : Known es first_place = record {
        ends = ends;
        at_log = ap (λ (p : LogPlace). p.log) place;
        first = refl;
        writes = writes;
        committed = h.begins.owed;
        made = h.begins.behind.made.1;
        base = h.begins.behind.makes;
        number = ap (counted_all (map kept_entry es)) number ∙ sym h.number;
        to = ap (λ (n : ℕ). written_to (map kept_entry es) n first_place) number ∙ sym h.place;
        tail = ap (drop 123) h.log ∙ ap (λ (n : ℕ). drop n (head stamp server ++ back)) (sym (below.heads stamp server)) ∙ drop-append_seam (head stamp server) back
            ∙ ap (λ (n : ℕ). log (map kept_entry es) n first_place) (sym number);
        front = record { stamp = stamp; server = server; fits = h.begins.logs.0; more = back; is = h.log };
      } in
      record {
        behind = behind_by es first_place b;
        one = one;
        front = front_in source.held.ends (source.logs 1) b.front;
        place = inl (ap (λ (p : LogPlace). p.pos) place);
        first = λ is. number;
        none = λ is. absurd (not_none ends is);
        within = h.begins.behind.number;
        holds = h.begins.behind.holds;
        give = h.begins.behind.give.1 replica.base refl;
        say = h.begins.behind.say;
        can = subst (CanLogAll (map kept_entry es) replica.number) (sym writes) (subst (λ (n : ℕ). CanLogAll (map kept_entry es) n first_place) (sym number) h.begins.logs.1);
        sizes = h.begins.sizes;
        bodies = h.begins.bodies;
      }

  -- one that has read some of it
  read_there : (bytes : List ℕ) (n : ℕ) (es : List (Entry Whole)) → There (bytes_to bytes n) es → CanBegin source replica es
  read_there bytes n es h =
      let p : LogPlace = record { log = 1; pos = length bytes } in
      let place : replica.place ≡ p = h.begins.behind.place in
      let number : replica.number ≡ n = h.begins.number in
      let f : IsLogFront bytes = h.begins.begun in
      let back : List ℕ = log (map kept_entry es) n p in
      let ends : length source.held.ends ≡ 1 = one_end es n p h.begins.owed refl h.place in
      let past : 123 ≤ replica.place.pos = long_front below.heads bytes f replica.place.pos (ap (λ (q : LogPlace). q.pos) place) in
      let writes : writer_of replica.place source.held.ends ≡ p = writes_past source.held.ends replica.place ends (ne_eqb replica.place.pos 4 (no_start replica.place.pos past)) ∙ place in
      let b : Known es p = record {
        ends = ends;
        at_log = ap (λ (q : LogPlace). q.log) place;
        first = refl;
        writes = writes;
        committed = h.begins.owed;
        made = h.begins.behind.made;
        base = h.begins.behind.makes;
        number = ap (counted_all (map kept_entry es)) number ∙ sym h.number;
        to = ap (λ (k : ℕ). written_to (map kept_entry es) k p) number ∙ sym h.place;
        tail = ap (drop (length bytes)) h.log ∙ drop-append_seam bytes back ∙ ap (λ (k : ℕ). log (map kept_entry es) k p) (sym number);
        front = record {
          stamp = f.stamp;
          server = f.server;
          fits = f.fits;
          more = f.more ++ back;
          is = h.log ∙ ap (λ (bs : List ℕ). bs ++ back) f.is ∙ append_assoc (head f.stamp f.server) f.more back;
        };
      } in
      record {
        behind = behind_by es p b;
        one = one;
        front = front_in source.held.ends (source.logs 1) b.front;
        place = inr past;
        first = λ is. absurd (no_start replica.place.pos past (ap (λ (q : LogPlace). q.pos) is));
        none = λ is. absurd (not_none ends is);
        within = h.begins.behind.number;
        holds = h.begins.behind.holds;
        give = h.begins.behind.give;
        say = h.begins.behind.say;
        can = subst (CanLogAll (map kept_entry es) replica.number) (sym writes) (subst (λ (k : ℕ). CanLogAll (map kept_entry es) k p) (sym number) h.begins.logs);
        sizes = h.begins.sizes;
        bodies = h.begins.bodies;
      }
    where
      long_front : HeadsHaveLength → (bytes : List ℕ) → IsLogFront bytes → (pos : ℕ) → pos ≡ length bytes → 123 ≤ pos
      long_front heads bytes f pos is =
          let size : length bytes ≡ length (head f.stamp f.server) + length f.more = ap length f.is ∙ length-append (head f.stamp f.server) f.more in
          let long : length (head f.stamp f.server) ≡ 123 = heads f.stamp f.server in
          omega (arith, is, size, long)

      no_start : (pos : ℕ) → 123 ≤ pos → pos ≡ 4 → ⊥
      no_start pos past is = omega (arith, past, is)

  let_begin : (read : Read) (owed : List (Entry Whole)) → There read owed → CanBegin source replica (behind_head owed)
  let_begin nothing [] h = nothing_there h
  let_begin nothing (LogStart stamp server ∷ es) h = unread_there stamp server es h
  let_begin nothing (Transaction stamp server items ∷ es) h = absurd h.begins.owed
  let_begin nothing (Definition stamp server item ∷ es) h = absurd h.begins.owed
  let_begin (bytes_to bytes n) es h = subst (CanBegin source replica) (sym (behind_committed es h.begins.owed)) (read_there bytes n es h)

pub stores_let_begin : Below → StoresLetBegin
stores_let_begin below source replica from begins stand one =
    let as_opened : Begins (record from { replica = replica_from replica.base replica.number replica.place }) = subst (λ (r : Replica). Begins (record from { replica = r })) stand.opens begins in
    let there : Begins (at below source replica one from.read from.owed) =
    subst (λ (base : Base). Begins (record { read = from.read; owed = from.owed; base = base; replica = replica_from replica.base replica.number replica.place })) (sym stand.base) as_opened in
    let_begin below source replica one from.read from.owed (record { begins = there; number = stand.number; place = stand.place; log = stand.log })

-- where neither has anything
pub nothing_begins : Below → BeginWithNothing → NothingBegins
nothing_begins below nothing_is =
    stores_let_begin below nothing_stored nothing_held from_nothing nothing_is.begins
    (record { base = refl; number = refl; place = refl; log = refl; opens = refl }) (record { one = omega arith; long = refl; others = λ n other. refl })

-- ---- both open

pub stores_open : StoresBegin → BothOpen → StoresOpen
stores_open begin open' names src source replica owed fits can =
    let s = begin source replica owed can in
    (s, open' names src s.from fits s.begins)

-- ---- where a run ends

-- what is left is what is owed
left_over : (read : Read) (stamp server : ℕ) (carried more : List (Entry Whole)) → AreCommitted (carried ++ more) → behind_head (owed_behind read stamp server carried more) ≡ more
left_over nothing stamp server [] more committed = refl
left_over (bytes_to bytes n) stamp server [] more committed = behind_committed more committed
left_over read stamp server (e ∷ es) more committed = behind_committed more (last_ones (e ∷ es) more committed)

pub runs_end_behind : Below → RunsEndWell → RunsEndBehind
runs_end_behind below well names b f source replica begins sound fits follow stand one =
    let e = well names b f begins sound fits follow in
    let to : Starts = begins_next names b f in
    let now : Machine = record { state = b.machine.state; history = [] } in
    let there : StandAt source replica to = record {
      base = stand.base;
      number = stand.number ∙ sym (ap (λ (x : Beginning). x.committed) e.source);
      place = stand.place ∙ sym (ap (λ (x : Beginning). x.place) e.source);
      log = stand.log ∙ sym (e.log now refl)
          ∙ ap (λ (es : List (Entry Whole)). bytes_before to.read ++ log (map kept_entry es) (number_before to.read) (place_before to.read)) (append-nil to.owed);
      opens = stand.opens;
    } in
    subst (CanBegin source replica) (left_over b.from.read f.stamp f.server f.carried f.more f.committed) (stores_let_begin below source replica to e.begins there one)
