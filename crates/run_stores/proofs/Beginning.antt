-- Stores that let a run begin stand where one may begin.
use Rattle.std.proofs.Common.{◌≡◌, ◌⊎◌, inl, inr, ◌≤◌, ℕ, ◌+◌, ◌-◌, eqb, Bool, true, false, List, [], ◌∷◌, ◌++◌, length, map, take, drop, Some, refl, sym, ap, ◌∙◌, subst, arith}
use Rattle.std.specs.Prelude.{if◌then◌else◌, ◌==◌}
use Rattle.std.proofs.Math.Seq.{drop-append_seam, take-append-add}
use Rattle.std.proofs.lemmas.Bool.{cond-true, eqb-true, eqb-false, eq-eqb}
use Rattle.std.proofs.lemmas.List.{length-take-le, take-append-drop}
use Rattle.store_model.specs.Held.{LogEnd, Held, first_read, last_end}
use Rattle.store_model.specs.Entries.{writer_at}
use Rattle.durable_runs.specs.Behind.{IsPlaceIn, from_place, writer_of}
use Rattle.durable_runs.specs.Laws.{BeginNone}
use Rattle.durable_runs.specs.Sources.{Stored}
use Rattle.waiting_entries.specs.Added.{added_to}
use Rattle.run_laws.specs.apply_laws.catalog_rules.Bases.{Base}
use Rattle.run_laws.specs.log_entries.declared.entries.Item.{Item}
use Rattle.run_laws.specs.log_entries.declared.entries.Entry.{Entry}
use Rattle.run_laws.specs.log_entries.declared.entries.Entry.TheVariants.{LogStart}
use Rattle.run_laws.specs.log_entries.Entries.{after}
use Rattle.run_laws.specs.log_entry_laws.Entries.{CanLogAll}
use Rattle.run_laws.specs.log_model.Log.{LogPlace, moved, counted_all, head, log, written_to, EntriesHaveLength, HeadsHaveLength}
use Rattle.run_laws.specs.session_model.Machine.{Whole, kept_entry, first_place}
use Rattle.run_laws.specs.session_model.Holding.{changes_of, define}
use Rattle.run_laws.specs.session_replays.Again.{EntriesGive}
use Rattle.run_laws.specs.run_model.replica_model.Replica.{Replica, replica_from}
use Rattle.run_laws.specs.run_model.Run.{nothing, bytes_to}
use Rattle.run_laws.specs.run_model.Following.{AreCommitted}
use Rattle.run_laws.specs.Openings.{IsLogFront}
use Rattle.run_laws.proofs.Places.{written_place}
use Rattle.run_stores.specs.Standing.{CanBegin, FrontStands}
use Rattle.run_stores.specs.Laws.{StartsAt, StoresBegin}
use Rattle.run_stores.proofs.Logs.{behind_committed, none_begins, stays_in, no_bytes}

-- what the proofs take from the crates below
pub record Below : Type 0 where
  pub have : EntriesHaveLength
  pub heads : HeadsHaveLength
  pub one : (es : List (Entry Item)) (number : ℕ) (p : LogPlace) → BeginNone es → added_to p.log es number p ≡ log es number p

-- ---- from the start of a log

-- what an entry of a log's head gives and makes, before others
front_gives : (stamp server : ℕ) (base : Base) (es : List (Entry Whole)) → EntriesGive base es → EntriesGive base (LogStart stamp server ∷ es)
front_gives stamp server base es give = (tt, λ next is. at next is)
  where
    at : (next : Base) → Some base ≡ Some next → EntriesGive next es
    at next is = let same : base ≡ next = cc in subst (λ (b : Base). EntriesGive b es) same give

-- ---- a source without a log

none_there : (source : Stored) (replica : Held) (owed : List (Entry Whole)) → CanBegin source replica owed → source.held.ends ≡ [] → StartsAt source replica owed
none_there source replica owed c is =
    let r : Replica = replica_from replica.base replica.number replica.place in
    let place : replica.place ≡ first_read = subst (IsPlaceIn replica.place) is c.behind.place in
    let zero_there : replica.number ≡ 0 = c.first place in
    let nothing_owed : owed ≡ [] = c.none is in
    record {
      from = record { read = nothing; owed = []; base = source.held.base; replica = r };
      begins = record {
        behind = record {
          holds = c.holds;
          made = tt;
          give = tt;
          say = tt;
          makes = subst (λ (es : List (Entry Whole)). after changes_of define es replica.base ≡ Some source.held.base) nothing_owed c.behind.base;
          place = place;
          number = c.within;
        };
        begun = tt;
        number = zero_there;
        owed = tt;
        logs = tt;
        opened = refl;
        sizes = c.sizes;
        bodies = c.bodies;
      };
      stand = record {
        base = refl;
        number = sym (subst (λ (es : List (Entry Whole)). counted_all (map kept_entry es) replica.number ≡ source.held.number) nothing_owed c.behind.number) ∙ zero_there;
        place = ap (λ (ends : List LogEnd). record { log = length ends; pos = last_end ends }) is;
        log = no_bytes (source.logs 1) (c.one.long ∙ ap last_end is);
        opens = refl;
      };
      owes = sym nothing_owed;
    }

-- ---- a source with a log

-- What is known of a source with one log and of its replica, which stands there.
record Logged (source : Stored) (replica : Held) (owed : List (Entry Whole)) (e : LogEnd) (p : LogPlace) : Type 0 where
  pub ends : source.held.ends ≡ e ∷ []
  pub at_log : replica.place.log ≡ 1
  pub first : p.log ≡ 1
  pub to : written_to (map kept_entry owed) replica.number p ≡ record { log = 1; pos = e.pos }
  pub committed : AreCommitted owed
  pub tail : drop p.pos (source.logs 1) ≡ log (map kept_entry owed) replica.number p
  pub can : CanLogAll (map kept_entry owed) replica.number p

logged_by : Below → (source : Stored) (replica : Held) (owed : List (Entry Whole)) (e : LogEnd) (p : LogPlace) → CanBegin source replica owed → source.held.ends ≡ e ∷ [] → replica.place.log ≡ 1
    → writer_of replica.place (e ∷ []) ≡ p → p.log ≡ 1 → Logged source replica owed e p
logged_by below source replica owed e p c is log_one writes first =
    let writer : writer_of replica.place source.held.ends ≡ p = ap (writer_of replica.place) is ∙ writes in
    let at : writer_at source.held ≡ record { log = 1; pos = e.pos } = ap (λ (ends : List LogEnd). record { log = length ends; pos = last_end ends }) is in
    let to : written_to (map kept_entry owed) replica.number p ≡ record { log = 1; pos = e.pos } =
    ap (written_to (map kept_entry owed) replica.number) (sym writer) ∙ c.behind.ends ∙ at in
    let committed : AreCommitted owed = stays_in owed replica.number p (ap (λ (q : LogPlace). q.log) to ∙ sym first) in
    let within : p.log ≤ p.log = omega arith in
    let bytes : from_place p.log p source.logs ≡ added_to p.log (map kept_entry owed) replica.number p =
    subst (λ (w : LogPlace). (n : ℕ) → w.log ≤ n → from_place n w source.logs ≡ added_to n (map kept_entry owed) replica.number w) writer c.behind.logs p.log within in
    record {
      ends = is;
      at_log = log_one;
      first = first;
      to = to;
      committed = committed;
      tail = ap (λ (n : ℕ). drop p.pos (source.logs n)) (sym first) ∙ sym (here p source.logs) ∙ bytes ∙ below.one (map kept_entry owed) replica.number p (none_begins owed committed);
      can = subst (CanLogAll (map kept_entry owed) replica.number) writer c.can;
    }
  where
    here : (p : LogPlace) (logs : ℕ → List ℕ) → from_place p.log p logs ≡ drop p.pos (logs p.log)
    here p logs = cond-true (eqb p.log p.log) (drop p.pos (logs p.log)) (logs p.log) (eq-eqb p.log p.log refl)

-- a replica that has read nothing of it
unread : Below → (source : Stored) (replica : Held) (owed : List (Entry Whole)) (e : LogEnd) → CanBegin source replica owed → IsLogFront (source.logs 1) → replica.place ≡ first_read
    → Logged source replica owed e first_place → StartsAt source replica owed
unread below source replica owed e c front place k =
    let r : Replica = replica_from replica.base replica.number replica.place in
    let zero_there : replica.number ≡ 0 = c.first place in
    let at_zero : counted_all (map kept_entry owed) 0 ≡ source.held.number = ap (counted_all (map kept_entry owed)) (sym zero_there) ∙ c.behind.number in
    let long : length (head front.stamp front.server) ≡ 123 = below.heads front.stamp front.server in
    let more : drop 123 (source.logs 1) ≡ front.more =
    ap (drop 123) front.is ∙ ap (λ (n : ℕ). drop n (head front.stamp front.server ++ front.more)) (sym long) ∙ drop-append_seam (head front.stamp front.server) front.more in
    let back : front.more ≡ log (map kept_entry owed) 0 first_place = sym more ∙ k.tail ∙ ap (λ (n : ℕ). log (map kept_entry owed) n first_place) zero_there in
    record {
      from = record { read = nothing; owed = LogStart front.stamp front.server ∷ owed; base = source.held.base; replica = r };
      begins = record {
        behind = record {
          holds = c.holds;
          made = (tt, c.behind.made);
          give = front_gives front.stamp front.server replica.base owed c.give;
          say = c.say;
          makes = c.behind.base;
          place = place;
          number = c.within;
        };
        begun = tt;
        number = zero_there;
        owed = k.committed;
        logs = (front.fits, subst (λ (n : ℕ). CanLogAll (map kept_entry owed) n first_place) zero_there k.can);
        opened = refl;
        sizes = c.sizes;
        bodies = c.bodies;
      };
      stand = record {
        base = refl;
        number = sym at_zero;
        place = ap (λ (ends : List LogEnd). record { log = length ends; pos = last_end ends }) k.ends ∙ sym k.to ∙ ap (λ (n : ℕ). written_to (map kept_entry owed) n first_place) zero_there;
        log = front.is ∙ ap (λ (bs : List ℕ). head front.stamp front.server ++ bs) back;
        opens = refl;
      };
      owes = refl;
    }

-- what was read of a log begins as the log does
front_read : HeadsHaveLength → (bytes : List ℕ) (pos : ℕ) → 123 ≤ pos → IsLogFront bytes → IsLogFront (take pos bytes)
front_read heads bytes pos past front = record {
  stamp = front.stamp;
  server = front.server;
  fits = front.fits;
  more = take (pos - 123) front.more;
  is = ap (take pos) front.is
      ∙ ap (λ (n : ℕ). take n (head front.stamp front.server ++ front.more)) (split (length (head front.stamp front.server)) pos (heads front.stamp front.server) past)
      ∙ take-append-add (head front.stamp front.server) front.more (pos - 123);
}
  where
    split : (n pos : ℕ) → n ≡ 123 → 123 ≤ pos → pos ≡ n + (pos - 123)
    split n pos is past = omega (arith, is, past)

-- one that has read some of it
read_on : Below → (source : Stored) (replica : Held) (owed : List (Entry Whole)) (e : LogEnd) → CanBegin source replica owed → IsLogFront (source.logs 1) → 123 ≤ replica.place.pos
    → Logged source replica owed e replica.place → StartsAt source replica owed
read_on below source replica owed e c front past k =
    let r : Replica = replica_from replica.base replica.number replica.place in
    let pos : ℕ = replica.place.pos in
    let bytes : List ℕ = take pos (source.logs 1) in
    let back : List ℕ = log (map kept_entry owed) replica.number replica.place in
    let moves : record { log = 1; pos = e.pos } ≡ moved replica.place (length back) = sym k.to ∙ written_place below.have owed k.committed replica.number replica.place in
    let long : length (source.logs 1) ≡ e.pos = c.one.long ∙ ap last_end k.ends in
    let within : pos ≤ length (source.logs 1) = reaches pos (length back) e.pos (length (source.logs 1)) (ap (λ (q : LogPlace). q.pos) moves) long in
    let size : length bytes ≡ pos = length-take-le pos (source.logs 1) within in
    let here : replica.place ≡ record { log = 1; pos = length bytes } = ap (λ (n : ℕ). record { log = n; pos = pos }) k.at_log ∙ ap (λ (n : ℕ). record { log = 1; pos = n }) (sym size) in
    record {
      from = record { read = bytes_to bytes replica.number; owed = owed; base = source.held.base; replica = r };
      begins = record {
        behind = record {
          holds = c.holds;
          made = c.behind.made;
          give = c.give;
          say = c.say;
          makes = c.behind.base;
          place = here;
          number = c.within;
        };
        begun = front_read below.heads (source.logs 1) pos past front;
        number = refl;
        owed = k.committed;
        logs = subst (CanLogAll (map kept_entry owed) replica.number) here k.can;
        opened = refl;
        sizes = c.sizes;
        bodies = c.bodies;
      };
      stand = record {
        base = refl;
        number = sym c.behind.number;
        place = ap (λ (ends : List LogEnd). record { log = length ends; pos = last_end ends }) k.ends ∙ sym k.to ∙ ap (written_to (map kept_entry owed) replica.number) here;
        log = sym (take-append-drop pos (source.logs 1)) ∙ ap (λ (bs : List ℕ). bytes ++ bs) k.tail ∙ ap (λ (p : LogPlace). bytes ++ log (map kept_entry owed) replica.number p) here;
        opens = refl;
      };
      owes = behind_committed owed k.committed;
    }
  where
    reaches : (pos n end long : ℕ) → end ≡ pos + n → long ≡ end → pos ≤ long
    reaches pos n end long q s = omega (arith, q, s)

one_there : Below → (source : Stored) (replica : Held) (owed : List (Entry Whole)) (e : LogEnd) → CanBegin source replica owed → source.held.ends ≡ e ∷ [] → StartsAt source replica owed
one_there below source replica owed e c is = by (replica.place.pos == 4) refl c.place
  where
    in_first : (1 ≤ replica.place.log) × (replica.place.log ≤ 1) → replica.place.log ≡ 1
    in_first there = omega (arith, there.0, there.1)

    log_one : replica.place.log ≡ 1
    log_one = in_first (subst (IsPlaceIn replica.place) is c.behind.place)

    front : IsLogFront (source.logs 1)
    front = subst (λ (ends : List LogEnd). FrontStands ends (source.logs 1)) is c.front

    -- where a writer stood
    writes : (b : Bool) → (replica.place.pos == 4) ≡ b → writer_of replica.place (e ∷ []) ≡ (if b then record { log = replica.place.log; pos = 123 } else replica.place)
    writes b q = ap (λ (t : Bool). if t then record { log = replica.place.log; pos = 123 } else replica.place) q

    by : (b : Bool) → (replica.place.pos == 4) ≡ b → (replica.place.pos ≡ 4) ⊎ (123 ≤ replica.place.pos) → StartsAt source replica owed
    by true q either =
        let four : replica.place.pos ≡ 4 = eqb-true replica.place.pos 4 q in
        let place : replica.place ≡ first_read = ap (λ (n : ℕ). record { log = n; pos = replica.place.pos }) log_one ∙ ap (λ (n : ℕ). record { log = 1; pos = n }) four in
        unread below source replica owed e c front place
        (logged_by below source replica owed e first_place c is log_one (writes true q ∙ ap (λ (n : ℕ). record { log = n; pos = 123 }) log_one) refl)
    by false q (inl four) = absurd (eqb-false replica.place.pos 4 q four)
    by false q (inr past) = read_on below source replica owed e c front past (logged_by below source replica owed e replica.place c is log_one (writes false q) log_one)

pub stores_begin : Below → StoresBegin
stores_begin below source replica owed c = by source.held.ends refl
  where
    by : (ends : List LogEnd) → source.held.ends ≡ ends → StartsAt source replica owed
    by [] is = none_there source replica owed c is
    by (e ∷ []) is = one_there below source replica owed e c is
    by (e ∷ g ∷ ends) is =
        let many : length source.held.ends ≡ length (e ∷ g ∷ ends) = ap length is in
        let no : ⊥ = omega (arith, many, c.one.one) in absurd no
