-- What an image holds, taken apart and put together.
use Rattle.std.proofs.Common.{◌≡◌, inl, inr, ℕ, zero, suc, ◌+◌, Bool, true, false, cond, ltb, List, [], ◌∷◌, ◌++◌, length, take, drop, Option, Some, None, Result, Ok, Err, refl, sym, ◌∙◌, ap}
use Rattle.std.specs.Option.{option_and_then}
use Rattle.std.proofs.lemmas.Bool.{cond-false, le-ltb, ltb-false}
use Rattle.disk_model.specs.Story.{Image}
use Rattle.gate_journal.specs.declared.record.NextRecord.{NextRecord}
use Rattle.gate_journal.specs.declared.record.NextRecord.TheVariants.{End, Record, Damaged}
use Rattle.gate_journal.specs.Records.{record_at, none_from, with_first, with_last, and_behind, records_from, records, Opened}
use Rattle.store_model.specs.declared.record.Kind.{Kind}
use Rattle.store_model.specs.declared.record.Record.{Record as AnyRecord}
use Rattle.store_model.specs.Bodies.{record_of}
use Rattle.store_model.specs.Held.{LogEnd, Held, applied, body_applied, bodies_applied}
use Rattle.store_model.specs.Snapshots.{is_open, snapshot_in}
use Rattle.store_model.specs.Stores.{Spot, AreLong, begun_by, begun_in, greater_if, begun_from, journal_of, gone_on, by_next, applied_from, journal_applied, first_short, first_log, unless_short, with_logs, with_journal, held_by, HasLogs, Stands}
use Rattle.store_model.specs.Laws.{SameSnapshot, SameSnapshots}

-- ---- what a result is

opened_or : Opened → Result Opened ℕ → Opened
opened_or d (Ok o) = o
opened_or d (Err at) = d

opened_is : (r : Result Opened ℕ) (o p : Opened) → r ≡ Ok o → r ≡ Ok p → o ≡ p
unfolding opened_or
opened_is r o p e e' = sym (ap (opened_or o) e) ∙ ap (opened_or o) e'

held_or : Held → Result Held ℕ → Held
held_or d (Ok h) = h
held_or d (Err at) = d

held_is : (r : Result Held ℕ) (h k : Held) → r ≡ Ok h → r ≡ Ok k → h ≡ k
unfolding held_or
held_is r h k e e' = sym (ap (held_or h) e) ∙ ap (held_or h) e'

answered_or : Held → Result Held Spot → Held
answered_or d (Ok h) = h
answered_or d (Err spot) = d

answered_is : (r : Result Held Spot) (h k : Held) → r ≡ Ok h → r ≡ Ok k → h ≡ k
unfolding answered_or
answered_is r h k e e' = sym (ap (answered_or h) e) ∙ ap (answered_or h) e'

some_or : Held → Option Held → Held
some_or d (Some h) = h
some_or d None = d

some_is : (h k : Held) → Some h ≡ Some k → h ≡ k
unfolding some_or
some_is h k e = ap (some_or h) e

-- a record in front of others that were read
record First (body : List ℕ) (gate : ℕ) (r : Result Opened ℕ) (o : Opened) : Type 0 where
  pub rest : Opened
  pub read : r ≡ Ok rest
  pub bodies : o.bodies ≡ body ∷ rest.bodies

first_of : (body : List ℕ) (gate : ℕ) (r : Result Opened ℕ) (o : Opened) → with_first body gate r ≡ Ok o → First body gate r o
first_of body gate (Ok p) o e = record { rest = p; read = refl; bodies = sym (ap (λ (q : Opened). q.bodies) (opened_is (Ok (front p)) (front p) o refl e)) }
  where
    front : Opened → Opened
    front q = record { bodies = body ∷ q.bodies; gates = gate ∷ q.gates; gate = q.gate }
first_of body gate (Err at) o e = cc

-- ---- the records of a journal, one after the other

module _ (kind : Kind) (file : List ℕ) where
  -- bodies that are made in turn are made record by record
  made_step : (n gate : ℕ) (r : NextRecord) (o : Opened) (h held : Held) → and_behind r file gate (records_from n file) ≡ Ok o → bodies_applied kind o.bodies h ≡ Some held
      → ((gate' : ℕ) (o' : Opened) (h' : Held) → records_from n file gate' ≡ Ok o' → bodies_applied kind o'.bodies h' ≡ Some held → applied_from kind n file gate' h' ≡ Ok held)
      → by_next kind r file gate (applied_from kind n file) h ≡ Ok held
  made_step n gate End o h held e made behind =
      let none : [] ≡ o.bodies = ap (λ (q : Opened). q.bodies) (opened_is (Ok (none_from gate)) (none_from gate) o refl e) in
      let same : Some h ≡ Some held = ap (λ bodies. bodies_applied kind bodies h) none ∙ made in
      ap (λ (k : Held). Ok k) (some_is h held same)
  made_step n gate (Record size) o h held e made behind =
      let f = first_of (take size (drop (gate + 5) file)) gate (records_from n file (gate + 5 + size)) o e in
      by (body_applied kind (take size (drop (gate + 5) file)) h) f (ap (λ bodies. bodies_applied kind bodies h) (sym f.bodies) ∙ made)
    where
      by : (x : Option Held) (f : First (take size (drop (gate + 5) file)) gate (records_from n file (gate + 5 + size)) o)
          → option_and_then (bodies_applied kind f.rest.bodies) x ≡ Some held → gone_on gate (applied_from kind n file (gate + 5 + size)) x ≡ Ok held
      by None f e = cc
      by (Some k) f e = behind (gate + 5 + size) f.rest k f.read e
  made_step n gate Damaged o h held e made behind = cc

  pub made_from : (n gate : ℕ) (o : Opened) (h held : Held) → records_from n file gate ≡ Ok o → bodies_applied kind o.bodies h ≡ Some held → applied_from kind n file gate h ≡ Ok held
  made_from zero gate o h held e made =
      let none : [] ≡ o.bodies = ap (λ (q : Opened). q.bodies) (opened_is (Ok (none_from gate)) (none_from gate) o refl e) in
      let same : Some h ≡ Some held = ap (λ bodies. bodies_applied kind bodies h) none ∙ made in
      ap (λ (k : Held). Ok k) (some_is h held same)
  made_from (suc n) gate o h held e made = made_step n gate (record_at file gate) o h held e made (λ gate' o' h' e' made'. made_from n gate' o' h' held e' made')

  -- and the other way
  pub record Read (r : Result Opened ℕ) (h held : Held) : Type 0 where
    pub opened : Opened
    pub read : r ≡ Ok opened
    pub made : bodies_applied kind opened.bodies h ≡ Some held

  read_step : (n gate : ℕ) (r : NextRecord) (h held : Held) → by_next kind r file gate (applied_from kind n file) h ≡ Ok held
      → ((gate' : ℕ) (h' : Held) → applied_from kind n file gate' h' ≡ Ok held → Read (records_from n file gate') h' held)
      → Read (and_behind r file gate (records_from n file)) h held
  read_step n gate End h held e behind = record { opened = none_from gate; read = refl; made = ap (λ (k : Held). Some k) (held_is (Ok h) h held refl e) }
  read_step n gate (Record size) h held e behind = by (body_applied kind (take size (drop (gate + 5) file)) h) refl e
    where
      by : (x : Option Held) → body_applied kind (take size (drop (gate + 5) file)) h ≡ x → gone_on gate (applied_from kind n file (gate + 5 + size)) x ≡ Ok held
          → Read (with_first (take size (drop (gate + 5) file)) gate (records_from n file (gate + 5 + size))) h held
      by None is e = cc
      by (Some k) is e =
          let more = behind (gate + 5 + size) k e in
          record {
            opened = record { bodies = take size (drop (gate + 5) file) ∷ more.opened.bodies; gates = gate ∷ more.opened.gates; gate = more.opened.gate };
            read = ap (with_first (take size (drop (gate + 5) file)) gate) more.read;
            made = ap (option_and_then (bodies_applied kind more.opened.bodies)) is ∙ more.made;
          }
  read_step n gate Damaged h held e behind = cc

  pub read_from : (n gate : ℕ) (h held : Held) → applied_from kind n file gate h ≡ Ok held → Read (records_from n file gate) h held
  read_from zero gate h held e = record { opened = none_from gate; read = refl; made = ap (λ (k : Held). Some k) (held_is (Ok h) h held refl e) }
  read_from (suc n) gate h held e = read_step n gate (record_at file gate) h held e (λ gate' h' e'. read_from n gate' h' held e')

-- ---- the whole image

module _ (kind : Kind) (image : Image) (held : Held) where
  apart_by : (generation : ℕ) (begun : Held) → begun_from kind image ≡ Ok (generation, begun) → (j : Result Held ℕ) (s : Option Spot)
      → journal_applied kind (image (journal_of generation)) begun ≡ j
      → with_logs (journal_of generation) image j ≡ Ok held → Stands kind generation image held
  unfolding journal_applied records
  apart_by generation begun from (Err at) s is e = cc
  apart_by generation begun from (Ok h) s is e = by (first_short first_log h.ends image) refl e
    where
      by : (s : Option Spot) → first_short first_log h.ends image ≡ s → unless_short s h ≡ Ok held → Stands kind generation image held
      by (Some spot) short e = cc
      by None short e =
          let same = answered_is (Ok h) h held refl e in
          let file : List ℕ = image (journal_of generation) in
          let r = read_from kind file (length file) 0 begun held (is ∙ ap (λ (k : Held). Ok k) same) in
          record {
            begun = begun;
            from = from;
            opened = r.opened;
            read = r.read;
            made = r.made;
            logs = ap (λ (k : Held). first_short first_log k.ends image) (sym same) ∙ short;
          }

  apart_from : (b : Result (ℕ × Held) Spot) → begun_from kind image ≡ b → with_journal kind image b ≡ Ok held → (generation : ℕ) × Stands kind generation image held
  apart_from (Err spot) is e = cc
  apart_from (Ok begun) is e = (begun.0, apart_by begun.0 begun.1 is (journal_applied kind (image (journal_of begun.0)) begun.1) None refl e)

  pub apart : held_by kind image ≡ Ok held → (generation : ℕ) × Stands kind generation image held
  unfolding held_by
  apart e = apart_from (begun_from kind image) refl e

  pub together : (generation : ℕ) → Stands kind generation image held → held_by kind image ≡ Ok held
  unfolding held_by journal_applied records
  together generation s =
      let file : List ℕ = image (journal_of generation) in
      ap (with_journal kind image) s.from
      ∙ ap (with_logs (journal_of generation) image) (made_from kind file (length file) 0 s.opened s.begun held s.read s.made)
      ∙ ap (λ spot. unless_short spot held) s.logs

-- ---- logs

pub long : (file : ℕ) (ends : List LogEnd) (image : Image) → HasLogs file ends image → AreLong file ends image
long file [] image has = tt
long file (e ∷ ends) image has = by (ltb (length (image file)) e.pos) refl has (λ more. long (file + 1) ends image more)
  where
    by : (b : Bool) → ltb (length (image file)) e.pos ≡ b → cond b (Some (record { file = file; at = length (image file) })) (first_short (file + 1) ends image) ≡ None
        → (HasLogs (file + 1) ends image → AreLong (file + 1) ends image) → AreLong file (e ∷ ends) image
    by true is has behind = cc
    by false is has behind = (ltb-false (length (image file)) e.pos is, behind has)

pub there : (file : ℕ) (ends : List LogEnd) (image : Image) → AreLong file ends image → HasLogs file ends image
there file [] image are = refl
there file (e ∷ ends) image are =
    cond-false (ltb (length (image file)) e.pos) (Some (record { file = file; at = length (image file) })) (first_short (file + 1) ends image)
    (le-ltb (length (image file)) e.pos are.0)
    ∙ there (file + 1) ends image are.1

-- ---- what does not count

same_begun : (kind : Kind) (image image' : Image) (f : ℕ) → SameSnapshot (image f) (image' f) → begun_in kind image' f ≡ begun_in kind image f
same_begun kind image image' f (inl same) = ap (λ file. cond (is_open file) (begun_by f (snapshot_in kind f file)) (Ok None)) same
same_begun kind image image' f (inr closed) =
    cond-false (is_open (image' f)) (begun_by f (snapshot_in kind f (image' f))) (Ok None) closed.1
    ∙ sym (cond-false (is_open (image f)) (begun_by f (snapshot_in kind f (image f))) (Ok None) closed.0)

same_from : (kind : Kind) (image image' : Image) → SameSnapshots image image' → begun_from kind image' ≡ begun_from kind image
unfolding begun_from
same_from kind image image' same =
    ap (λ a. greater_if a (begun_in kind image' 1)) (same_begun kind image image' 0 same.zeroth)
    ∙ ap (greater_if (begun_in kind image 0)) (same_begun kind image image' 1 same.first)

module _ (kind : Kind) (generation : ℕ) (image image' : Image) (held : Held) (stands : Stands kind generation image held) (same : SameSnapshots image image') where
  pub still_stands : records (image' (journal_of generation)) ≡ records (image (journal_of generation)) → HasLogs first_log held.ends image' → Stands kind generation image' held
  still_stands read logs = record {
    begun = stands.begun;
    from = same_from kind image image' same ∙ stands.from;
    opened = stands.opened;
    read = read ∙ stands.read;
    made = stands.made;
    logs = logs;
  }

  -- ---- one record more

  made_more : (bodies : List (List ℕ)) (body : List ℕ) (h h' now : Held) → bodies_applied kind bodies h ≡ Some h' → body_applied kind body h' ≡ Some now
      → bodies_applied kind (bodies ++ body ∷ []) h ≡ Some now
  made_more [] body h h' now made e =
      ap (λ (k : Held). option_and_then (bodies_applied kind []) (body_applied kind body k)) (some_is h h' made) ∙ ap (option_and_then (bodies_applied kind [])) e
  made_more (b ∷ bs) body h h' now made e = by (body_applied kind b h) made (λ k made'. made_more bs body k h' now made' e)
    where
      by : (x : Option Held) → option_and_then (bodies_applied kind bs) x ≡ Some h'
          → ((k : Held) → bodies_applied kind bs k ≡ Some h' → bodies_applied kind (bs ++ body ∷ []) k ≡ Some now)
          → option_and_then (bodies_applied kind (bs ++ body ∷ [])) x ≡ Some now
      by None made behind = cc
      by (Some k) made behind = behind k made

  pub one_more_stands : (body : List ℕ) (r : AnyRecord) (now : Held) → records (image' (journal_of generation)) ≡ with_last body (records (image (journal_of generation)))
      → record_of kind body ≡ Some r → applied r held ≡ Some now → HasLogs first_log now.ends image' → Stands kind generation image' now
  one_more_stands body r now read is makes logs =
      let o = stands.opened in
      record {
        begun = stands.begun;
        from = same_from kind image image' same ∙ stands.from;
        opened = record { bodies = o.bodies ++ body ∷ []; gates = o.gates ++ o.gate ∷ []; gate = o.gate + 5 + length body };
        read = read ∙ ap (with_last body) stands.read;
        made = made_more o.bodies body stands.begun held now stands.made (ap (option_and_then (λ s. applied s held)) is ∙ makes);
        logs = logs;
      }
