-- What a store keeps where its journal alone is worked on.
use Rattle.std.proofs.Common.{◌≡◌, ◌≢◌, ◌⊎◌, inl, inr, ℕ, ◌+◌, ◌<◌, ◌≤◌, List, [], ◌∷◌, length, Option, Some, None, Result, Ok, Err, refl, sym, ◌∙◌, ap, subst, arith}
use Rattle.std.specs.Prelude.{IfSome, OnOk}
use Rattle.std.proofs.lemmas.Bool.{cases_eq}
use Rattle.disk_model.specs.Story.{Image, Story, count, seen}
use Rattle.disk_model.specs.Left.{Left}
use Rattle.disk_model.specs.Moments.{Always, Only, OthersOf}
use Rattle.disk_model.specs.Claims.{Steps}
use Rattle.disk_model.proofs.Laws.{if_on, if_both}
use Rattle.disk_model.proofs.Putting.{since_told}
use Rattle.gate_journal.specs.declared.journal.Journal.{Journal}
use Rattle.gate_journal.specs.Records.{records, Opened, none_from}
use Rattle.gate_journal.specs.Journal.{HasStaged, IsAtGate, Rests, SameRecords}
use Rattle.gate_journal.proofs.Reading.{records_short}
use Rattle.store_model.specs.declared.record.Kind.{Kind}
use Rattle.store_model.specs.declared.record.Kind.TheVariants.{Source, Replica}
use Rattle.store_model.specs.Held.{LogEnd, Held}
use Rattle.store_model.specs.Stores.{journal_of, first_log, HasLogs, AreLong}
use Rattle.store_model.specs.Laws.{SameSnapshots}
use Rattle.store_model.proofs.Standing.{still_stands, long, there}
use Rattle.commit_store.specs.declared.next.Next.{Next}
use Rattle.commit_store.specs.declared.next.Next.TheVariants.{Nothing}
use Rattle.commit_store.specs.declared.store.Store.{Store}
use Rattle.commit_store.specs.Reserved.{LogEnds}
use Rattle.commit_store.specs.Keeping.{IsKept, AreDurable, HasEnds, StandsFor, Holds, Keeps, MovesTo}

-- ---- files and logs

pub kept_low : (kind : Kind) (f : ℕ) → f < first_log → IsKept kind f
kept_low Source f lt = tt
kept_low Replica f lt = lt

longer : (file : ℕ) (ends : List LogEnd) (image image' : Image) → ((g : ℕ) → file ≤ g → length (image g) ≤ length (image' g)) → AreLong file ends image → AreLong file ends image'
longer file [] image image' grown are = tt
longer file (e ∷ ends) image image' grown are = (omega (arith, are.0, grown file (omega arith)), longer (file + 1) ends image image' (λ g le. grown g (omega arith)) are.1)

-- logs stay where the files that are kept do not shrink
pub logs_stay : (kind : Kind) (ends : List LogEnd) (image image' : Image) → HasEnds kind ends → ((g : ℕ) → IsKept kind g → first_log ≤ g → length (image g) ≤ length (image' g))
    → HasLogs first_log ends image → HasLogs first_log ends image'
logs_stay Source ends image image' own grown has = there first_log ends image' (longer first_log ends image image' (λ g le. grown g tt le) (long first_log ends image has))
logs_stay Replica ends image image' own grown has = subst (λ es. HasLogs first_log es image') (sym own) refl

-- the files that are kept but one are durable still, and so is that one
pub durable_on : (t u : Option Story) (kind : Kind) (j : ℕ) → AreDurable kind t → ((g : ℕ) (c : List ℕ) → g ≢ j → Left u g c → Left t g c) → ((g : ℕ) → g ≢ j → seen u g ≡ seen t g)
    → Only u j (seen u j) → AreDurable kind u
durable_on t u kind j durable others reads only f kept = by (cases_eq f j)
  where
    by : (f ≡ j) ⊎ (f ≡ j → ⊥) → Only u f (seen u f)
    by (inl same) = subst (λ g. Only u g (seen u g)) (sym same) only
    by (inr ne) = λ c left. durable f kept c (others f c ne left) ∙ sym (reads f ne)

module _ (t : Option Story) (store : Store) (held : Held) (holds : Holds t store held) where
  apart : (f : ℕ) → f < 2 → f ≢ store.journal.file
  apart f low same = let at : f ≡ journal_of store.generation = same ∙ holds.file in absurd (omega arith)

  beyond : (f : ℕ) → first_log ≤ f → f ≢ store.journal.file
  beyond f le same = let at : f ≡ journal_of store.generation = same ∙ holds.file in absurd (omega arith)

  -- an image in which the kept files are as they are read, but for the journal
  module _ (image : Image) (same : (g : ℕ) → IsKept store.node g → g ≢ store.journal.file → image g ≡ seen t g) where
    pub snapshots : SameSnapshots (seen t) image
    snapshots = record {
      zeroth = inl (same 0 (kept_low store.node 0 (omega arith)) (apart 0 (omega arith)));
      first = inl (same 1 (kept_low store.node 1 (omega arith)) (apart 1 (omega arith)));
    }

    pub logs_same : (ends : List LogEnd) → HasEnds store.node ends → HasLogs first_log ends (seen t) → HasLogs first_log ends image
    logs_same ends own has = logs_stay store.node ends (seen t) image own (λ g kept le. let e = same g kept (beyond g le) in omega (arith, ap length e)) has

    pub same_stands : StandsFor store held (seen t) → records (image store.journal.file) ≡ records (seen t store.journal.file) → StandsFor store held image
    same_stands stands read = still_stands store.node store.generation (seen t) image held stands snapshots
        (subst (λ f. records (image f) ≡ records (seen t f)) holds.file read) (logs_same held.ends holds.own stands.logs)

  pub others_same : (image : Image) → OthersOf t store.journal.file image → (g : ℕ) → IsKept store.node g → g ≢ store.journal.file → image g ≡ seen t g
  others_same image others g kept ne = holds.durable g kept (image g) (others g ne)

  module _ (u : Option Story) (steps : Steps t u store.journal.file (SameRecords t store.journal.file)) where
    pub images_stay : Always (count t) u (StandsFor store held)
    images_stay = since_told t u (StandsFor store held (seen t)) (count t)
        (λ n image. SameRecords t store.journal.file (image store.journal.file) × OthersOf t store.journal.file image) (λ n image. StandsFor store held image)
        steps.on holds.stands (λ stands n image le ge h. same_stands image (others_same image h.1) stands h.0) steps.images

    -- the store goes on with a journal at its gate
    pub keeps_on : (journal : Journal) → journal.file ≡ store.journal.file → Rests u journal → IfSome t (λ _. records (seen u store.journal.file) ≡ records (seen t store.journal.file))
        → Keeps u (record store { journal = journal }) held
    keeps_on journal named rests read = record {
      holds = record {
        file = named ∙ holds.file;
        durable = durable_on t u store.node store.journal.file holds.durable steps.others steps.reads (subst (λ f. Only u f (seen u f)) named rests.durable);
        stands = if_on t u (StandsFor store held (seen u)) (StandsFor store held (seen u)) steps.on
            (if_both t (StandsFor store held (seen t)) (records (seen u store.journal.file) ≡ records (seen t store.journal.file)) (StandsFor store held (seen u)) holds.stands read
            (λ stands read. same_stands (seen u) (λ g kept ne. steps.reads g ne) stands read)) (λ x. x);
        shows = record { number = holds.shows.number; ends = holds.shows.ends; log = holds.shows.log; pos = holds.shows.pos };
        own = holds.own;
      };
      rests = rests;
    }

    pub keeps_started : {A E : Type 0} (r : Result A E) (journal : Journal) → journal.file ≡ store.journal.file → OnOk r (Rests u journal)
        → OnOk r (IfSome t (λ _. records (seen u store.journal.file) ≡ records (seen t store.journal.file))) → OnOk r (Keeps u (record store { journal = journal }) held)
    keeps_started (Ok x) journal named rests read = keeps_on journal named rests read
    keeps_started (Err e) journal named rests read = tt

    pub keeps_staged : {A E : Type 0} (r : Result A E) (body : List ℕ) → OnOk r (HasStaged u store.journal body)
        → OnOk r (IfSome t (λ _. records (seen u store.journal.file) ≡ records (seen t store.journal.file))) → OnOk r (Keeps u store held)
    keeps_staged (Ok x) body staged read = keeps_on store.journal refl staged.rests read
    keeps_staged (Err e) body staged read = tt

-- ---- calls of no disk

-- a journal at the same gate of the same file rests where the other does
pub rests_too : (t : Option Story) (j k : Journal) → k.file ≡ j.file → k.gate ≡ j.gate → Rests t j → Rests t k
rests_too t j k file gate rests = record {
  durable = subst (λ f. Only t f (seen t f)) (sym file) rests.durable;
  room = omega (arith, gate, rests.room);
  gate = subst (λ f. IfSome t (λ _. IsAtGate (seen t f) k.gate)) (sym file) (subst (λ g. IfSome t (λ _. IsAtGate (seen t j.file) g)) (sym gate) rests.gate);
}

pub keeps_prepared : (t : Option Story) (store : Store) (held : Held) (journal : Journal) (next : Next) → journal.file ≡ store.journal.file → journal.gate ≡ store.journal.gate → Keeps t store held
    → Keeps t (record store { journal = journal; next = next }) held
keeps_prepared t store held journal next file gate keeps =
    let holds = keeps.holds in record {
      holds = record {
        file = file ∙ holds.file;
        durable = holds.durable;
        stands = holds.stands;
        shows = record { number = holds.shows.number; ends = holds.shows.ends; log = holds.shows.log; pos = holds.shows.pos };
        own = holds.own;
      };
      rests = rests_too t store.journal journal file gate keeps.rests;
    }

-- so does a store with other room for ends
pub keeps_roomy : (t : Option Story) (store : Store) (held : Held) (ends : LogEnds) → ends.list ≡ store.ends.list → Keeps t store held → Keeps t (record store { ends = ends }) held
keeps_roomy t store held ends same keeps =
    let holds = keeps.holds in record {
      holds = record {
        file = holds.file;
        durable = holds.durable;
        stands = holds.stands;
        shows = record { number = holds.shows.number; ends = same ∙ holds.shows.ends; log = holds.shows.log; pos = holds.shows.pos };
        own = holds.own;
      };
      rests = keeps.rests;
    }

pub keeps_moved : (t : Option Story) (store : Store) (generation : ℕ) (held : Held) (journal : Journal) → journal.file ≡ journal_of generation → journal.gate ≡ 0 → MovesTo t store generation held
    → Keeps t (record store { generation = generation; journal = journal; next = Nothing }) held
keeps_moved t store generation held journal file gate moves = record {
  holds = record {
    file = file;
    durable = moves.durable;
    stands = moves.stands;
    shows = record { number = moves.shows.number; ends = moves.shows.ends; log = moves.shows.log; pos = moves.shows.pos };
    own = moves.own;
  };
  rests = record {
    durable = subst (λ f. Only t f (seen t f)) (sym file) (moves.durable (journal_of generation) (kept_low store.node (journal_of generation) (omega arith)));
    room = omega (arith, gate);
    gate = subst (λ f. IfSome t (λ _. IsAtGate (seen t f) journal.gate)) (sym file) (subst (λ g. IfSome t (λ _. IsAtGate (seen t (journal_of generation)) g)) (sym gate) moves.closed);
  };
}

-- ---- a journal without records

pub no_records : (o : Opened) × (records [] ≡ Ok o) × (o.gate ≡ 0)
no_records = (none_from 0, records_short [] (omega arith), refl)

pub none_read : (t : Option Story) (f g : ℕ) → g ≡ f → IfSome t (λ _. seen t f ≡ []) → IfSome t (λ _. [] ≡ seen t g)
none_read None f g is none = tt
none_read (Some s) f g is none = sym none ∙ ap (seen (Some s)) (sym is)
