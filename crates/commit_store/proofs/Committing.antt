-- What a commit leaves, before its gate is open and behind that.
use Rattle.std.proofs.Common.{◌≡◌, ◌≢◌, inl, inr, ℕ, Option, refl, sym, ◌∙◌, subst}
use Rattle.std.specs.Prelude.{IfSome}
use Rattle.disk_model.specs.Story.{Image, Story, count, seen}
use Rattle.disk_model.specs.Moments.{Always, Only, OthersOf}
use Rattle.disk_model.specs.Claims.{Steps}
use Rattle.disk_model.proofs.Laws.{if_on, if_both}
use Rattle.disk_model.proofs.Putting.{since_told}
use Rattle.gate_journal.specs.declared.journal.Journal.{Journal}
use Rattle.gate_journal.specs.Records.{records, with_last}
use Rattle.gate_journal.specs.Journal.{Rests, MaybeOneMore}
use Rattle.store_model.specs.declared.record.Record.{Record as AnyRecord}
use Rattle.store_model.specs.Bodies.{body_of}
use Rattle.store_model.specs.Held.{Held}
use Rattle.store_model.specs.Stores.{first_log, HasLogs, journal_of}
use Rattle.store_model.proofs.Standing.{one_more_stands}
use Rattle.store_model.proofs.Again.{body_again}
use Rattle.commit_store.specs.declared.next.Next.{Next}
use Rattle.commit_store.specs.declared.next.Next.TheVariants.{Nothing, Committed, LogBegun, CarriedOut}
use Rattle.commit_store.specs.declared.store.Store.{Store}
use Rattle.commit_store.specs.Next.{next_of, passed}
use Rattle.commit_store.specs.Keeping.{IsKept, AreDurable, HasEnds, Shows, StandsFor, Either, Keeps, LeadsOn}
use Rattle.commit_store.proofs.Setting.{passed_shows, own_after}
use Rattle.commit_store.proofs.Standing.{durable_on, snapshots, logs_same, same_stands, others_same}

-- what is kept goes on to what was set
keeps_passed : (u : Option Story) (n : Next) (store : Store) (now : Held) → store.journal.file ≡ journal_of store.generation → AreDurable store.node u → IfSome u (λ _. StandsFor store now (seen u))
    → Shows (passed n store) now → HasEnds store.node now.ends → Rests u store.journal → Keeps u (passed n store) now
keeps_passed u Nothing store now file durable stands shows own rests = record { holds = record { file = file; durable = durable; stands = stands; shows = shows; own = own }; rests = rests }
keeps_passed u (Committed head) store now file durable stands shows own rests = record { holds = record { file = file; durable = durable; stands = stands; shows = shows; own = own }; rests = rests }
keeps_passed u (LogBegun old_end pos) store now file durable stands shows own rests = record { holds = record { file = file; durable = durable; stands = stands; shows = shows; own = own }; rests = rests }
keeps_passed u (CarriedOut head) store now file durable stands shows own rests = record { holds = record { file = file; durable = durable; stands = stands; shows = shows; own = own }; rests = rests }

-- the journal stays as it is
pub passed_journal : (n : Next) (store : Store) → (passed n store).journal ≡ store.journal
passed_journal Nothing store = refl
passed_journal (Committed head) store = refl
passed_journal (LogBegun old_end pos) store = refl
passed_journal (CarriedOut head) store = refl

module _ (t : Option Story) (store : Store) (r : AnyRecord) (held now : Held) (leads : LeadsOn t store r held now) where
  own : HasEnds store.node now.ends
  own = own_after store.node held now r leads.ready.form leads.keeps.holds.own leads.makes

  abbrev There : Type 0
  There = StandsFor store held (seen t) × HasLogs first_log now.ends (seen t)

  there : IfSome t (λ _. There)
  there = if_both t (StandsFor store held (seen t)) (HasLogs first_log now.ends (seen t)) There leads.keeps.holds.stands leads.logs (λ stands logs. (stands, logs))

  -- an image with one record more
  more_stands : (image : Image) → ((g : ℕ) → IsKept store.node g → g ≢ store.journal.file → image g ≡ seen t g) → There
      → records (image store.journal.file) ≡ with_last (body_of r) (records (seen t store.journal.file)) → StandsFor store now image
  more_stands image same here read =
      let holds = leads.keeps.holds in
      one_more_stands store.node store.generation (seen t) image held here.0 (snapshots t store held holds image same) (body_of r) r now
      (subst (λ f. records (image f) ≡ with_last (body_of r) (records (seen t f))) holds.file read) (body_again store.node r leads.ready.form) leads.makes
      (logs_same t store held holds image same now.ends own here.1)

  either : (image : Image) → There → MaybeOneMore t store.journal.file (body_of r) (image store.journal.file) → OthersOf t store.journal.file image → Either store held now image
  either image here (inl same) others = inl (same_stands t store held leads.keeps.holds image (others_same t store held leads.keeps.holds image others) here.0 same)
  either image here (inr more) others = inr (more_stands image (others_same t store held leads.keeps.holds image others) here more)

  module _ (u : Option Story) (steps : Steps t u store.journal.file (MaybeOneMore t store.journal.file (body_of r))) where
    pub commit_images : Always (count t) u (Either store held now)
    commit_images = since_told t u There (count t)
        (λ n image. MaybeOneMore t store.journal.file (body_of r) (image store.journal.file) × OthersOf t store.journal.file image) (λ n image. Either store held now image)
        steps.on there (λ here n image le ge h. either image here h.0 h.1) steps.images

    pub commit_keeps : (journal : Journal) → journal.file ≡ store.journal.file → Rests u journal
        → IfSome t (λ _. records (seen u store.journal.file) ≡ with_last (body_of r) (records (seen t store.journal.file)))
        → Keeps u (passed store.next (record store { journal = journal })) now
    commit_keeps journal named rests read =
        let holds = leads.keeps.holds in
        subst (λ (n : Next). Keeps u (passed n (record store { journal = journal })) now) (sym leads.ready.next)
        (keeps_passed u (next_of r) (record store { journal = journal }) now (named ∙ holds.file)
        (durable_on t u store.node store.journal.file holds.durable steps.others steps.reads (subst (λ f. Only u f (seen u f)) named rests.durable))
        (if_on t u (StandsFor store now (seen u)) (StandsFor store now (seen u)) steps.on
        (if_both t There (records (seen u store.journal.file) ≡ with_last (body_of r) (records (seen t store.journal.file))) (StandsFor store now (seen u)) there read
        (λ here read. more_stands (seen u) (λ g kept ne. steps.reads g ne) here read)) (λ x. x))
        (passed_shows (record store { journal = journal }) held now (record { number = holds.shows.number; ends = holds.shows.ends; log = holds.shows.log; pos = holds.shows.pos }) r leads.makes)
        own rests)
