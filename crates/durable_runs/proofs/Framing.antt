-- What the images of a source's commit stand for.
use Rattle.std.proofs.Common.{◌≡◌, ℕ, List, Some, ◌∙◌}
use Rattle.disk_model.specs.Story.{Image}
use Rattle.gate_journal.specs.Records.{records, with_last}
use Rattle.session_model.specs.log_entries.declared.entries.Entry.{Entry}
use Rattle.session_model.specs.Machine.{Whole, kept_entry}
use Rattle.session_model.specs.Holding.{EntryMade}
use Rattle.store_model.specs.declared.record.Kind.TheVariants.{Source}
use Rattle.store_model.specs.Bodies.{record_of}
use Rattle.store_model.specs.Stores.{journal_of, first_log, HasLogs, Stands}
use Rattle.store_model.specs.Entries.{writer_at, record_of_entry, IsWithin}
use Rattle.store_model.specs.Laws.{SameSnapshots}
use Rattle.store_model.proofs.Standing.{together, still_stands, one_more_stands}
use Rattle.durable_runs.specs.Sources.{Stored, SourceStands, log_in, entry_stored}
use Rattle.durable_runs.proofs.Storing.{held_is, record_one}

pub stands_same : (generation : ℕ) (s : Stored) (image image' : Image) → Stands Source generation image s.held → SourceStands s image → SameSnapshots image image'
    → records (image' (journal_of generation)) ≡ records (image (journal_of generation)) → HasLogs first_log s.held.ends image'
    → ((n : ℕ) → log_in n s.held.ends image' ≡ log_in n s.held.ends image) → SourceStands s image'
stands_same generation s image image' stands old same read logs bytes = record {
  held = together Source image' s.held generation (still_stands Source generation image image' s.held stands same read logs);
  logs = λ n. bytes n ∙ old.logs n;
}

pub stands_more : (generation : ℕ) (s now : Stored) (e : Entry Whole) (body : List ℕ) (image image' : Image) → Stands Source generation image s.held
    → entry_stored e s ≡ Some now → EntryMade e → IsWithin (kept_entry e) s.held → SameSnapshots image image'
    → records (image' (journal_of generation)) ≡ with_last body (records (image (journal_of generation)))
    → record_of Source body ≡ Some (record_of_entry (kept_entry e) s.held.number (writer_at s.held)) → HasLogs first_log now.held.ends image'
    → ((n : ℕ) → log_in n now.held.ends image' ≡ now.logs n) → SourceStands now image'
stands_more generation s now e body image image' stands made is within same read reads logs bytes = record {
  held = together Source image' now.held generation
      (one_more_stands Source generation image image' s.held stands same body (record_of_entry (kept_entry e) s.held.number (writer_at s.held)) now.held read reads
      (record_one e s.held now.held is within (held_is e s now made)) logs);
  logs = bytes;
}
