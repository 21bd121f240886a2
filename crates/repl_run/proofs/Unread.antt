-- Where memory was short before the words were read, nothing was read, written or touched.
use Rattle.std.proofs.Common.{◌≡◌, ◌⊎◌, ℕ, List, [], Option, Some, None, inl, inr, refl, arith}
use Rattle.answer_text.specs.declared.report.Report.{Report}
use Rattle.answer_text.specs.declared.status.Status.TheVariants as status
use Rattle.disk_model.specs.Moments.{IsSettled}
use Rattle.disk_model.specs.Story.{Story}
use Rattle.run_streams.specs.Read.{TakesUpToLimit}
use Rattle.run_streams.specs.Reports.{IsEmpty}
use Rattle.run_streams.specs.Wrote.{WroteFront}
use Rattle.run_streams.proofs.Writing.{wrote_nothing}
use Rattle.script_run.specs.run_stores.durable_runs.Laws.{SourcesLast}
use Rattle.script_run.proofs.of_run_stores.of_durable_runs.States.{carries_begins, carries_images}
use Rattle.script_run.specs.Disks.{disks}
use Rattle.script_run.specs.Ran.{EndsBy}
use Rattle.script_run.proofs.Opened.{idle_survives, none_begun, replica_idle}
use Rattle.replay_log.specs.Ends.{ReplayEnds, Survives}
use Rattle.print_log.specs.Ends.{PrintEnds, PrintedFront}
use Rattle.gen_script.specs.Ends.{GenEnds}
use Rattle.store_model.specs.declared.record.Kind.{Kind}
use Rattle.dump_store.specs.Ends.{DumpEnds}

nothing_written : (before : Option (List ℕ)) (whole : List ℕ) → WroteFront before before whole
nothing_written before whole = record { front = []; rest = whole; split = refl; wrote = wrote_nothing before }

pub not_taken : (input : Option (List ℕ)) → TakesUpToLimit input input
not_taken None = record { count = 0; within = omega arith; rest = refl }
not_taken (Some bytes) = record { count = 0; within = omega arith; rest = refl }

pub not_run : SourcesLast → (script left : Option (List ℕ)) (t r : Option Story) (report : Report) (before : Option (List ℕ)) → IsEmpty report → IsSettled t → IsSettled r
    → EndsBy status.NoMemory script left (disks t r) (disks t r) report before before
not_run law script left t r report before empty settled rep_settled =
    inl (none_begun (disks t r) (disks t r) report before empty.marks empty.stands (idle_survives law t settled) (replica_idle r rep_settled))

-- what a replica's disk held stays there
idle : (t : Option Story) → IsSettled t → Survives (λ held now. now ≡ held) t t []
idle t settled held holds fits = carries_images (λ now. now ≡ held) t t held [] (carries_begins (λ now. now ≡ held) t held settled holds refl).carries

pub not_replayed : (input : Option (List ℕ)) (t : Option Story) (report : Report) (before : Option (List ℕ)) → IsEmpty report → IsSettled t
    → ReplayEnds status.NoMemory input input t t report before before
not_replayed input t report before empty settled =
    inl (record { unread = refl; written = refl; now = empty.stands; marks = empty.marks; survives = idle t settled })

printed_front : (input before : Option (List ℕ)) → PrintedFront input before before
printed_front None before = record { bytes = []; input_is = tt; front = nothing_written before _ }
printed_front (Some bytes) before = record { bytes = bytes; input_is = refl; front = nothing_written before _ }

pub not_printed : (input left before : Option (List ℕ)) → PrintEnds status.NoMemory input left before before
not_printed input left before = printed_front input before

pub not_made : (n : ℕ) (before : Option (List ℕ)) → GenEnds status.NoMemory n before before
not_made n before = nothing_written before _

-- words that ask for nothing are bad, or were not read
pub are_bad : (status.BadWords ≡ status.BadWords) ⊎ (status.BadWords ≡ status.NoMemory)
are_bad = inl refl

pub are_not_read : (status.NoMemory ≡ status.BadWords) ⊎ (status.NoMemory ≡ status.NoMemory)
are_not_read = inr refl

pub not_dumped : (kind : Kind) (told : Option Story) (before : Option (List ℕ)) → DumpEnds status.NoMemory kind told before before
not_dumped kind told before = inr refl
