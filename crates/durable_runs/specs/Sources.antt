-- What a source's store has, what its entries make of it, and what may stand on its disk.
use Rattle.std.specs.Prelude.{◌≡◌, ◌≤◌, ℕ, zero, suc, ◌+◌, List, [], ◌∷◌, ◌++◌, length, map, take, Option, Some, Ok}
use Rattle.std.specs.Option.{option_map, option_and_then}
use Rattle.answer_text.specs.declared.report.Mark.{Mark}
use Rattle.disk_model.specs.Story.{Image, Story}
use Rattle.session_model.specs.log_entries.declared.entries.Item.{Item}
use Rattle.session_model.specs.log_entries.declared.entries.Entry.{Entry}
use Rattle.session_model.specs.log_entries.Entries.{after}
use Rattle.session_model.specs.log_model.Log.{LogPlace, behind, counted, counted_all}
use Rattle.session_model.specs.Machine.{Whole, kept_of, kept_entry}
use Rattle.session_model.specs.Holding.{changes_of, define}
use Rattle.store_model.specs.declared.record.Kind.TheVariants.{Source}
use Rattle.store_model.specs.declared.record.Record.{Record}
use Rattle.store_model.specs.Held.{LogEnd, Held, applied}
use Rattle.store_model.specs.Stores.{held_by}
use Rattle.store_model.specs.Entries.{writer_at, record_of_entry, IsWithin, held_after as held_behind_entries}
use Rattle.waiting_entries.specs.Added.{added, added_to}
use Rattle.durable_runs.specs.Marks.{named, source_mark}
use Rattle.durable_runs.specs.Runs.{Side, Runs, Lasts}

-- ---- what is held

-- what a source's store holds behind entries, None where one cannot be made
abbrev pub held_after : List (Entry Whole) → Held → Option Held
held_after es held = held_behind_entries kept_of changes_of define es held

-- the records that a source writes for entries, behind so many transactions and at a place
abbrev pub records_of : List (Entry Item) → (number : ℕ) → LogPlace → List Record
records_of [] number p = []
records_of (e ∷ es) number p = record_of_entry e number p ∷ records_of es (counted e number) (behind e number p)

-- what records make of a store, one after the other
abbrev pub records_applied : List Record → Held → Option Held
records_applied [] held = Some held
records_applied (r ∷ rs) held = option_and_then (records_applied rs) (applied r held)

-- each entry is within what a source's store may have where it comes
abbrev pub AreWithin : List (Entry Whole) → Held → Type 0
AreWithin [] held = Unit {0}
AreWithin (e ∷ es) held = IsWithin (kept_entry e) held × ((now : Held) → held_after (e ∷ []) held ≡ Some now → AreWithin es now)

-- ---- logs

-- where log n ends, the first is log 1; 0 where there is none
abbrev pub end_of : (n : ℕ) → List LogEnd → ℕ
end_of n [] = 0
end_of zero (e ∷ ends) = 0
end_of (suc zero) (e ∷ ends) = e.pos
end_of (suc (suc n)) (e ∷ ends) = end_of (suc n) ends

-- what an image has of log n up to its end; the logs stand from file 8 on
abbrev pub log_in : (n : ℕ) → List LogEnd → Image → List ℕ
log_in n ends image = take (end_of n ends) (image (7 + n))

-- ---- a store with its logs

-- What a source's store has: what it holds, and the bytes of each log up to its end.
pub record Stored : Type 0 where
  pub held : Held
  pub logs : ℕ → List ℕ

-- as an image has it that holds this
abbrev pub stored_in : Held → Image → Stored
stored_in held image = record { held = held; logs = λ n. log_in n held.ends image }

abbrev pub stored_behind : Entry Whole → Stored → Held → Stored
stored_behind e s held = record { held = held; logs = λ n. s.logs n ++ added n (kept_entry e) s.held.number (writer_at s.held) }

-- what it has behind an entry, None where that cannot be made
abbrev pub entry_stored : Entry Whole → Stored → Option Stored
entry_stored e s = option_map (stored_behind e s) (held_after (e ∷ []) s.held)

-- An image stands for it: it holds this, and its logs have these bytes up to their ends.
pub record SourceStands (s : Stored) (image : Image) : Type 0 where
  pub held : held_by Source image ≡ Ok s.held
  pub logs : (n : ℕ) → log_in n s.held.ends image ≡ s.logs n

abbrev pub source_side : Side Stored (Entry Whole)
source_side = record { step = entry_stored; number = λ s. s.held.number; Stands = SourceStands }

-- a run of a source over entries, with the marks that it pushed behind the old ones
abbrev pub SourceRuns : (t u : Option Story) → Stored → List (Entry Whole) → (old new : List Mark) → Type 0
SourceRuns t u s es old new = Runs source_side t u s es (map source_mark old) (map source_mark new)

abbrev pub SourceLasts : (t u : Option Story) → Stored → List (Entry Whole) → List Mark → Type 0
SourceLasts t u s es marks = Lasts source_side t u s es (map source_mark marks)

-- ---- what a run promises of an image

-- When n calls had returned, an image of the source's disk holds what its store held behind the first of the entries: that base and that
-- number, and in each log, up to its end, what stood there at the start and then what those entries put there. Its number is no less
-- than any that a mark of up to n calls names.
pub record SourceImage (before : Stored) (entries : List (Entry Whole)) (marks : List Mark) (n : ℕ) (image : Image) : Type 0 where
  pub first : ℕ
  pub within : first ≤ length entries
  pub now : Held
  pub reached : held_after (take first entries) before.held ≡ Some now
  pub stands : held_by Source image ≡ Ok now
  pub base : after changes_of define (take first entries) before.held.base ≡ Some now.base
  pub number : now.number ≡ counted_all (map kept_entry (take first entries)) before.held.number
  pub logs : (log : ℕ) → log_in log now.ends image
      ≡ before.logs log ++ added_to log (map kept_entry (take first entries)) before.held.number (writer_at before.held)
  pub holds : named before.held.number (map source_mark marks) n ≤ now.number
