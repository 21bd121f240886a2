-- A replica's store behind its source's: what it owes.
use Rattle.std.specs.Prelude.{◌≡◌, ◌≤◌, ℕ, ◌==◌, if◌then◌else◌, List, [], ◌∷◌, length, map, take, drop, Some}
use Rattle.session_model.specs.log_entries.declared.entries.Entry.{Entry}
use Rattle.session_model.specs.log_entries.Entries.{after}
use Rattle.session_model.specs.log_model.Log.{LogPlace, head, counted_all, written_to}
use Rattle.session_model.specs.Machine.{Whole, kept_entry, nowhere}
use Rattle.session_model.specs.Holding.{EntriesMade, changes_of, define}
use Rattle.store_model.specs.Held.{LogEnd, Held, first_read, nothing_held}
use Rattle.store_model.specs.Entries.{writer_at}
use Rattle.waiting_entries.specs.Added.{added_to}
use Rattle.durable_runs.specs.Sources.{Stored}

-- a source that has nothing
abbrev pub nothing_stored : Stored
nothing_stored = record { held = nothing_held; logs = λ n. [] }

-- the place is in a log that the source has, or it is that of the first event, where the source has no log
abbrev pub IsPlaceIn : LogPlace → List LogEnd → Type 0
IsPlaceIn place [] = place ≡ first_read
IsPlaceIn place (e ∷ ends) = (1 ≤ place.log) × (place.log ≤ length (e ∷ ends))

-- where a writer stood whose next entry is read from a place on: the first event of a log stands for behind its head
abbrev pub writer_of : LogPlace → List LogEnd → LogPlace
writer_of place [] = nowhere
writer_of place (e ∷ ends) = if place.pos == 4 then record { log = place.log; pos = 123 } else place

-- a log that is there begins with a head, of any stamp and server
abbrev pub HasHead : LogPlace → List LogEnd → (ℕ → List ℕ) → Type 0
HasHead place [] logs = Unit {0}
HasHead place (e ∷ ends) logs = (stamp : ℕ) × ((server : ℕ) × (take 123 (logs place.log) ≡ head stamp server))

-- what log n has from a place on
abbrev pub from_place : (n : ℕ) → LogPlace → (ℕ → List ℕ) → List ℕ
from_place n p logs = if n == p.log then drop p.pos (logs n) else logs n

-- The replica's store is behind the source's by the entries that it owes: they make the source's base of its own, lead its number to the
-- source's, and are just what the source's logs have from its place on, to their ends.
pub record Behind (source : Stored) (replica : Held) (owed : List (Entry Whole)) : Type 0 where
  pub made : EntriesMade owed
  pub base : after changes_of define owed replica.base ≡ Some source.held.base
  pub number : counted_all (map kept_entry owed) replica.number ≡ source.held.number
  pub place : IsPlaceIn replica.place source.held.ends
  pub begins : HasHead replica.place source.held.ends source.logs
  pub ends : written_to (map kept_entry owed) replica.number (writer_of replica.place source.held.ends) ≡ writer_at source.held
  pub logs : (n : ℕ) → (writer_of replica.place source.held.ends).log ≤ n
      → from_place n (writer_of replica.place source.held.ends) source.logs
      ≡ added_to n (map kept_entry owed) replica.number (writer_of replica.place source.held.ends)
