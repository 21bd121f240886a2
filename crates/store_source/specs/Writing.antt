-- What a source has on its disk, and how writing an entry changes it.
use Rattle.std.specs.Prelude.{◌≡◌, ◌⊎◌, ◌≤◌, ℕ, ◌+◌, ◌==◌, if◌then◌else◌, List, [], ◌∷◌, length, map, Option, Some, IfSome}
use Rattle.disk_model.specs.Story.{Story, count, overwritten, seen}
use Rattle.disk_model.specs.Moments.{Always, GoesOn}
use Rattle.session_model.specs.log_entries.declared.entries.Entry.{Entry}
use Rattle.session_model.specs.Machine.{Whole, kept_entry}
use Rattle.session_model.specs.Holding.{EntriesMade}
use Rattle.store_model.specs.declared.record.Kind.TheVariants.{Source}
use Rattle.store_model.specs.Held.{LogEnd, Held, most_logs}
use Rattle.store_model.specs.Stores.{first_log, HasLogs}
use Rattle.store_model.specs.Entries.{writer_at}
use Rattle.commit_store.specs.declared.store.Store.{Store}
use Rattle.commit_store.specs.Keeping.{Keeps}
use Rattle.waiting_entries.specs.declared.waiting.Waiting.{Waiting}
use Rattle.waiting_entries.specs.Waiting.{all_waiting, HaveBodies}
use Rattle.durable_runs.specs.Sources.{Stored, SourceStands, end_of, log_in, held_after, AreWithin}

-- A source's disk has this, durable: its store keeps what is held, and each log has just these bytes up to its end.
pub record IsOn (t : Option Story) (store : Store) (s : Stored) : Type 0 where
  pub node : store.node ≡ Source
  pub keeps : Keeps t store s.held
  pub few : length s.held.ends ≤ most_logs
  pub logs : IfSome t (λ _. (n : ℕ) → log_in n s.held.ends (seen t) ≡ s.logs n)

-- A queue of entries can be written: the entries were made, each leads on from what is held behind those before it, within what a store may
-- have, the queue is just what they leave, and each one's record has a body.
pub record CanWrite (t : Option Story) (store : Store) (s : Stored) (es : List (Entry Whole)) (waiting : List Waiting) : Type 0 where
  pub on : IsOn t store s
  pub made : EntriesMade es
  pub within : AreWithin es s.held
  pub leads : (now : Held) × (held_after es s.held ≡ Some now)
  pub queue : waiting ≡ all_waiting (map kept_entry es) s.held.number (writer_at s.held)
  pub bodies : HaveBodies (map kept_entry es) s.held.number (writer_at s.held)

-- ---- moments

-- calls that leave what the source has: at each moment an image stands for it
pub record StaysOn (t u : Option Story) (s : Stored) : Type 0 where
  pub on : GoesOn t u
  pub images : Always (count t) u (SourceStands s)

-- calls that lead on: at each moment an image stands for what the source had, or for what it has behind them
pub record LeadsTo (t u : Option Story) (s now : Stored) : Type 0 where
  pub on : GoesOn t u
  pub images : Always (count t) u (λ image. SourceStands s image ⊎ SourceStands now image)

-- ---- logs

-- a piece for one log alone
abbrev pub only_for : (log : ℕ) → List ℕ → (n : ℕ) → List ℕ
only_for log piece n = if n == log then piece else []

-- what waits for log n, where the last log has this number
abbrev pub put_by : Waiting → (log n : ℕ) → List ℕ
put_by w log n = if n == log then w.tail else if n == log + 1 then w.head else []

-- the file of each log reads as before, with a piece put at the log's end
abbrev pub PutsBehind : (t u : Option Story) → List LogEnd → (pieces : ℕ → List ℕ) → Type 0
PutsBehind t u ends pieces = IfSome t (λ _. (n : ℕ) → seen u (7 + n) ≡ overwritten (end_of n ends) (pieces n) (seen t (7 + n)))

-- what the logs have already, though nothing says so yet: each is as long as its end behind an entry, and has the entry's bytes
abbrev pub HasGrown : Option Story → Stored → Type 0
HasGrown t now = IfSome t (λ _. HasLogs first_log now.held.ends (seen t) × ((n : ℕ) → log_in n now.held.ends (seen t) ≡ now.logs n))

-- ---- calls

-- how many calls of the disk: two for a piece, none without one
abbrev pub put_calls : List ℕ → ℕ
put_calls [] = 0
put_calls (b ∷ bytes) = 2

-- two for the last log, where there is one, two for a log that begins, and four for the record
abbrev pub calls_of : List ℕ → Waiting → ℕ
calls_of ends w = put_calls ends + put_calls w.head + 4
