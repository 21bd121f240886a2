-- A disk on its way to the next generation, and there.
use Rattle.std.specs.Prelude.{◌≡◌, ◌<◌, ◌^◌, ℕ, ◌+◌, List, length, Option, Some, IfSome}
use Rattle.disk_model.specs.Story.{Story, seen}
use Rattle.gate_journal.specs.Journal.{IsAtGate}
use Rattle.store_model.specs.declared.record.Kind.{Kind}
use Rattle.store_model.specs.Held.{Held}
use Rattle.store_model.specs.Snapshots.{snapshot_body, snapshot_of}
use Rattle.store_model.specs.Stores.{journal_of, Stands}
use Rattle.commit_store.specs.Keeping.{AreDurable, HasEnds}
use Rattle.checkpoint_model.specs.Pieces.{snapshot_framed}

-- what is held is read again from a snapshot of it
abbrev pub IsReadAgain : Kind → (generation : ℕ) → Held → Type 0
IsReadAgain kind generation held = snapshot_of kind (snapshot_body kind generation held) ≡ Some (generation, held)

-- A disk that stands for what is held at a generation, and a snapshot of it for the next one, as its file has it behind the gate.
pub record IsToWork (t : Option Story) (kind : Kind) (generation : ℕ) (framed : List ℕ) (held : Held) : Type 0 where
  pub durable : AreDurable kind t
  pub own : HasEnds kind held.ends
  pub stands : IfSome t (λ _. Stands kind generation (seen t) held)
  pub is : framed ≡ snapshot_framed (snapshot_body kind (generation + 1) held)
  pub fits : length (snapshot_body kind (generation + 1) held) < 2 ^ 64
  pub again : IfSome t (λ _. IsReadAgain kind (generation + 1) held)

-- A disk that stands for what is held at a generation whose journal has no record.
pub record IsNewest (t : Option Story) (kind : Kind) (generation : ℕ) (held : Held) : Type 0 where
  pub durable : AreDurable kind t
  pub stands : IfSome t (λ _. Stands kind generation (seen t) held)
  pub closed : IfSome t (λ _. IsAtGate (seen t (journal_of generation)) 0)
