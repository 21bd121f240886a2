-- What is to be kept of what a replica does.
use Rattle.std.specs.Prelude.{◌≡◌, ◌<◌, ◌^◌, ℕ, List, length, Some}
use Rattle.commit_store.specs.Next.{prepared_of}
use Rattle.commit_store.specs.declared.prepared.Prepared.{Prepared}
use Rattle.commit_store.specs.store_model.Bodies.{IsRecord, body_of}
use Rattle.commit_store.specs.store_model.Held.{Held, applied, carried_out, next_applied}
use Rattle.commit_store.specs.store_model.declared.record.Head.{Head}
use Rattle.commit_store.specs.store_model.declared.record.Kind.TheVariants as kind
use Rattle.commit_store.specs.store_model.declared.record.Record.{Record}
use Rattle.relay_log.specs.log_model.Groups.{Form, start, next_log, ddl, txn}
use Rattle.stmt_apply.specs.prog_run.prog_work.Contents.{Contents, base_of}
use Rattle.replica_model.specs.Replica.{Replica}
use Rattle.relay_log.specs.declared.place.Walk.{Walk}
use Rattle.replica_node.specs.Kept.{Kept, held_of, replica_of}
use Rattle.replica_node.specs.Steps.{passed_to}
use Rattle.replica_node.specs.declared.told.Step.{Step}
use Rattle.replica_node.specs.declared.told.Step.TheVariants.{Over, Moved, Carried, Waits, Stopped as StoppedBy}

-- a record as it is written, which has a body in a replica's store, whose length four bytes say
pub record IsMadeOf (p : Prepared) (r : Record) : Type 0 where
  pub made : p ≡ prepared_of r
  pub form : IsRecord kind.Replica r
  pub fits : length (body_of r) < 2 ^ 32

-- the record of a step leads from what is held before it to what is held behind it
pub record RecordLeads (p : Prepared) (held now : Held) : Type 0 where
  pub of : Record
  pub is : IsMadeOf p of
  pub makes : applied of held ≡ Some now

-- What a step leaves: the record of what it did, which counts what was carried out, and all as it was where it did nothing.
abbrev pub Leaves : Step → (before after : Replica) → Type 0
Leaves (Over ahead) before after = after ≡ before
Leaves (Moved p) before after = RecordLeads p (held_of before) (held_of after) × (after.number ≡ before.number)
Leaves (Carried p) before after = RecordLeads p (held_of before) (held_of after) × (after.number ≡ next_applied before.number)
Leaves Waits before after = after ≡ before
Leaves (StoppedBy stop) before after = after ≡ before

-- the end of a log leads behind it
abbrev pub MovesOn : Step → (before after : Kept) → Walk → Type 0
MovesOn (Moved p) before after to = (after ≡ record before { relay = passed_to to before.relay }) × RecordLeads p (held_of (replica_of before)) (held_of (replica_of after))
MovesOn (Over ahead) before after to = ⊥
MovesOn (Carried p) before after to = ⊥
MovesOn Waits before after to = ⊥
MovesOn (StoppedBy stop) before after to = ⊥

-- ---- a group carried out

-- a group that was carried out has its record, which leads on wherever its head is the next one
abbrev pub IsRecorded : Step → Head → (before after : Contents) → Type 0
IsRecorded (Carried p) head before after =
    (held : Held) → held.base ≡ base_of before → head.number ≡ next_applied held.number → RecordLeads p held (carried_out head held (base_of after))
IsRecorded (Over ahead) head before after = Unit {0}
IsRecorded (Moved p) head before after = Unit {0}
IsRecorded Waits head before after = Unit {0}
IsRecorded (StoppedBy stop) head before after = Unit {0}

-- a group that is a transaction
abbrev pub IsTransaction : Form → Type 0
IsTransaction start = ⊥
IsTransaction (next_log next) = ⊥
IsTransaction (ddl s) = ⊥
IsTransaction (txn opening items number) = Unit {0}

-- a group that is a definition with a text
abbrev pub IsDefinition : (text : List ℕ) → Form → Type 0
IsDefinition text start = ⊥
IsDefinition text (next_log next) = ⊥
IsDefinition text (ddl s) = s.query.text ≡ text
IsDefinition text (txn opening items number) = ⊥
