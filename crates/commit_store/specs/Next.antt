-- What a store's readers give behind a record.
use Rattle.std.specs.Prelude.{ℕ, ◌-◌, ◌<◌, List, [], ◌∷◌, ◌++◌}
use Rattle.gate_journal.specs.Records.{framed}
use Rattle.store_model.specs.declared.record.Record.{Record}
use Rattle.store_model.specs.declared.record.Record.TheVariants.{Transaction, Definition, LogStart, TransactionApplied, DefinitionApplied, PlaceMoved}
use Rattle.store_model.specs.Bodies.{body_of}
use Rattle.commit_store.specs.declared.next.Next.{Next}
use Rattle.commit_store.specs.declared.next.Next.TheVariants.{Nothing, Committed, LogBegun, CarriedOut}
use Rattle.commit_store.specs.declared.prepared.Prepared.{Prepared}
use Rattle.commit_store.specs.declared.store.Store.{Store}
use Rattle.commit_store.specs.Reserved.{LogEnds}

-- the last log ends elsewhere
abbrev pub with_last : (pos : ℕ) → List ℕ → List ℕ
with_last pos [] = []
with_last pos (e ∷ []) = pos ∷ []
with_last pos (e ∷ f ∷ ends) = e ∷ with_last pos (f ∷ ends)

-- what a record sets
abbrev pub next_of : Record → Next
next_of (Transaction head cs) = Committed head
next_of (Definition head text) = Committed head
next_of (LogStart head old_end) = LogBegun old_end head.pos
next_of (TransactionApplied head cs) = CarriedOut head
next_of (DefinitionApplied head text) = CarriedOut head
next_of (PlaceMoved head) = CarriedOut head

-- a record as it is written, and what it sets
abbrev pub prepared_of : Record → Prepared
prepared_of r = record { ready = framed (body_of r); next = next_of r }

-- there is room for what is set: for an end more, where a log begins
abbrev pub HasRoom : Next → LogEnds → Type 0
HasRoom Nothing ends = Unit {0}
HasRoom (Committed head) ends = Unit {0}
HasRoom (LogBegun old_end pos) ends = 0 < ends.room
HasRoom (CarriedOut head) ends = Unit {0}

-- a store whose readers give what was set, with nothing prepared
abbrev pub passed : Next → Store → Store
passed Nothing store = record store { next = Nothing }
passed (Committed head) store = record store { number = head.number; ends = record store.ends { list = with_last head.pos store.ends.list }; next = Nothing }
passed (LogBegun old_end pos) store =
    record store { ends = record { list = with_last old_end store.ends.list ++ pos ∷ []; room = store.ends.room - 1 }; next = Nothing }
passed (CarriedOut head) store = record store { number = head.number; log = head.log; pos = head.pos; next = Nothing }
