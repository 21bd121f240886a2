-- Whose store a record belongs to, and how long its text is.
use Rattle.std.specs.Prelude.{ℕ, ◌≤◌, length}
use Rattle.store_model.specs.declared.record.Kind.{Kind}
use Rattle.store_model.specs.declared.record.Kind.TheVariants.{Source, Replica}
use Rattle.store_model.specs.declared.record.Record.{Record}
use Rattle.store_model.specs.declared.record.Record.TheVariants.{Transaction, Definition, LogStart, TransactionApplied, DefinitionApplied, PlaceMoved}

-- a record of a kind of store
abbrev pub IsOf : Kind → Record → Type 0
IsOf Source (Transaction head cs) = Unit {0}
IsOf Source (Definition head text) = Unit {0}
IsOf Source (LogStart head old_end) = Unit {0}
IsOf Source (TransactionApplied head cs) = ⊥
IsOf Source (DefinitionApplied head text) = ⊥
IsOf Source (PlaceMoved head) = ⊥
IsOf Replica (Transaction head cs) = ⊥
IsOf Replica (Definition head text) = ⊥
IsOf Replica (LogStart head old_end) = ⊥
IsOf Replica (TransactionApplied head cs) = Unit {0}
IsOf Replica (DefinitionApplied head text) = Unit {0}
IsOf Replica (PlaceMoved head) = Unit {0}

-- the text of a record has at most so many bytes
abbrev pub HasTextWithin : (n : ℕ) → Record → Type 0
HasTextWithin n (Transaction head cs) = Unit {0}
HasTextWithin n (Definition head text) = length text ≤ n
HasTextWithin n (LogStart head old_end) = Unit {0}
HasTextWithin n (TransactionApplied head cs) = Unit {0}
HasTextWithin n (DefinitionApplied head text) = length text ≤ n
HasTextWithin n (PlaceMoved head) = Unit {0}
