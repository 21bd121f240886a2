-- What of a record needs a form to be put: its changes, or its text.
use Rattle.std.specs.Prelude.{◌<◌, ◌^◌, length}
use Rattle.store_model.specs.declared.record.Record.{Record}
use Rattle.store_model.specs.declared.record.Record.TheVariants.{Transaction, Definition, LogStart, TransactionApplied, DefinitionApplied, PlaceMoved}
use Rattle.store_model.specs.Bodies.{AreChanges}

-- changes, or a text, have the form of a body's
abbrev pub HasForm : Record → Type 0
HasForm (Transaction head cs) = AreChanges cs
HasForm (Definition head text) = length text < 2 ^ 32
HasForm (LogStart head old_end) = Unit {0}
HasForm (TransactionApplied head cs) = AreChanges cs
HasForm (DefinitionApplied head text) = length text < 2 ^ 32
HasForm (PlaceMoved head) = Unit {0}
