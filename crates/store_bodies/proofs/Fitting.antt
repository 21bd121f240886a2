-- A record of either kind of store has a form.
use Rattle.store_model.specs.declared.record.Kind.{Kind}
use Rattle.store_model.specs.declared.record.Kind.TheVariants.{Source, Replica}
use Rattle.store_model.specs.declared.record.Record.{Record}
use Rattle.store_model.specs.declared.record.Record.TheVariants.{Transaction, Definition, LogStart, TransactionApplied, DefinitionApplied, PlaceMoved}
use Rattle.store_model.specs.Bodies.{IsRecord}
use Rattle.store_bodies.specs.Forms.{HasForm}

pub has_form : (kind : Kind) (r : Record) → IsRecord kind r → HasForm r
has_form Source (Transaction head cs) is = is.1
has_form Source (Definition head text) is = is.1
has_form Source (LogStart head old_end) is = tt
has_form Source (TransactionApplied head cs) is = absurd is
has_form Source (DefinitionApplied head text) is = absurd is
has_form Source (PlaceMoved head) is = tt
has_form Replica (Transaction head cs) is = absurd is
has_form Replica (Definition head text) is = absurd is
has_form Replica (LogStart head old_end) is = tt
has_form Replica (TransactionApplied head cs) is = is.1
has_form Replica (DefinitionApplied head text) is = is.1
has_form Replica (PlaceMoved head) is = tt
