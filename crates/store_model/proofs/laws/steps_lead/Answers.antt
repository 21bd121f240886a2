use Rattle.store_model.proofs.Leading.{changes_lead, definition_leads, place_leads}
use Rattle.store_model.proofs.laws.steps_lead.Goals as goal

pub returns : goal.returns
returns c = record { changes = changes_lead; definitions = definition_leads; places = place_leads }
