use Rattle.proc_model.proofs.Leading.{led_listed, exchanges_lead}
use Rattle.proc_model.proofs.laws.talks_are_lists.Goals as goal

pub returns-clause-listed : goal.returns-clause-listed
returns-clause-listed g c = led_listed g.R.Ruled.rules

pub returns-clause-leads : goal.returns-clause-leads
returns-clause-leads g c = exchanges_lead g.R.Ruled.rules
