use Rattle.store_model.proofs.Leading.{entry_leads, writer_goes_on}
use Rattle.store_model.proofs.laws.entries_lead.Goals as goal

pub returns-clause-records : goal.returns-clause-records
returns-clause-records g c kept changes_of define e held now after says within = entry_leads kept changes_of define held now e after says within

pub returns-clause-places : goal.returns-clause-places
returns-clause-places g c e held has = writer_goes_on e held has
