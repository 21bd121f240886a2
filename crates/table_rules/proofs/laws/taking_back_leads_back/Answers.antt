use Rattle.table_rules.proofs.Leading.{leads_back}
use Rattle.table_rules.proofs.laws.taking_back_leads_back.Goals as goal

pub returns-clause-back : goal.returns-clause-back
returns-clause-back c = leads_back
