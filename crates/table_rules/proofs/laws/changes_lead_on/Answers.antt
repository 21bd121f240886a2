use Rattle.table_rules.proofs.Leading.{leads_nowhere, leads_on, one_change_leads, no_change_leads}
use Rattle.table_rules.proofs.laws.changes_lead_on.Goals as goal

pub returns-clause-nowhere : goal.returns-clause-nowhere
returns-clause-nowhere c = leads_nowhere

pub returns-clause-one : goal.returns-clause-one
returns-clause-one c = one_change_leads

pub returns-clause-on : goal.returns-clause-on
returns-clause-on c = leads_on

pub returns-clause-none : goal.returns-clause-none
returns-clause-none c = no_change_leads
