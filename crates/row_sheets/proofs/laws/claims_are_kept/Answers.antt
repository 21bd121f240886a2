use Rattle.row_sheets.proofs.Claims.{entry_claims_nothing, row_taken_out, row_put, nothing_claimed, values_kept, no_new_claim}
use Rattle.row_sheets.proofs.laws.claims_are_kept.Goals as goal

pub returns-clause-start : goal.returns-clause-start
returns-clause-start c = nothing_claimed

pub returns-clause-entry : goal.returns-clause-entry
returns-clause-entry c = entry_claims_nothing

pub returns-clause-out : goal.returns-clause-out
returns-clause-out c = row_taken_out

pub returns-clause-put : goal.returns-clause-put
returns-clause-put c = row_put

pub returns-clause-kept : goal.returns-clause-kept
returns-clause-kept c = values_kept

pub returns-clause-same : goal.returns-clause-same
returns-clause-same c = no_new_claim
