use Rattle.row_sheets.proofs.Writes.{all_with_entry, all_taken_out, all_put, free_where_none}
use Rattle.row_sheets.proofs.laws.all_claims_are_kept.Goals as goal

pub returns-clause-entry : goal.returns-clause-entry
returns-clause-entry c = all_with_entry

pub returns-clause-out : goal.returns-clause-out
returns-clause-out c = all_taken_out

pub returns-clause-put : goal.returns-clause-put
returns-clause-put c = all_put

pub returns-clause-free : goal.returns-clause-free
returns-clause-free c = free_where_none
