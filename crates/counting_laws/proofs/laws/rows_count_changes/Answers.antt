use Rattle.counting_laws.proofs.Counts.{deleted_rows, cleared_rows, updated_rows, put_rows, placed_rows, inserted_rows}
use Rattle.counting_laws.proofs.laws.rows_count_changes.Goals as goal

pub returns-clause-deleted : goal.returns-clause-deleted
returns-clause-deleted c = deleted_rows

pub returns-clause-cleared : goal.returns-clause-cleared
returns-clause-cleared c = cleared_rows

pub returns-clause-updated : goal.returns-clause-updated
returns-clause-updated c = updated_rows

pub returns-clause-put : goal.returns-clause-put
returns-clause-put c = put_rows

pub returns-clause-placed : goal.returns-clause-placed
returns-clause-placed c = placed_rows

pub returns-clause-inserted : goal.returns-clause-inserted
returns-clause-inserted c = inserted_rows
