use Rattle.row_indexes.proofs.Indexing.{nothing_indexed, put_keeps, null_put_keeps, taken_keeps, null_taken_keeps}
use Rattle.row_indexes.proofs.laws.indexes_are_kept.Goals as goal

pub returns-clause-start : goal.returns-clause-start
returns-clause-start c = nothing_indexed

pub returns-clause-put : goal.returns-clause-put
returns-clause-put c = put_keeps

pub returns-clause-put_null : goal.returns-clause-put_null
returns-clause-put_null c = null_put_keeps

pub returns-clause-taken : goal.returns-clause-taken
returns-clause-taken c = taken_keeps

pub returns-clause-taken_null : goal.returns-clause-taken_null
returns-clause-taken_null c = null_taken_keeps
