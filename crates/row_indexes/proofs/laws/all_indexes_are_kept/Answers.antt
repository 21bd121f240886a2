use Rattle.row_indexes.proofs.Wholes.{put_in_all, taken_of_all}
use Rattle.row_indexes.proofs.laws.all_indexes_are_kept.Goals as goal

pub returns-clause-put : goal.returns-clause-put
returns-clause-put c = put_in_all

pub returns-clause-taken : goal.returns-clause-taken
returns-clause-taken c = taken_of_all
