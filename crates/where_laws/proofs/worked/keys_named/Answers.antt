use Rattle.std.proofs.Common.{refl}
use Rattle.where_laws.proofs.worked.keys_named.Goals as goal

pub returns-clause-column_first : goal.returns-clause-column_first
returns-clause-column_first c = refl

pub returns-clause-column_last : goal.returns-clause-column_last
returns-clause-column_last c = refl

pub returns-clause-of_table : goal.returns-clause-of_table
returns-clause-of_table c = refl

pub returns-clause-below_zero : goal.returns-clause-below_zero
returns-clause-below_zero c = refl

pub returns-clause-with_more : goal.returns-clause-with_more
returns-clause-with_more c = refl

pub returns-clause-of_local : goal.returns-clause-of_local
returns-clause-of_local c = refl

pub returns-clause-of_constant : goal.returns-clause-of_constant
returns-clause-of_constant c = refl

pub returns-clause-of_new_row : goal.returns-clause-of_new_row
returns-clause-of_new_row c = refl
