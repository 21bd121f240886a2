use Rattle.std.proofs.Common.{refl}
use Rattle.where_laws.proofs.worked.names_hidden.Goals as goal

pub returns-clause-local_hides : goal.returns-clause-local_hides
returns-clause-local_hides c = refl

pub returns-clause-not_with_table : goal.returns-clause-not_with_table
returns-clause-not_with_table c = refl

pub returns-clause-column_hides : goal.returns-clause-column_hides
returns-clause-column_hides c = refl

pub returns-clause-of_outer_row : goal.returns-clause-of_outer_row
returns-clause-of_outer_row c = refl

pub returns-clause-outer_name : goal.returns-clause-outer_name
returns-clause-outer_name c = refl
