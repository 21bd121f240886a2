use Rattle.std.proofs.Common.{refl}
use Rattle.std.specs.Fmt.{digits}
use Rattle.hex.specs.Hex.{encode_with}
use Rattle.sql_print.proofs.worked.calls_are_written.Goals as goal

pub returns-clause-cases : goal.returns-clause-cases
unfolding digits
returns-clause-cases c = refl

pub returns-clause-selects : goal.returns-clause-selects
unfolding digits
returns-clause-selects c = refl

pub returns-clause-stored : goal.returns-clause-stored
unfolding digits
returns-clause-stored c = refl

pub returns-clause-constants : goal.returns-clause-constants
unfolding encode_with
returns-clause-constants c = refl

pub returns-clause-draws : goal.returns-clause-draws
unfolding digits
returns-clause-draws c = refl

pub returns-clause-built : goal.returns-clause-built
unfolding digits
returns-clause-built c = refl
