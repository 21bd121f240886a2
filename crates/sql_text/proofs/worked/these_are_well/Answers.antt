use Rattle.std.proofs.Common.{refl}
use Rattle.std.specs.Fmt.{digits}
use Rattle.hex.specs.Hex.{encode_with}
use Rattle.sql_text.proofs.worked.these_are_well.Goals as goal

pub returns-clause-minus : goal.returns-clause-minus
unfolding digits
returns-clause-minus c = (refl, refl)

pub returns-clause-quote : goal.returns-clause-quote
unfolding encode_with
returns-clause-quote c = (refl, refl)

pub returns-clause-format : goal.returns-clause-format
returns-clause-format c = (refl, refl)

pub returns-clause-factor : goal.returns-clause-factor
unfolding digits
returns-clause-factor c = (refl, refl)

pub returns-clause-table : goal.returns-clause-table
returns-clause-table c = (refl, refl)

pub returns-clause-body : goal.returns-clause-body
returns-clause-body c = (refl, refl)
