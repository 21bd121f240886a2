use Rattle.std.proofs.Common.{refl}
use Rattle.hex.specs.Hex.{encode_with}
use Rattle.val_types.proofs.worked.texts_of_values.Goals as goal

pub returns-clause-quote : goal.returns-clause-quote
unfolding encode_with
returns-clause-quote c = refl

pub returns-clause-backslash : goal.returns-clause-backslash
unfolding encode_with
returns-clause-backslash c = refl

pub returns-clause-low : goal.returns-clause-low
unfolding encode_with
returns-clause-low c = refl

pub returns-clause-high : goal.returns-clause-high
unfolding encode_with
returns-clause-high c = refl
