use Rattle.name_const_laws.proofs.Whole.{fitted_short}
use Rattle.name_const_laws.proofs.laws.fitted_values_are_short.Goals as goal

pub returns : goal.returns
returns c = fitted_short
