use Rattle.std.proofs.Common.{refl}
use Rattle.std.specs.Fmt.{digits}
use Rattle.load_script.proofs.worked.hundredth_change.Goals as goal

pub returns-clause-before : goal.returns-clause-before
unfolding digits
returns-clause-before c = refl

pub returns-clause-lines : goal.returns-clause-lines
unfolding digits
returns-clause-lines c = refl

pub returns-clause-behind : goal.returns-clause-behind
unfolding digits
returns-clause-behind c = refl

pub returns-clause-commands : goal.returns-clause-commands
unfolding digits
returns-clause-commands c = refl

pub returns-clause-delete : goal.returns-clause-delete
unfolding digits
returns-clause-delete c = refl

pub returns-clause-greatest : goal.returns-clause-greatest
unfolding digits
returns-clause-greatest c = refl
