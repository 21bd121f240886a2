use Rattle.std.proofs.Common.{refl}
use Rattle.std.specs.Fmt.{digits}
use Rattle.load_script.proofs.worked.four_changes.Goals as goal

pub returns-clause-text : goal.returns-clause-text
unfolding digits
returns-clause-text c = refl

pub returns-clause-commands : goal.returns-clause-commands
unfolding digits
returns-clause-commands c = refl
