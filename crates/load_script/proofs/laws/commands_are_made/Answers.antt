use Rattle.load_script.proofs.Splits.{commands_made}
use Rattle.load_script.proofs.laws.commands_are_made.Goals as goal

pub returns : goal.returns
returns c = commands_made
