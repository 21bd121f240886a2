use Rattle.log_groups.proofs.Looks.{nothing_looked}
use Rattle.log_groups.proofs.growing.Progress.new.Goals as goal

pub returns-clause-looked : goal.returns-clause-looked
returns-clause-looked c = nothing_looked
