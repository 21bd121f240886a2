use Rattle.log_entries.proofs.Following.{go_on}
use Rattle.log_entries.proofs.laws.entries_go_on.Goals as goal

pub returns : goal.returns
returns g c = λ changes_of define. go_on changes_of define
