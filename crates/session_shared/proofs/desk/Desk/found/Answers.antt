use Rattle.waiting_entries.specs.Making.{has_place}
use Rattle.session_shared.proofs.Bases.{found_shared}
use Rattle.session_shared.proofs.desk.Desk.found.Goals as goal

pub returns-clause-shared : goal.returns-clause-shared
returns-clause-shared c = found_shared c.args.work c.new.result c.args.at.number (has_place c.args.at) c.requires.none c.new.ensures
