use Rattle.row_sheets.proofs.Settling.{entry_stays, all_stay, just_by_count}
use Rattle.row_sheets.proofs.laws.settling_shows_the_same.Goals as goal

pub returns-clause-one : goal.returns-clause-one
returns-clause-one c = entry_stays

pub returns-clause-all : goal.returns-clause-all
returns-clause-all c = all_stay

pub returns-clause-just : goal.returns-clause-just
returns-clause-just c = just_by_count
