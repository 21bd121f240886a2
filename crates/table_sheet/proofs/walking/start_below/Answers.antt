use Rattle.table_sheet.proofs.Passing.{from_below}
use Rattle.table_sheet.proofs.walking.start_below.Goals as goal

pub returns-clause-all : goal.returns-clause-all
returns-clause-all c = λ d. from_below d c.args.committed.now c.args.overlay.now (record { entry = c.end.result; row = c.first.result }) c.end.ensures.place c.first.ensures.place
