use Rattle.table_sheet.proofs.Passing.{from_start}
use Rattle.table_sheet.proofs.walking.start.Goals as goal

pub returns-clause-all : goal.returns-clause-all
returns-clause-all c = λ d. from_start d c.args.committed.now c.args.overlay.now (record { entry = c.first.result; row = c.first-2.result }) c.first.ensures.place c.first-2.ensures.place
