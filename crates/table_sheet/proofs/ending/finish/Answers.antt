use Rattle.table_sheet.proofs.Lasting.{passed_all}
use Rattle.table_sheet.proofs.ending.finish.Goals as goal

pub returns-clause-all : goal.returns-clause-all
returns-clause-all c = λ d. passed_all d c.args.committed.now c.args.overlay.now (record { entry = c.end.result; row = c.end-2.result }) c.end.ensures.place c.end-2.ensures.place
