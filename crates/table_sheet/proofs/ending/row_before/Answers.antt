use Rattle.table_sheet.proofs.Lasting.{never_row}
use Rattle.table_sheet.proofs.ending.row_before.Goals as goal

pub returns-in-None-clause-none : goal.returns-in-None-clause-none
returns-in-None-clause-none c = never_row c.args.committed.now c.in_ok-back.back (c.in_ok-back.ensures.some).0 c.in-None.ensures
