use Rattle.table_sheet.proofs.Lasting.{never_entry}
use Rattle.table_sheet.proofs.ending.entry_before.Goals as goal

pub returns-in-None-clause-none : goal.returns-in-None-clause-none
returns-in-None-clause-none c = never_entry c.args.overlay.now c.in_ok-back.back (c.in_ok-back.ensures.some).0 c.in-None.ensures
