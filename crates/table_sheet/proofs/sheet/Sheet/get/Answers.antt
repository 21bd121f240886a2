use Rattle.std.proofs.Common.{Some, None, ◌∙◌}
use Rattle.std.specs.Prelude.{option_copied}
use Rattle.table_sheet.proofs.Looking.{page_entry, page_row}
use Rattle.table_sheet.proofs.sheet.Sheet.get.Goals as goal

pub returns-in-Some : goal.returns-in-Some
returns-in-Some c =
    c.shown.ensures
    ∙ page_entry c.self.inside.definition c.args.key.now c.self.inside.committed c.self.inside.overlay c.args.self.now c.in-Ok.spot (Some c.in-Some.entry.now) c.self.invariant.holds c.self.view_is c.in-Ok.ensures.found c.in-Some.ensures

pub returns-in-None : goal.returns-in-None
returns-in-None c = page_entry c.self.inside.definition c.args.key.now c.self.inside.committed c.self.inside.overlay c.args.self.now c.in-Ok.spot None c.self.invariant.holds c.self.view_is c.in-Ok.ensures.found c.in-None.ensures

pub returns-in-Err : goal.returns-in-Err
returns-in-Err c =
    page_row c.self.inside.definition c.args.key.now c.self.inside.committed c.self.inside.overlay c.args.self.now c.in-Err.field-0 (option_copied c.get.result) c.self.invariant.holds c.self.view_is c.in-Err.ensures.found c.get.ensures
