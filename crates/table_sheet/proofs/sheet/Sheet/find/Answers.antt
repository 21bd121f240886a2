use Rattle.std.proofs.Common.{◌-◌, Some, None, ◌∙◌, arith}
use Rattle.std.specs.Prelude.{option_copied}
use Rattle.table_sheet.proofs.Looking.{page_entry, page_row}
use Rattle.table_sheet.proofs.Costing.{within_first, within_both}
use Rattle.table_sheet.proofs.sheet.Sheet.find.Goals as goal

pub returns-in-Some-clause-row : goal.returns-in-Some-clause-row
returns-in-Some-clause-row g c =
    c.shown.ensures
    ∙ page_entry c.self.inside.definition c.args.key.now c.self.inside.committed c.self.inside.overlay c.args.self.now c.in-Ok.spot (Some c.in-Some.entry.now) c.self.invariant.holds c.self.view_is c.in-Ok.ensures.found c.in-Some.ensures

pub returns-in-None-clause-row : goal.returns-in-None-clause-row
returns-in-None-clause-row g c = page_entry c.self.inside.definition c.args.key.now c.self.inside.committed c.self.inside.overlay c.args.self.now c.in-Ok.spot None c.self.invariant.holds c.self.view_is c.in-Ok.ensures.found c.in-None.ensures

pub returns-in-Err-clause-row : goal.returns-in-Err-clause-row
returns-in-Err-clause-row g c =
    page_row c.self.inside.definition c.args.key.now c.self.inside.committed c.self.inside.overlay c.args.self.now c.in-Err.field-0 (option_copied c.search_row.result) c.self.invariant.holds c.self.view_is c.in-Err.ensures.found c.search_row.ensures.row

pub returns-in-Some-clause-cost : goal.returns-in-Some-clause-cost
returns-in-Some-clause-cost g c =
    within_first c.self.inside.definition c.self.inside.committed c.self.inside.overlay c.args.self.now c.self.view_is (c.search.new.steps - c.args.steps.now) c.in-Ok.ensures.cost

pub returns-in-None-clause-cost : goal.returns-in-None-clause-cost
returns-in-None-clause-cost g c =
    within_first c.self.inside.definition c.self.inside.committed c.self.inside.overlay c.args.self.now c.self.view_is (c.search.new.steps - c.args.steps.now) c.in-Ok.ensures.cost

pub returns-in-Err-clause-cost : goal.returns-in-Err-clause-cost
returns-in-Err-clause-cost g c =
    within_both c.self.inside.definition c.self.inside.committed c.self.inside.overlay c.args.self.now c.self.view_is (c.search.new.steps - c.args.steps.now) (c.search_row.new.steps - c.search.new.steps) (c.search_row.new.steps - c.args.steps.now)
    c.in-Err.ensures.cost c.search_row.ensures.cost (omega (arith, c.in-Err.ensures.more, c.search_row.ensures.more))
