use Rattle.std.proofs.Common.{ap, ◌∙◌}
use Rattle.std.specs.Prelude.{filter}
use Rattle.value_ranges.specs.Keys.{row_is_in}
use Rattle.value_ranges.specs.Ranges.{range_of}
use Rattle.table_sheet.specs.Pages.{Page, rows_on}
use Rattle.table_sheet.specs.Parts.{committed_slots}
use Rattle.table_sheet.proofs.Ranging.{all_left, entries_ordered, rows_ordered, told_on}
use Rattle.table_sheet.proofs.Shown.{sound}
use Rattle.table_sheet.proofs.sheet.Sheet.rows_between.Goals as goal

pub begin-row-requires : goal.begin-row-requires
begin-row-requires c = (sound c.self.inside.definition (committed_slots c.self.inside.definition c.self.inside.committed) c.self.invariant.holds.whole).rising

pub rows_within-requires-clause-entries : goal.rows_within-requires-clause-entries
rows_within-requires-clause-entries c = entries_ordered c.self.inside.definition c.self.inside.committed c.self.inside.overlay c.self.invariant.holds

pub rows_within-requires-clause-rows : goal.rows_within-requires-clause-rows
rows_within-requires-clause-rows c = rows_ordered c.self.inside.definition c.self.inside.committed c.self.inside.overlay c.self.invariant.holds

pub returns : goal.returns
returns c =
    told_on c.rows_within.result _ _
    (all_left c.self.inside.definition (range_of c.args.range) c.self.inside.committed c.self.inside.overlay (record { entry = c.begin-entry.result; row = c.begin-row.result })
    (entries_ordered c.self.inside.definition c.self.inside.committed c.self.inside.overlay c.self.invariant.holds)
    (rows_ordered c.self.inside.definition c.self.inside.committed c.self.inside.overlay c.self.invariant.holds)
    c.begin-entry.ensures.outside c.begin-row.ensures.outside
    ∙ ap (λ (p : Page). filter (row_is_in p.definition (range_of c.args.range)) (rows_on p)) c.self.view_is)
    c.rows_within.ensures
