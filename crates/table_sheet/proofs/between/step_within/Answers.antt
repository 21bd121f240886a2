use Rattle.value_ranges.specs.Ranges.{range_of}
use Rattle.table_sheet.proofs.Ranging.{none_left}
use Rattle.table_sheet.proofs.between.step_within.Goals as goal

pub returns-then-is_over-clause-none : goal.returns-then-is_over-clause-none
returns-then-is_over-clause-none c =
    none_left c.args.definition.now (range_of c.args.range) c.args.committed.now c.args.overlay.now c.args.at.now c.requires.entries c.requires.rows (c.is_over.ensures.entries c.if-is_over.true) (c.is_over.ensures.rows c.if-is_over.true)
