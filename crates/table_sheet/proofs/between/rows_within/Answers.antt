use Rattle.std.proofs.Common.{◌≡◌, List, [], ◌∷◌, ◌++◌, sym, ap, ◌∙◌}
use Rattle.std.specs.Prelude.{filter, option_copied}
use Rattle.val_types.specs.declared.value.Value.{Value}
use Rattle.row_index.specs.row_sheets.Slots.{rows_in}
use Rattle.value_ranges.specs.Keys.{row_is_in}
use Rattle.value_ranges.specs.Ranges.{range_of}
use Rattle.table_sheet.specs.Walks.{left}
use Rattle.table_sheet.proofs.Ranging.{row_kept, row_passed}
use Rattle.table_sheet.proofs.between.rows_within.Goals as goal

pub loop-shown-preserved-in_ok-push : goal.loop-shown-preserved-in_ok-push
loop-shown-preserved-in_ok-push c = record {
  place = c.step_within.ensures.place;
  so_far =
      ap (λ (rs : List (List Value)). rs ++ filter (row_is_in c.args.definition.now (range_of c.args.range)) (rows_in (left c.args.definition.now c.args.committed.now c.args.overlay.now c.step_within.new.at)))
      (c.in_ok-push.ensures.ok ∙ ap (λ (row : List Value). c.loop-shown.rows ++ row ∷ []) c.in_ok-share.ensures)
      ∙ row_kept c.args.definition.now (range_of c.args.range) c.loop-shown.rows
      (filter (row_is_in c.args.definition.now (range_of c.args.range)) (rows_in (left c.args.definition.now c.args.committed.now c.args.overlay.now c.args.from)))
      c.get-table.result.now c.get-seen.result.now c.in-Some-shown.row.now (option_copied c.in-Some.shown) (left c.args.definition.now c.args.committed.now c.args.overlay.now c.loop-shown.at) (left c.args.definition.now c.args.committed.now c.args.overlay.now c.step_within.new.at)
      c.loop-shown.invariant.so_far c.get-table.ensures c.get-seen.ensures (sym c.if-row_is_in.true ∙ c.row_is_in.ensures) (ap option_copied c.in-Some-shown.is) c.in-Some.ensures.some;
}

pub loop-shown-preserved-else-row_is_in : goal.loop-shown-preserved-else-row_is_in
loop-shown-preserved-else-row_is_in c = record {
  place = c.step_within.ensures.place;
  so_far =
      row_passed c.args.definition.now (range_of c.args.range) c.loop-shown.rows
      (filter (row_is_in c.args.definition.now (range_of c.args.range)) (rows_in (left c.args.definition.now c.args.committed.now c.args.overlay.now c.args.from)))
      c.get-table.result.now c.get-seen.result.now c.in-Some-shown.row.now (option_copied c.in-Some.shown) (left c.args.definition.now c.args.committed.now c.args.overlay.now c.loop-shown.at) (left c.args.definition.now c.args.committed.now c.args.overlay.now c.step_within.new.at)
      c.loop-shown.invariant.so_far c.get-table.ensures c.get-seen.ensures (sym c.if-row_is_in.false ∙ c.row_is_in.ensures) (ap option_copied c.in-Some-shown.is) c.in-Some.ensures.some;
}
