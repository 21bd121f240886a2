use Rattle.std.proofs.Common.{◌-◌, List, length, Some, sym, ap, ◌∙◌, arith}
use Rattle.std.specs.Prelude.{option_copied, slice_index}
use Rattle.std.specs.Option.{option_and_then}
use Rattle.val_types.specs.declared.value.Value.{Value}
use Rattle.val_types.specs.Keys.{primary_key}
use Rattle.row_index.specs.block_list.Layouts.{flat}
use Rattle.row_index.specs.block_list.Spots.{place}
use Rattle.row_index.proofs.of_row_sheets.Orders.{found_at, missing_at}
use Rattle.row_index.specs.Lists.{numbers_at}
use Rattle.table_sheet.specs.declared.entry.Entry.{Entry}
use Rattle.table_sheet.specs.Ranked.{entry_slot}
use Rattle.table_sheet.proofs.Costing.{none_made, within_twice}
use Rattle.table_sheet.proofs.OnValues.{entries_rise, rows_rise, entries_few, rows_fewer, by_entry, by_none, by_row, by_hidden, never_missing}
use Rattle.table_sheet.proofs.sheet.Sheet.find_with.Goals as goal

pub search_in-requires : goal.search_in-requires
search_in-requires g c = entries_rise c.self.inside.definition c.self.inside.committed c.self.inside.overlay c.args.self.now c.self.invariant.holds c.self.view_is c.self.invariant.indexed c.args.which c.args.key.now c.requires c.args.values.now

pub search_in-requires-2 : goal.search_in-requires-2
search_in-requires-2 g c = rows_rise c.self.inside.definition c.self.inside.committed c.self.inside.overlay c.args.self.now c.self.invariant.holds c.self.view_is c.self.invariant.indexed c.args.which c.args.key.now c.requires c.args.values.now

-- ---- what is found

pub returns-in-Some-entry-clause-row : goal.returns-in-Some-entry-clause-row
returns-in-Some-entry-clause-row g c = c.shown.ensures ∙ ap (option_and_then (λ (entry : Entry). entry.present)) c.in-Some-entry.ensures ∙ by_entry c.self.inside.definition c.self.inside.committed c.self.inside.overlay c.args.self.now c.self.invariant.holds c.self.view_is c.self.invariant.indexed c.args.which c.args.key.now c.requires c.args.values.now c.in-Some.number c.in-Some.ensures.number

pub returns-in-None-clause-row : goal.returns-in-None-clause-row
returns-in-None-clause-row g c = ap (option_and_then (λ (entry : Entry). entry.present)) c.in-None.ensures ∙ by_entry c.self.inside.definition c.self.inside.committed c.self.inside.overlay c.args.self.now c.self.invariant.holds c.self.view_is c.self.invariant.indexed c.args.which c.args.key.now c.requires c.args.values.now c.in-Some.number c.in-Some.ensures.number

pub returns-in_err-number-clause-row : goal.returns-in_err-number-clause-row
returns-in_err-number-clause-row g c = ap option_copied c.from_residual.ensures ∙ by_none c.self.inside.definition c.self.inside.committed c.self.inside.overlay c.args.self.now c.self.invariant.holds c.self.view_is c.self.invariant.indexed c.args.which c.args.key.now c.requires c.args.values.now c.in_default.ensures.number c.in_err-number.ensures.number

pub returns-in_err-found-clause-row : goal.returns-in_err-found-clause-row
returns-in_err-found-clause-row g c = ap option_copied c.from_residual-in_err-found.ensures ∙ never_missing c.self.inside.definition c.self.inside.committed c.self.inside.overlay c.args.self.now c.self.invariant.holds c.self.view_is c.self.invariant.indexed c.args.which c.args.key.now c.requires c.args.values.now c.in_default.ensures.number c.in_ok-number.number c.in_ok-number.ensures.number c.in_err-found.ensures

pub returns-in-Ok-clause-row : goal.returns-in-Ok-clause-row
returns-in-Ok-clause-row g c =
    by_hidden c.self.inside.definition c.self.inside.committed c.self.inside.overlay c.args.self.now c.self.invariant.holds c.self.view_is c.self.invariant.indexed c.args.which c.args.key.now c.requires c.args.values.now c.in_default.ensures.number c.in_ok-number.number c.in_ok-number.ensures.number c.get.result.now (entry_slot c.self.inside.definition c.self.inside.overlay.entries.items (slice_index (flat c.self.inside.overlay.ranks.blocks) (place c.self.inside.overlay.ranks.blocks c.in-Ok.field-0))).row (ap (λ (r : List Value). Some r) c.get.ensures ∙ c.in_ok-found.ensures)
    (found_at (entry_slot c.self.inside.definition c.self.inside.overlay.entries.items) (primary_key c.self.inside.definition c.get.result.now) c.self.inside.overlay.ranks.blocks c.in-Ok.field-0 c.self.invariant.holds.rising c.in-Ok.ensures.found)

pub returns-in-Err-clause-row : goal.returns-in-Err-clause-row
returns-in-Err-clause-row g c =
    ap (λ (r : List Value). Some r) (sym c.get.ensures)
    ∙ by_row c.self.inside.definition c.self.inside.committed c.self.inside.overlay c.args.self.now c.self.invariant.holds c.self.view_is c.self.invariant.indexed c.args.which c.args.key.now c.requires c.args.values.now c.in_default.ensures.number c.in_ok-number.number c.in_ok-number.ensures.number c.get.result.now (ap (λ (r : List Value). Some r) c.get.ensures ∙ c.in_ok-found.ensures)
    (missing_at (entry_slot c.self.inside.definition c.self.inside.overlay.entries.items) (primary_key c.self.inside.definition c.get.result.now) c.self.inside.overlay.ranks.blocks c.in-Err.field-0 c.in-Err.ensures.found)

-- ---- in how many comparisons

pub returns-in-Some-entry-clause-cost : goal.returns-in-Some-entry-clause-cost
returns-in-Some-entry-clause-cost g c =
    within_twice c.self.inside.definition c.self.inside.committed c.self.inside.overlay c.args.self.now c.self.view_is (length (numbers_at c.self.inside.overlay.indexes.items c.args.which)) (length (numbers_at c.self.inside.committed.indexes.items c.args.which)) (c.search_in.new.steps - c.args.steps.now) 0 0 (c.search_in.new.steps - c.args.steps.now) (entries_few c.self.inside.definition c.self.inside.committed c.self.inside.overlay c.args.self.now c.self.invariant.holds c.self.view_is c.self.invariant.indexed c.args.which c.args.key.now c.requires c.args.values.now) (rows_fewer c.self.inside.definition c.self.inside.committed c.self.inside.overlay c.args.self.now c.self.invariant.holds c.self.view_is c.self.invariant.indexed c.args.which c.args.key.now c.requires c.args.values.now)
    c.in-Some.ensures.cost (none_made (length (numbers_at c.self.inside.committed.indexes.items c.args.which))) (none_made (length (flat c.self.inside.overlay.ranks.blocks))) (omega (arith, c.in-Some.ensures.more))

pub returns-in-None-clause-cost : goal.returns-in-None-clause-cost
returns-in-None-clause-cost g c =
    within_twice c.self.inside.definition c.self.inside.committed c.self.inside.overlay c.args.self.now c.self.view_is (length (numbers_at c.self.inside.overlay.indexes.items c.args.which)) (length (numbers_at c.self.inside.committed.indexes.items c.args.which)) (c.search_in.new.steps - c.args.steps.now) 0 0 (c.search_in.new.steps - c.args.steps.now) (entries_few c.self.inside.definition c.self.inside.committed c.self.inside.overlay c.args.self.now c.self.invariant.holds c.self.view_is c.self.invariant.indexed c.args.which c.args.key.now c.requires c.args.values.now) (rows_fewer c.self.inside.definition c.self.inside.committed c.self.inside.overlay c.args.self.now c.self.invariant.holds c.self.view_is c.self.invariant.indexed c.args.which c.args.key.now c.requires c.args.values.now)
    c.in-Some.ensures.cost (none_made (length (numbers_at c.self.inside.committed.indexes.items c.args.which))) (none_made (length (flat c.self.inside.overlay.ranks.blocks))) (omega (arith, c.in-Some.ensures.more))

pub returns-in_err-number-clause-cost : goal.returns-in_err-number-clause-cost
returns-in_err-number-clause-cost g c =
    within_twice c.self.inside.definition c.self.inside.committed c.self.inside.overlay c.args.self.now c.self.view_is (length (numbers_at c.self.inside.overlay.indexes.items c.args.which)) (length (numbers_at c.self.inside.committed.indexes.items c.args.which)) (c.search_in.new.steps - c.args.steps.now) (c.search_in-2.new.steps - c.search_in.new.steps) 0 (c.search_in-2.new.steps - c.args.steps.now) (entries_few c.self.inside.definition c.self.inside.committed c.self.inside.overlay c.args.self.now c.self.invariant.holds c.self.view_is c.self.invariant.indexed c.args.which c.args.key.now c.requires c.args.values.now) (rows_fewer c.self.inside.definition c.self.inside.committed c.self.inside.overlay c.args.self.now c.self.invariant.holds c.self.view_is c.self.invariant.indexed c.args.which c.args.key.now c.requires c.args.values.now)
    c.in_default.ensures.cost c.in_err-number.ensures.cost (none_made (length (flat c.self.inside.overlay.ranks.blocks))) (omega (arith, c.in_default.ensures.more, c.in_err-number.ensures.more))

pub returns-in_err-found-clause-cost : goal.returns-in_err-found-clause-cost
returns-in_err-found-clause-cost g c =
    within_twice c.self.inside.definition c.self.inside.committed c.self.inside.overlay c.args.self.now c.self.view_is (length (numbers_at c.self.inside.overlay.indexes.items c.args.which)) (length (numbers_at c.self.inside.committed.indexes.items c.args.which)) (c.search_in.new.steps - c.args.steps.now) (c.search_in-2.new.steps - c.search_in.new.steps) 0 (c.search_in-2.new.steps - c.args.steps.now) (entries_few c.self.inside.definition c.self.inside.committed c.self.inside.overlay c.args.self.now c.self.invariant.holds c.self.view_is c.self.invariant.indexed c.args.which c.args.key.now c.requires c.args.values.now) (rows_fewer c.self.inside.definition c.self.inside.committed c.self.inside.overlay c.args.self.now c.self.invariant.holds c.self.view_is c.self.invariant.indexed c.args.which c.args.key.now c.requires c.args.values.now)
    c.in_default.ensures.cost c.in_ok-number.ensures.cost (none_made (length (flat c.self.inside.overlay.ranks.blocks))) (omega (arith, c.in_default.ensures.more, c.in_ok-number.ensures.more))

pub returns-in-Ok-clause-cost : goal.returns-in-Ok-clause-cost
returns-in-Ok-clause-cost g c =
    within_twice c.self.inside.definition c.self.inside.committed c.self.inside.overlay c.args.self.now c.self.view_is (length (numbers_at c.self.inside.overlay.indexes.items c.args.which)) (length (numbers_at c.self.inside.committed.indexes.items c.args.which)) (c.search_in.new.steps - c.args.steps.now) (c.search_in-2.new.steps - c.search_in.new.steps) (c.search_row.new.steps - c.search_in-2.new.steps) (c.search_row.new.steps - c.args.steps.now) (entries_few c.self.inside.definition c.self.inside.committed c.self.inside.overlay c.args.self.now c.self.invariant.holds c.self.view_is c.self.invariant.indexed c.args.which c.args.key.now c.requires c.args.values.now) (rows_fewer c.self.inside.definition c.self.inside.committed c.self.inside.overlay c.args.self.now c.self.invariant.holds c.self.view_is c.self.invariant.indexed c.args.which c.args.key.now c.requires c.args.values.now)
    c.in_default.ensures.cost c.in_ok-number.ensures.cost c.in-Ok.ensures.cost (omega (arith, c.in_default.ensures.more, c.in_ok-number.ensures.more, c.in-Ok.ensures.more))

pub returns-in-Err-clause-cost : goal.returns-in-Err-clause-cost
returns-in-Err-clause-cost g c =
    within_twice c.self.inside.definition c.self.inside.committed c.self.inside.overlay c.args.self.now c.self.view_is (length (numbers_at c.self.inside.overlay.indexes.items c.args.which)) (length (numbers_at c.self.inside.committed.indexes.items c.args.which)) (c.search_in.new.steps - c.args.steps.now) (c.search_in-2.new.steps - c.search_in.new.steps) (c.search_row.new.steps - c.search_in-2.new.steps) (c.search_row.new.steps - c.args.steps.now) (entries_few c.self.inside.definition c.self.inside.committed c.self.inside.overlay c.args.self.now c.self.invariant.holds c.self.view_is c.self.invariant.indexed c.args.which c.args.key.now c.requires c.args.values.now) (rows_fewer c.self.inside.definition c.self.inside.committed c.self.inside.overlay c.args.self.now c.self.invariant.holds c.self.view_is c.self.invariant.indexed c.args.which c.args.key.now c.requires c.args.values.now)
    c.in_default.ensures.cost c.in_ok-number.ensures.cost c.in-Err.ensures.cost (omega (arith, c.in_default.ensures.more, c.in_ok-number.ensures.more, c.in-Err.ensures.more))
