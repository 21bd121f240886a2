use Rattle.std.proofs.Common.{List, Some, sym, ap, ◌∙◌}
use Rattle.std.specs.Prelude.{option_copied, slice_index}
use Rattle.std.specs.Option.{option_and_then}
use Rattle.val_types.specs.declared.value.Value.{Value}
use Rattle.val_types.specs.Keys.{primary_key, values_at}
use Rattle.row_index.specs.block_list.Layouts.{flat}
use Rattle.row_index.specs.block_list.Spots.{place}
use Rattle.row_index.proofs.of_row_sheets.Orders.{found_at, missing_at}
use Rattle.table_sheet.specs.declared.entry.Entry.{Entry}
use Rattle.table_sheet.specs.Ranked.{entry_slot}
use Rattle.table_sheet.proofs.OnValues.{entries_rise, rows_rise, by_entry, by_none, by_row, by_hidden, never_missing}
use Rattle.table_sheet.proofs.sheet.Sheet.agreeing.Goals as goal

pub found_in-requires : goal.found_in-requires
found_in-requires c = entries_rise c.self.inside.definition c.self.inside.committed c.self.inside.overlay c.args.self.now c.self.invariant.holds c.self.view_is c.self.invariant.indexed c.args.which c.args.key.now c.requires (values_at c.args.key.now.columns c.args.row.now)

pub found_in-requires-2 : goal.found_in-requires-2
found_in-requires-2 c = rows_rise c.self.inside.definition c.self.inside.committed c.self.inside.overlay c.args.self.now c.self.invariant.holds c.self.view_is c.self.invariant.indexed c.args.which c.args.key.now c.requires (values_at c.args.key.now.columns c.args.row.now)

pub returns-in-Some-entry : goal.returns-in-Some-entry
returns-in-Some-entry c = c.shown.ensures ∙ ap (option_and_then (λ (entry : Entry). entry.present)) c.in-Some-entry.ensures ∙ by_entry c.self.inside.definition c.self.inside.committed c.self.inside.overlay c.args.self.now c.self.invariant.holds c.self.view_is c.self.invariant.indexed c.args.which c.args.key.now c.requires (values_at c.args.key.now.columns c.args.row.now) c.in-Some.number c.in-Some.ensures

pub returns-in-None : goal.returns-in-None
returns-in-None c = ap (option_and_then (λ (entry : Entry). entry.present)) c.in-None.ensures ∙ by_entry c.self.inside.definition c.self.inside.committed c.self.inside.overlay c.args.self.now c.self.invariant.holds c.self.view_is c.self.invariant.indexed c.args.which c.args.key.now c.requires (values_at c.args.key.now.columns c.args.row.now) c.in-Some.number c.in-Some.ensures

pub returns-in_err-number : goal.returns-in_err-number
returns-in_err-number c = ap option_copied c.from_residual.ensures ∙ by_none c.self.inside.definition c.self.inside.committed c.self.inside.overlay c.args.self.now c.self.invariant.holds c.self.view_is c.self.invariant.indexed c.args.which c.args.key.now c.requires (values_at c.args.key.now.columns c.args.row.now) c.in_default.ensures c.in_err-number.ensures

pub returns-in_err-found : goal.returns-in_err-found
returns-in_err-found c = ap option_copied c.from_residual-in_err-found.ensures ∙ never_missing c.self.inside.definition c.self.inside.committed c.self.inside.overlay c.args.self.now c.self.invariant.holds c.self.view_is c.self.invariant.indexed c.args.which c.args.key.now c.requires (values_at c.args.key.now.columns c.args.row.now) c.in_default.ensures c.in_ok-number.number c.in_ok-number.ensures c.in_err-found.ensures

pub returns-in-Ok : goal.returns-in-Ok
returns-in-Ok c =
    by_hidden c.self.inside.definition c.self.inside.committed c.self.inside.overlay c.args.self.now c.self.invariant.holds c.self.view_is c.self.invariant.indexed c.args.which c.args.key.now c.requires (values_at c.args.key.now.columns c.args.row.now) c.in_default.ensures c.in_ok-number.number c.in_ok-number.ensures c.get.result.now (entry_slot c.self.inside.definition c.self.inside.overlay.entries.items (slice_index (flat c.self.inside.overlay.ranks.blocks) (place c.self.inside.overlay.ranks.blocks c.in-Ok.field-0))).row (ap (λ (r : List Value). Some r) c.get.ensures ∙ c.in_ok-found.ensures)
    (found_at (entry_slot c.self.inside.definition c.self.inside.overlay.entries.items) (primary_key c.self.inside.definition c.get.result.now) c.self.inside.overlay.ranks.blocks c.in-Ok.field-0 c.self.invariant.holds.rising c.in-Ok.ensures.found)

pub returns-in-Err : goal.returns-in-Err
returns-in-Err c =
    ap (λ (r : List Value). Some r) (sym c.get.ensures)
    ∙ by_row c.self.inside.definition c.self.inside.committed c.self.inside.overlay c.args.self.now c.self.invariant.holds c.self.view_is c.self.invariant.indexed c.args.which c.args.key.now c.requires (values_at c.args.key.now.columns c.args.row.now) c.in_default.ensures c.in_ok-number.number c.in_ok-number.ensures c.get.result.now (ap (λ (r : List Value). Some r) c.get.ensures ∙ c.in_ok-found.ensures)
    (missing_at (entry_slot c.self.inside.definition c.self.inside.overlay.entries.items) (primary_key c.self.inside.definition c.get.result.now) c.self.inside.overlay.ranks.blocks c.in-Err.field-0 c.in-Err.ensures.found)
