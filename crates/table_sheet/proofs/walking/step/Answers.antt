use Rattle.std.proofs.Common.{◌≡◌, List, [], Option, Less, Equal, Greater, sym, subst}
use Rattle.std.specs.Prelude.{slice_get}
use Rattle.val_types.specs.declared.value.Value.{Value}
use Rattle.row_index.specs.block_list.Layouts.{flat}
use Rattle.row_index.specs.block_list.Spots.{place}
use Rattle.row_index.specs.row_sheets.Slots.{rows_in}
use Rattle.table_sheet.specs.Numbered.{row_of}
use Rattle.table_sheet.specs.Walks.{left, AreNext}
use Rattle.table_sheet.proofs.Passing.{within_by, if_none, compared, at_end, at_row, at_entry, at_less, at_both, at_greater}
use Rattle.table_sheet.proofs.walking.step.Goals as goal

pub returns-in_err-row-clause-none : goal.returns-in_err-row-clause-none
returns-in_err-row-clause-none c = if_none (rows_in (left c.args.definition.now c.args.committed.now c.args.overlay.now c.args.at.now) ≡ []) c.from_residual.result (at_end c.args.definition.now c.args.committed.now c.args.overlay.now c.args.at.now c.in_default.ensures c.in_err-row.ensures)

pub after-at-requires-clause-within : goal.after-at-requires-clause-within
after-at-requires-clause-within c = within_by (row_of c.args.committed.now.rows.rows) (flat c.args.committed.now.order.blocks) (place c.args.committed.now.order.blocks c.args.at.now.row) c.in_ok-row.row.now c.in_ok-row.ensures

pub returns-in_default-clause-some : goal.returns-in_default-clause-some
returns-in_default-clause-some c = at_row c.args.definition.now c.args.committed.now c.args.overlay.now c.args.at.now c.in_ok-row.row.now c.after-at.result c.in_default.ensures c.in_ok-row.ensures c.after-at.ensures.place

pub after-at-requires-in_default-other-clause-within : goal.after-at-requires-in_default-other-clause-within
after-at-requires-in_default-other-clause-within c = within_by (slice_get c.args.overlay.now.entries.items) (flat c.args.overlay.now.ranks.blocks) (place c.args.overlay.now.ranks.blocks c.args.at.now.entry) c.in-Some.entry.now c.in-Some.ensures

pub returns-in_default-other-clause-some : goal.returns-in_default-other-clause-some
returns-in_default-other-clause-some c =
    subst (λ (p : Option (List Value)). AreNext p (left c.args.definition.now c.args.committed.now c.args.overlay.now c.args.at.now) (left c.args.definition.now c.args.committed.now c.args.overlay.now (record { entry = c.after-at-in_default-other.result; row = c.args.at.now.row }))) (sym c.shown.ensures)
    (at_entry c.args.definition.now c.args.committed.now c.args.overlay.now c.args.at.now c.in-Some.entry.now c.after-at-in_default-other.result c.in-Some.ensures c.in_default-other.ensures c.after-at-in_default-other.ensures.place)

pub after-at-requires-in-Less-clause-within : goal.after-at-requires-in-Less-clause-within
after-at-requires-in-Less-clause-within c = within_by (slice_get c.args.overlay.now.entries.items) (flat c.args.overlay.now.ranks.blocks) (place c.args.overlay.now.ranks.blocks c.args.at.now.entry) c.in-Some.entry.now c.in-Some.ensures

pub after-at-requires-in-Equal-clause-within : goal.after-at-requires-in-Equal-clause-within
after-at-requires-in-Equal-clause-within c = within_by (slice_get c.args.overlay.now.entries.items) (flat c.args.overlay.now.ranks.blocks) (place c.args.overlay.now.ranks.blocks c.args.at.now.entry) c.in-Some.entry.now c.in-Some.ensures

pub after-at-requires-in-Equal-2-clause-within : goal.after-at-requires-in-Equal-2-clause-within
after-at-requires-in-Equal-2-clause-within c = within_by (row_of c.args.committed.now.rows.rows) (flat c.args.committed.now.order.blocks) (place c.args.committed.now.order.blocks c.args.at.now.row) c.in-Some-other.row.now c.in-Some-other.ensures

pub after-at-requires-in-Greater-clause-within : goal.after-at-requires-in-Greater-clause-within
after-at-requires-in-Greater-clause-within c = within_by (row_of c.args.committed.now.rows.rows) (flat c.args.committed.now.order.blocks) (place c.args.committed.now.order.blocks c.args.at.now.row) c.in-Some-other.row.now c.in-Some-other.ensures

pub returns-in-Less-clause-some : goal.returns-in-Less-clause-some
returns-in-Less-clause-some c =
    subst (λ (p : Option (List Value)). AreNext p (left c.args.definition.now c.args.committed.now c.args.overlay.now c.args.at.now) (left c.args.definition.now c.args.committed.now c.args.overlay.now (record { entry = c.after-at-in-Less.result; row = c.args.at.now.row }))) (sym c.shown-in-Less.ensures)
    (at_less c.args.definition.now c.args.committed.now c.args.overlay.now c.args.at.now c.in-Some.entry.now c.in-Some-other.row.now c.after-at-in-Less.result c.in-Some.ensures c.in-Some-other.ensures (compared c.get.result.now c.args.definition.now c.get-2.result.now c.in-Some.entry.now.bearer c.get-3.result.now c.in-Some-other.row.now c.rows_cmp.result Less c.get.ensures c.get-2.ensures c.get-3.ensures c.rows_cmp.ensures c.in-Less.is) c.after-at-in-Less.ensures.place)

pub returns-in-Equal-clause-some : goal.returns-in-Equal-clause-some
returns-in-Equal-clause-some c =
    subst (λ (p : Option (List Value)). AreNext p (left c.args.definition.now c.args.committed.now c.args.overlay.now c.args.at.now) (left c.args.definition.now c.args.committed.now c.args.overlay.now (record { entry = c.after-at-in-Equal.result; row = c.after-at-in-Equal-2.result }))) (sym c.shown-in-Equal.ensures)
    (at_both c.args.definition.now c.args.committed.now c.args.overlay.now c.args.at.now c.in-Some.entry.now c.in-Some-other.row.now c.after-at-in-Equal.result c.after-at-in-Equal-2.result c.in-Some.ensures c.in-Some-other.ensures (compared c.get.result.now c.args.definition.now c.get-2.result.now c.in-Some.entry.now.bearer c.get-3.result.now c.in-Some-other.row.now c.rows_cmp.result Equal c.get.ensures c.get-2.ensures c.get-3.ensures c.rows_cmp.ensures c.in-Equal.is) c.after-at-in-Equal.ensures.place c.after-at-in-Equal-2.ensures.place)

pub returns-in-Greater-clause-some : goal.returns-in-Greater-clause-some
returns-in-Greater-clause-some c =
    at_greater c.args.definition.now c.args.committed.now c.args.overlay.now c.args.at.now c.in-Some.entry.now c.in-Some-other.row.now c.after-at-in-Greater.result c.in-Some.ensures c.in-Some-other.ensures (compared c.get.result.now c.args.definition.now c.get-2.result.now c.in-Some.entry.now.bearer c.get-3.result.now c.in-Some-other.row.now c.rows_cmp.result Greater c.get.ensures c.get-2.ensures c.get-3.ensures c.rows_cmp.ensures c.in-Greater.is) c.after-at-in-Greater.ensures.place
