use Rattle.std.proofs.Common.{◌≡◌, ◌++◌, List, [], Option, Less, Equal, Greater, sym, subst}
use Rattle.std.specs.Prelude.{option_to_list}
use Rattle.val_types.specs.declared.value.Value.{Value}
use Rattle.row_index.specs.row_sheets.Slots.{rows_in}
use Rattle.table_sheet.specs.Walks.{passed}
use Rattle.table_sheet.proofs.Passing.{if_none, compared}
use Rattle.table_sheet.proofs.Lasting.{passed_nothing, passed_row_alone, passed_entry_alone, passed_row, passed_entry, passed_both}
use Rattle.table_sheet.proofs.ending.step_back.Goals as goal

pub returns-in_err-row-clause-none : goal.returns-in_err-row-clause-none
returns-in_err-row-clause-none c =
    if_none (rows_in (passed c.args.definition.now c.args.committed.now c.args.overlay.now c.args.at.now) ≡ []) c.from_residual.result
    (passed_nothing c.args.definition.now c.args.committed.now c.args.overlay.now c.args.at.now c.requires.rising c.requires.below c.in_default.ensures.none c.in_err-row.ensures.none)

pub returns-in_default-clause-some : goal.returns-in_default-clause-some
returns-in_default-clause-some c = passed_row_alone c.args.definition.now c.args.committed.now c.args.overlay.now c.args.at.now c.requires.rising c.requires.below c.in_ok-row.row.1.now c.in_ok-row.row.0 c.in_ok-row.ensures.there c.in_ok-row.ensures.place c.in_default.ensures.none

pub returns-in_default-other-clause-some : goal.returns-in_default-other-clause-some
returns-in_default-other-clause-some c =
    subst (λ (p : Option (List Value)). rows_in (passed c.args.definition.now c.args.committed.now c.args.overlay.now c.args.at.now) ≡ rows_in (passed c.args.definition.now c.args.committed.now c.args.overlay.now (record { entry = c.in-Some.entry.0; row = c.args.at.now.row })) ++ option_to_list p) (sym c.shown.ensures)
    (passed_entry_alone c.args.definition.now c.args.committed.now c.args.overlay.now c.args.at.now c.requires.rising c.requires.below c.in-Some.entry.1.now c.in-Some.entry.0 c.in-Some.ensures.there c.in-Some.ensures.place c.in_default-other.ensures.none)

pub returns-in-Less-clause-some : goal.returns-in-Less-clause-some
returns-in-Less-clause-some c = passed_row c.args.definition.now c.args.committed.now c.args.overlay.now c.args.at.now c.requires.rising c.requires.below c.in-Some.entry.1.now c.in-Some.entry.0 c.in-Some.ensures.there c.in-Some.ensures.place c.in-Some-other.row.1.now c.in-Some-other.row.0 c.in-Some-other.ensures.there c.in-Some-other.ensures.place (compared c.get.result.now c.args.definition.now c.get-2.result.now c.in-Some.entry.1.now.bearer c.get-3.result.now c.in-Some-other.row.1.now c.rows_cmp.result Less c.get.ensures c.get-2.ensures c.get-3.ensures c.rows_cmp.ensures c.in-Less.is)

pub returns-in-Equal-clause-some : goal.returns-in-Equal-clause-some
returns-in-Equal-clause-some c =
    subst (λ (p : Option (List Value)). rows_in (passed c.args.definition.now c.args.committed.now c.args.overlay.now c.args.at.now) ≡ rows_in (passed c.args.definition.now c.args.committed.now c.args.overlay.now (record { entry = c.in-Some.entry.0; row = c.in-Some-other.row.0 })) ++ option_to_list p) (sym c.shown-in-Equal.ensures)
    (passed_both c.args.definition.now c.args.committed.now c.args.overlay.now c.args.at.now c.requires.rising c.requires.below c.in-Some.entry.1.now c.in-Some.entry.0 c.in-Some.ensures.there c.in-Some.ensures.place c.in-Some-other.row.1.now c.in-Some-other.row.0 c.in-Some-other.ensures.there c.in-Some-other.ensures.place (compared c.get.result.now c.args.definition.now c.get-2.result.now c.in-Some.entry.1.now.bearer c.get-3.result.now c.in-Some-other.row.1.now c.rows_cmp.result Equal c.get.ensures c.get-2.ensures c.get-3.ensures c.rows_cmp.ensures c.in-Equal.is))

pub returns-in-Greater-clause-some : goal.returns-in-Greater-clause-some
returns-in-Greater-clause-some c =
    subst (λ (p : Option (List Value)). rows_in (passed c.args.definition.now c.args.committed.now c.args.overlay.now c.args.at.now) ≡ rows_in (passed c.args.definition.now c.args.committed.now c.args.overlay.now (record { entry = c.in-Some.entry.0; row = c.args.at.now.row })) ++ option_to_list p) (sym c.shown-in-Greater.ensures)
    (passed_entry c.args.definition.now c.args.committed.now c.args.overlay.now c.args.at.now c.requires.rising c.requires.below c.in-Some.entry.1.now c.in-Some.entry.0 c.in-Some.ensures.there c.in-Some.ensures.place c.in-Some-other.row.1.now c.in-Some-other.row.0 c.in-Some-other.ensures.there c.in-Some-other.ensures.place (compared c.get.result.now c.args.definition.now c.get-2.result.now c.in-Some.entry.1.now.bearer c.get-3.result.now c.in-Some-other.row.1.now c.rows_cmp.result Greater c.get.ensures c.get-2.ensures c.get-3.ensures c.rows_cmp.ensures c.in-Greater.is))
