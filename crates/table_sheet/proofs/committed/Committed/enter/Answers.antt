use Rattle.std.proofs.Common.{Some, None, refl, sym, ap, subst, ◌∙◌}
use Rattle.std.specs.Prelude.{slice_get, IsSome}
use Rattle.val_types.specs.declared.definitions.TableDef.{TableDef}
use Rattle.val_types.specs.Keys.{primary_key}
use Rattle.row_index.specs.row_sheets.Claims.{row_under}
use Rattle.table_sheet.specs.Numbered.{row_of}
use Rattle.table_sheet.specs.Parts.{committed_slots}
use Rattle.table_sheet.proofs.Slotted.{never_none}
use Rattle.table_sheet.proofs.Below.{under_found, under_missing, none_entered, row_entered}
use Rattle.table_sheet.proofs.committed.Committed.enter.Goals as goal

pub put_row-requires-clause-there : goal.put_row-requires-clause-there
put_row-requires-clause-there c = sym c.in-Some-get.ensures

pub put_row-requires-clause-can : goal.put_row-requires-clause-can
put_row-requires-clause-can c = λ which u e.
    c.requires.can (subst IsSome (sym (under_found c.args.definition.now c.args.self.now.rows.rows c.args.self.now.order.blocks c.in-Ok.spot (primary_key c.args.definition.now c.args.bearer.now) c.in-Some.number (Some c.in-Some-get.row.now) c.requires.rises c.args.self.now.numbered c.in-Ok.ensures.found c.in-Some.ensures c.in-Some-get.ensures)) refl)
    which u (ap (λ (x : TableDef). slice_get x.uniques which) (sym c.get-table.ensures) ∙ e)

pub returns-in_default-clause-entered : goal.returns-in_default-clause-entered
returns-in_default-clause-entered c =
    none_entered c.args.definition.now.uniques (row_of c.args.self.now.rows.rows) (row_under (primary_key c.args.definition.now c.args.bearer.now) (committed_slots c.args.definition.now c.args.self.now)) c.args.self.now.indexes.items (under_missing c.args.definition.now c.args.self.now.rows.rows c.args.self.now.order.blocks c.in_default.field-0 (primary_key c.args.definition.now c.args.bearer.now) c.in_default.ensures.found)

pub returns-in_default-get-clause-entered : goal.returns-in_default-get-clause-entered
returns-in_default-get-clause-entered c = λ which key is. never_none c.args.self.now.order.blocks c.in-Ok.spot c.in-Ok.ensures.spot c.in_default-get.ensures

pub returns-in-Some-get-clause-entered : goal.returns-in-Some-get-clause-entered
returns-in-Some-get-clause-entered c =
    row_entered c.get-table.result.now c.args.definition.now c.get-table.ensures (row_of c.args.self.now.rows.rows) (row_under (primary_key c.args.definition.now c.args.bearer.now) (committed_slots c.args.definition.now c.args.self.now)) c.in-Some-get.row.now c.args.self.now.indexes.items c.put_row.new.lists.items
    (under_found c.args.definition.now c.args.self.now.rows.rows c.args.self.now.order.blocks c.in-Ok.spot (primary_key c.args.definition.now c.args.bearer.now) c.in-Some.number (Some c.in-Some-get.row.now) c.requires.rises c.args.self.now.numbered c.in-Ok.ensures.found c.in-Some.ensures c.in-Some-get.ensures) c.put_row.ensures

pub returns-in-None-clause-entered : goal.returns-in-None-clause-entered
returns-in-None-clause-entered c =
    none_entered c.args.definition.now.uniques (row_of c.args.self.now.rows.rows) (row_under (primary_key c.args.definition.now c.args.bearer.now) (committed_slots c.args.definition.now c.args.self.now)) c.args.self.now.indexes.items (under_found c.args.definition.now c.args.self.now.rows.rows c.args.self.now.order.blocks c.in-Ok.spot (primary_key c.args.definition.now c.args.bearer.now) c.in-Some.number None c.requires.rises c.args.self.now.numbered c.in-Ok.ensures.found c.in-Some.ensures c.in-None.ensures)
