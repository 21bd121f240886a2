use Rattle.std.proofs.Common.{Some, None, sym, ap, ◌∙◌}
use Rattle.std.specs.Prelude.{slice_get}
use Rattle.val_types.specs.declared.definitions.TableDef.{TableDef}
use Rattle.val_types.specs.Keys.{primary_key}
use Rattle.row_index.specs.row_sheets.Claims.{row_under}
use Rattle.table_sheet.specs.Numbered.{row_of}
use Rattle.table_sheet.specs.Parts.{committed_slots}
use Rattle.table_sheet.proofs.Slotted.{never_none}
use Rattle.table_sheet.proofs.Below.{under_found, under_missing, none_left, row_left}
use Rattle.table_sheet.proofs.committed.Committed.leave.Goals as goal

pub take_row-requires : goal.take_row-requires
take_row-requires c = λ which u e. c.requires.rise which u (ap (λ (x : TableDef). slice_get x.uniques which) (sym c.get-table.ensures) ∙ e)

pub returns-in_default-clause-left : goal.returns-in_default-clause-left
returns-in_default-clause-left c =
    none_left c.args.definition.now.uniques (row_of c.args.self.now.rows.rows) (row_under (primary_key c.args.definition.now c.args.bearer.now) (committed_slots c.args.definition.now c.args.self.now)) c.args.self.now.indexes.items (under_missing c.args.definition.now c.args.self.now.rows.rows c.args.self.now.order.blocks c.in_default.field-0 (primary_key c.args.definition.now c.args.bearer.now) c.in_default.ensures.found)

pub returns-in_default-get-clause-left : goal.returns-in_default-get-clause-left
returns-in_default-get-clause-left c = λ which key is. never_none c.args.self.now.order.blocks c.in-Ok.spot c.in-Ok.ensures.spot c.in_default-get.ensures

pub returns-in-Some-get-clause-left : goal.returns-in-Some-get-clause-left
returns-in-Some-get-clause-left c =
    row_left c.get-table.result.now c.args.definition.now c.get-table.ensures (row_of c.args.self.now.rows.rows) (row_under (primary_key c.args.definition.now c.args.bearer.now) (committed_slots c.args.definition.now c.args.self.now)) c.in-Some-get.row.now c.args.self.now.indexes.items c.take_row.new.lists.items
    (under_found c.args.definition.now c.args.self.now.rows.rows c.args.self.now.order.blocks c.in-Ok.spot (primary_key c.args.definition.now c.args.bearer.now) c.in-Some.number (Some c.in-Some-get.row.now) c.requires.rises c.args.self.now.numbered c.in-Ok.ensures.found c.in-Some.ensures c.in-Some-get.ensures) c.take_row.ensures

pub returns-in-None-clause-left : goal.returns-in-None-clause-left
returns-in-None-clause-left c =
    none_left c.args.definition.now.uniques (row_of c.args.self.now.rows.rows) (row_under (primary_key c.args.definition.now c.args.bearer.now) (committed_slots c.args.definition.now c.args.self.now)) c.args.self.now.indexes.items (under_found c.args.definition.now c.args.self.now.rows.rows c.args.self.now.order.blocks c.in-Ok.spot (primary_key c.args.definition.now c.args.bearer.now) c.in-Some.number None c.requires.rises c.args.self.now.numbered c.in-Ok.ensures.found c.in-Some.ensures c.in-None.ensures)
