use Rattle.std.proofs.Common.{◌≤◌, length, ap, ◌∙◌, arith}
use Rattle.std.specs.Prelude.{filter}
use Rattle.table_rules.specs.Tables.{Table}
use Rattle.table_sheet.specs.value_ranges.Keys.{row_is_in}
use Rattle.table_sheet.specs.value_ranges.Ranges.{range_of}
use Rattle.row_store.proofs.Beside.{if_ok}
use Rattle.row_store.proofs.Shelved.{none_past}
use Rattle.row_store.proofs.Walking.{table_here}
use Rattle.row_store.proofs.tables.Tables.rows_between.Goals as goal

pub returns-then-at-len : goal.returns-then-at-len
returns-then-at-len c =
    let past : length c.self.inside.shelves.items ≤ c.args.at = omega arith in
    rw (← c.self.view_is) (λ name table e named. absurd (none_past name c.self.inside.shelves.items c.args.at past e))

pub returns : goal.returns
returns c =
    rw (← c.self.view_is)
    (λ name table e named. if_ok c.rows_between.result _ _
    (λ rows is. is ∙ ap (λ (t : Table). filter (row_is_in t.definition (range_of c.args.range)) t.rows) (table_here name c.self.inside.shelves.items c.args.at c.index.result.now table c.index.ensures e named))
    c.rows_between.ensures)
