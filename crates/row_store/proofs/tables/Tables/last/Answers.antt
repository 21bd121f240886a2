use Rattle.std.proofs.Common.{◌-◌, ◌≤◌, List, length, ap, ◌∙◌, arith}
use Rattle.std.specs.Prelude.{slice_get}
use Rattle.val_types.specs.declared.value.Value.{Value}
use Rattle.row_store.proofs.Shelved.{none_past}
use Rattle.row_store.proofs.Walking.{rows_here}
use Rattle.row_store.proofs.tables.Tables.last.Goals as goal

pub returns-then-at-len : goal.returns-then-at-len
returns-then-at-len c =
    let past : length c.self.inside.shelves.items ≤ c.args.at = omega arith in
    rw (← c.self.view_is) (λ name e. absurd (none_past name c.self.inside.shelves.items c.args.at past e))

pub returns : goal.returns
returns c =
    rw (← c.self.view_is)
    (λ name e. c.last.ensures ∙ ap (λ (rows : List (List Value)). slice_get rows (length rows - 1)) (rows_here name c.self.inside.shelves.items c.args.at c.index.result.now c.index.ensures e))
