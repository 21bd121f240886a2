use Rattle.std.proofs.Common.{arith, sym, ◌∙◌, map}
use Rattle.val_types.specs.Changes.{table_of}
use Rattle.row_events.proofs.Naming.{names_kept, names_grown, new_at_first}
use Rattle.row_events.proofs.tables.tables_of.Goals as goal
use Rattle.row_events.proofs.tables.tables_of.Goals.{then-not-have_table+in_ok-duplicate+in_ok-push, else-not-have_table}

pub loop-place-init : goal.loop-place-init
loop-place-init c = rw c.new-names.ensures (new_at_first (map table_of c.args.changes.now))

pub loop-place-preserved : goal.loop-place-preserved
loop-place-preserved c =
    elim c.if-not-have_table.branch [
      | then-not-have_table+in_ok-duplicate+in_ok-push w ↦
          rw w.names-is (names_grown c.args.changes.now c.loop-place.place c.index-changes-place.result w.in_ok-duplicate.field-0 c.loop-place.names w.push.new.self _ (omega arith) (sym c.index-changes-place.is)
          (sym (rw c.table-name.ensures at c.have_table.ensures) ∙ w.if-not-have_table.true) (w.in_ok-duplicate.ensures ∙ c.table-name.ensures) w.in_ok-push.ensures.ok c.loop-place.invariant)
      | else-not-have_table w ↦
          rw w.names-is (names_kept c.args.changes.now c.loop-place.place c.index-changes-place.result c.loop-place.names _ (omega arith) (sym c.index-changes-place.is)
          (sym (rw c.table-name.ensures at c.have_table.ensures) ∙ w.if-not-have_table.false) c.loop-place.invariant)
    ]
