use Rattle.std.proofs.Common.{◌∙◌, sym, ap, arith, ℕ, List}
use Rattle.event_codec.specs.Event.{table_map}
use Rattle.event_codec.specs.Writing.{size}
use Rattle.val_types.specs.Changes.{table_of}
use Rattle.val_types.specs.declared.definitions.ColumnDef.{ColumnDef}
use Rattle.log_model.specs.Items.{map_of, columns_in}
use Rattle.row_events.specs.Sizes.{bounded}
use Rattle.row_events.proofs.Summing.{maps_old, maps_new, maps_begin, maps_done}
use Rattle.row_events.proofs.event_sizes.maps_size.Goals as goal
use Rattle.row_events.proofs.event_sizes.maps_size.Goals.{then-not-have_table, else-not-have_table}

pub loop-place-init : goal.loop-place-init
loop-place-init c = record { same = maps_begin c.args.defs.now c.args.changes.now; fits = omega arith }

pub loop-place-preserved : goal.loop-place-preserved
loop-place-preserved c =
    elim c.if-not-have_table.branch [
      | then-not-have_table w ↦
          rw w.size-is (record {
            same =
                maps_new c.args.defs.now c.args.changes.now c.loop-place.place c.index-changes-place.result w.map_size.result c.loop-place.size w.saturating_add-size.result _ (omega arith) (sym c.index-changes-place.is)
                (sym (rw c.table-name.ensures at c.have_table.ensures) ∙ w.if-not-have_table.true)
                (w.map_size.ensures 1 ∙ ap (λ (cs : List ColumnDef). bounded (size (table_map (map_of 1 c.table-name.result.now cs)))) w.slice_of.ensures
                ∙ ap (λ (n : List ℕ). bounded (size (table_map (map_of 1 n (columns_in c.args.defs.now n))))) c.table-name.ensures)
                w.saturating_add-size.ensures c.loop-place.invariant.same;
            fits = omega (arith, w.saturating_add-size.ensures);
          })
      | else-not-have_table w ↦
          rw w.size-is (record {
            same =
                maps_old c.args.defs.now c.args.changes.now c.loop-place.place c.index-changes-place.result c.loop-place.size _ (omega arith) (sym c.index-changes-place.is)
                (sym (rw c.table-name.ensures at c.have_table.ensures) ∙ w.if-not-have_table.false) c.loop-place.invariant.same;
            fits = c.loop-place.invariant.fits;
          })
    ]

pub returns : goal.returns
returns c = maps_done c.args.defs.now c.args.changes.now c.loop-place.place c.loop-place.size _ (omega arith) c.loop-place.invariant.fits c.loop-place.invariant.same
