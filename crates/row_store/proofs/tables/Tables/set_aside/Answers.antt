use Rattle.std.proofs.Common.{◌≡◌, ◌<◌, ◌≤◌, List, length, sym, subst, arith}
use Rattle.std.specs.Prelude.{slice_set}
use Rattle.std.proofs.Math.ListN.{length-set}
use Rattle.table_sheet.specs.declared.overlay.Overlay.{Overlay}
use Rattle.row_store.proofs.Asides.{Takes, takes_at, takes_all, takes_bare, bare_store, bare_names}
use Rattle.row_store.proofs.tables.Tables.set_aside.Goals as goal

pub loop-i-preserved : goal.loop-i-preserved
loop-i-preserved c =
    let within : c.loop-i.i < length c.loop-i.self-inside.shelves.items = omega (arith, c.loop-i.invariant.long) in
    record {
      long = simp length-set c.loop-i.invariant.long;
      so_far = omega (arith, c.push_reserved.new.self.ok, c.push_reserved.ensures.len, c.loop-i.invariant.len);
      len = omega (arith, c.push_reserved.ensures.len, c.loop-i.invariant.len);
      room = omega (arith, c.push_reserved.ensures.capacity, c.loop-i.invariant.room);
      takes =
          subst (λ (os : List Overlay). Takes c.args.self.now os (slice_set c.loop-i.self-inside.shelves.items c.loop-i.i c.set_aside-overlay.new.self)) (sym c.push_reserved.ensures.items)
          (takes_at c.args.self.now c.loop-i.overlays.items c.set_aside-overlay.result c.loop-i.self-inside.shelves.items c.index_mut.result.now c.set_aside-overlay.new.self c.loop-i.i c.loop-i.invariant.so_far c.index_mut.ensures.value within (c.set_aside-overlay.ensures.entries, c.set_aside-overlay.ensures.fits) c.set_aside-overlay.ensures.page c.loop-i.invariant.takes);
    }

pub invariant_of-self : goal.invariant_of-self
invariant_of-self c =
    let past : length c.loop-i.self-inside.shelves.items ≤ length c.loop-i.overlays.items = omega (arith, c.loop-i.invariant.long, c.loop-i.invariant.so_far) in
    bare_names c.args.self.now (length c.loop-i.overlays.items) c.loop-i.self-inside.shelves.items past (takes_bare c.args.self.now c.loop-i.overlays.items c.loop-i.self-inside.shelves.items c.loop-i.invariant.takes)

pub returns-clause-ok : goal.returns-clause-ok
returns-clause-ok c =
    let past : length c.loop-i.self-inside.shelves.items ≤ length c.loop-i.overlays.items = omega (arith, c.loop-i.invariant.long, c.loop-i.invariant.so_far) in
    bare_store c.args.self.now (length c.loop-i.overlays.items) c.loop-i.self-inside.shelves.items past (takes_bare c.args.self.now c.loop-i.overlays.items c.loop-i.self-inside.shelves.items c.loop-i.invariant.takes)

pub returns-clause-aside : goal.returns-clause-aside
returns-clause-aside c =
    let all : length c.loop-i.self-inside.shelves.items ≡ length c.loop-i.overlays.items = omega (arith, c.loop-i.invariant.long, c.loop-i.invariant.so_far) in
    takes_all c.args.self.now (record { overlays = c.loop-i.overlays }) c.loop-i.self-inside.shelves.items all c.loop-i.invariant.takes
