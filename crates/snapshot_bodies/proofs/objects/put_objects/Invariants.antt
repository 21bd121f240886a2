use Rattle.std.proofs.Common.{◌≡◌, ◌++◌, drop}
use Rattle.std.specs.Prelude.{flat_map}
use Rattle.catalog_show_create.specs.catalog_objects.Keys.{objects_of}
use Rattle.store_model.specs.Snapshots.{object_bytes}
use Rattle.snapshot_bodies.proofs.objects.put_objects.Given as goal

abbrev pub invariant-loop-object : goal.invariant-loop-object
invariant-loop-object l =
    l.out ++ flat_map (object_bytes l.fn.tables.committed) (objects_of (drop l.object-index l.objects)) ≡ l.fn.out ++ flat_map (object_bytes l.fn.tables.committed) (objects_of l.objects)
