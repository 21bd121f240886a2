use Rattle.std.proofs.Common.{◌≡◌, ◌≤◌, ◌++◌, drop, flat_map}
use Rattle.catalog_show_create.specs.catalog_objects.Keys.{objects_of}
use Rattle.run_streams.specs.Wrote.{Writing}
use Rattle.dump_store.specs.Lines.{object_lines}
use Rattle.dump_store.proofs.writing.write_objects.Given as goal

-- all lines were written but those that are gathered and those of the objects that are left
abbrev pub invariant-loop-object : goal.invariant-loop-object
invariant-loop-object g l = record {
  lines : Writing (g.K.Sink.written l.fn.out) (g.K.Sink.written l.out) (l.fn.text ++ flat_map (object_lines l.tables.tables) (objects_of l.objects))
      (l.text ++ flat_map (object_lines l.tables.tables) (objects_of (drop l.object-index l.objects)));
  later : g.K.Sink.faults l.fn.out ≤ g.K.Sink.faults l.out;
  ended : g.K.Sink.ended l.fn.out ≡ 0 → g.K.Sink.ended l.out ≡ 0;
}
