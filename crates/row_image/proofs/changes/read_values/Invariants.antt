use Rattle.std.proofs.Common.{◌≡◌, drop}
use Rattle.log_model.specs.Images.{types_of, values_at}
use Rattle.row_image.specs.Walk.{ahead}
use Rattle.row_image.proofs.changes.read_values.Given as goal

abbrev pub invariant-loop-kind : goal.invariant-loop-kind
invariant-loop-kind l = record {
  at : l.column ≡ l.kind-index;
  same : ahead l.row (values_at (types_of (drop l.kind-index l.map.kinds.now) l.metadata) l.nulls l.kind-index l.rest)
      ≡ values_at (types_of l.map.kinds.now l.map.metadata.now) l.nulls 0 l.fn.bytes;
}
