use Rattle.std.proofs.Common.{◌≡◌, drop}
use Rattle.log_model.specs.Images.{types_of, values_at}
use Rattle.row_image.specs.Walk.{behind}
use Rattle.row_image.proofs.fitting.behind_values.Given as goal

abbrev pub invariant-loop-kind : goal.invariant-loop-kind
invariant-loop-kind l = record {
  at : l.column ≡ l.kind-index;
  same : behind (values_at (types_of (drop l.kind-index l.map.kinds.now) l.metadata) l.nulls l.kind-index l.rest)
      ≡ behind (values_at (types_of l.map.kinds.now l.map.metadata.now) l.nulls 0 l.fn.bytes);
}
