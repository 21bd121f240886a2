use Rattle.std.proofs.Common.{◌≡◌, drop}
use Rattle.apply_model.specs.log_model.Images.{types_of as types_in}
use Rattle.apply_model.specs.Rows.{are_same_types}
use Rattle.row_apply.proofs.Alike.{kinds_of}
use Rattle.row_apply.proofs.columns.are_same_types.Given as goal

abbrev pub invariant-loop-kind : goal.invariant-loop-kind
invariant-loop-kind l =
    are_same_types (types_in (drop l.kind-index l.map.kinds.now) l.metadata) (kinds_of l.columns)
    ≡ are_same_types (types_in l.map.kinds.now l.map.metadata.now) (kinds_of l.definition.columns)
