use Rattle.std.proofs.Common.{◌≡◌, ◌++◌, drop, map}
use Rattle.std.specs.Prelude.{flat_map}
use Rattle.log_model.specs.Items.{kind_of, type_metadata}
use Rattle.row_image.proofs.map.metadata_of.Given as goal

abbrev pub invariant-loop-column : goal.invariant-loop-column
invariant-loop-column l = l.bytes ++ flat_map type_metadata (map kind_of (drop l.column-index l.columns)) ≡ flat_map type_metadata (map kind_of l.fn.columns)
