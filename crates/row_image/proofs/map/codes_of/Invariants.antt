use Rattle.std.proofs.Common.{◌≡◌, ◌++◌, drop, map}
use Rattle.log_model.specs.Items.{kind_of, type_code}
use Rattle.row_image.proofs.map.codes_of.Given as goal

abbrev pub invariant-loop-column : goal.invariant-loop-column
invariant-loop-column l = l.codes ++ map type_code (map kind_of (drop l.column-index l.columns)) ≡ map type_code (map kind_of l.fn.columns)
