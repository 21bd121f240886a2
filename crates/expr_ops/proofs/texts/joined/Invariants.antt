use Rattle.std.proofs.Common.{◌≡◌, ◌++◌, drop}
use Rattle.std.specs.List.{flat_map}
use Rattle.value_rules.specs.Functions.{piece_of}
use Rattle.expr_ops.proofs.texts.joined.Given as goal

-- the text so far and the pieces that are left make the whole
abbrev pub invariant-loop-value : goal.invariant-loop-value
invariant-loop-value l = l.text ++ flat_map piece_of (drop l.value-index l.value-items) ≡ flat_map piece_of l.values
