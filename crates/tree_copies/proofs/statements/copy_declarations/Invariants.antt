use Rattle.std.proofs.Common.{◌≡◌, take}
use Rattle.tree_copies.proofs.statements.copy_declarations.Given as goal

abbrev pub invariant-loop-declaration : goal.invariant-loop-declaration
invariant-loop-declaration l = l.copy ≡ take l.declaration-index l.declaration-items
