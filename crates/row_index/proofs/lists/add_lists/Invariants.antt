use Rattle.std.proofs.Common.{◌-◌, vec_len}
use Rattle.row_index.specs.Lists.{KeepsNumbers}
use Rattle.row_index.proofs.lists.add_lists.Given as goal

-- the lists keep their numbers
abbrev pub invariant-loop-alloc : goal.invariant-loop-alloc
invariant-loop-alloc l = KeepsNumbers l.initial.lists.items l.lists.items

abbrev pub decreases-loop-alloc : goal.decreases-loop-alloc
decreases-loop-alloc l = l.count - vec_len l.lists
