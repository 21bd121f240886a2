use Rattle.std.proofs.Common.{◌≡◌, map, take}
use Rattle.block_list.specs.Layouts.{Layout, flat}
use Rattle.row_index.proofs.copying.copied_lists.Given as goal

-- the lists so far are copied
abbrev pub invariant-loop-numbers : goal.invariant-loop-numbers
invariant-loop-numbers l = record { so_far : map (λ (x : Layout). flat x.blocks) l.copy.items ≡ map (λ (x : Layout). flat x.blocks) (take l.numbers-index l.numbers-items) }
