use Rattle.std.proofs.Common.{◌≡◌, ◌+◌, ◌-◌, ◌≤◌, length, take}
use Rattle.block_list.specs.Layouts.{flat, room}
use Rattle.block_list.specs.Spots.{place, IsSpot}
use Rattle.row_index.proofs.copying.numbers_copied.Given as goal

-- the numbers so far are copied, and there is room for the others
abbrev pub invariant-loop-number : goal.invariant-loop-number
invariant-loop-number l = record {
  spot : IsSpot l.numbers.blocks l.at;
  within : place l.numbers.blocks l.at ≤ length (flat l.numbers.blocks);
  so_far : flat l.copy.blocks ≡ take (place l.numbers.blocks l.at) (flat l.numbers.blocks);
  roomy : length (flat l.numbers.blocks) ≤ place l.numbers.blocks l.at + room l.copy;
}

abbrev pub decreases-loop-number : goal.decreases-loop-number
decreases-loop-number l = length (flat l.numbers.blocks) - place l.numbers.blocks l.at
