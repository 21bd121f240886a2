use Rattle.block_list.specs.Spots.{IsSpot}
use Rattle.test_blocks.proofs.has_just_backwards.Given as goal

-- the spot is one of the set
abbrev pub invariant-loop-number : goal.invariant-loop-number
invariant-loop-number l = IsSpot l.set.blocks l.spot
