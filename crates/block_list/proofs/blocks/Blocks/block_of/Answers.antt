use Rattle.std.proofs.Common.{ℕ, ◌+◌, ◌-◌, sym, subst, arith}
use Rattle.std.specs.Prelude.{slice_index}
use Rattle.block_list.specs.Places.{AreParted, IsPlace}
use Rattle.block_list.specs.Spots.{block_at}
use Rattle.block_list.proofs.Standing.{some_at}
use Rattle.block_list.proofs.Found.{firsts_in_order}
use Rattle.block_list.proofs.blocks.Blocks.block_of.Goals as goal

pub place_in-requires : goal.place_in-requires
place_in-requires g c = record {
  callable = λ at lt. (c.requires.callable, (some_at c.args.self.now.blocks (at + 1) c.block_count-blocks.ensures.shaped (omega (arith, lt, c.block_count-blocks.ensures.count)), omega (arith, lt, c.block_count-blocks.type_inv)));
}

pub returns-clause-place : goal.returns-clause-place
returns-clause-place g c = λ order computes in_order.
    subst (λ (count : ℕ). IsPlace (λ at. order (slice_index (block_at c.args.self.now.blocks (at + 1)) 0)) (count - 1) c.place_in.result) c.block_count-blocks.ensures.count
    (c.place_in.ensures.place (λ at. order (slice_index (block_at c.args.self.now.blocks (at + 1)) 0)) (λ at o lt post. computes _ _ post)
    (subst (λ (count : ℕ). AreParted (λ at. order (slice_index (block_at c.args.self.now.blocks (at + 1)) 0)) (count - 1)) (sym c.block_count-blocks.ensures.count) (firsts_in_order order c.args.self.now.blocks c.block_count-blocks.ensures.shaped in_order)))
