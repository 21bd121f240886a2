use Rattle.std.proofs.Common.{List, map, ap, ◌∙◌, arith}
use Rattle.block_list.specs.Layouts.{Layout, flat}
use Rattle.row_index.proofs.Listing.{same_numbers, taken_whole}
use Rattle.row_index.proofs.copying.copied_lists.Goals as goal

pub returns : goal.returns
returns c = λ which.
    same_numbers c.loop-numbers.copy.items c.args.lists.now.items
    (c.loop-numbers.invariant.so_far
    ∙ ap (λ (ls : List Layout). map (λ (l : Layout). flat l.blocks) ls) (taken_whole c.as_slice-numbers-items.result.now c.loop-numbers.numbers-index (omega (arith, c.loop-numbers-test.false)) ∙ c.as_slice-numbers-items.ensures.value)) which
