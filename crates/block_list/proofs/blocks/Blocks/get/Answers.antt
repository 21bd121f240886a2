use Rattle.std.proofs.Common.{ℕ, List, get_or, Some, sym, ap, ◌∙◌, arith}
use Rattle.std.specs.Prelude.{slice_get}
use Rattle.block_list.specs.Layouts.{flat}
use Rattle.block_list.specs.Spots.{place}
use Rattle.block_list.proofs.Standing.{number_at, none_past}
use Rattle.block_list.proofs.blocks.Blocks.get.Goals as goal

pub returns-in-Some : goal.returns-in-Some
returns-in-Some c =
    ap (λ (xs : List ℕ). Some (get_or xs c.in-Some.here.at 0)) c.numbers_of.ensures.value
    ∙ sym (number_at c.args.self.now.blocks c.in-Some.here.block c.in-Some.here.at (c.in-Some.ensures.some).0)
    ∙ ap (λ (i : ℕ). slice_get (flat c.args.self.now.blocks) i) (c.in-Some.ensures.some).1

pub returns-in-None : goal.returns-in-None
returns-in-None c = sym (none_past (flat c.args.self.now.blocks) (place c.args.self.now.blocks c.args.spot) (omega (arith, c.in-None.ensures.none)))
