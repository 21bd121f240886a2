use Rattle.std.proofs.Common.{◌≡◌, ◌<◌, length, Some, None, sym, ◌∙◌, arith}
use Rattle.std.specs.Prelude.{slice_get}
use Rattle.std.proofs.lemmas.Option.{slice_get_within}
use Rattle.block_list.specs.Layouts.{flat}
use Rattle.block_list.specs.Spots.{place}
use Rattle.row_index.proofs.Copied.{put_next, all_put}
use Rattle.row_index.proofs.copying.numbers_copied.Goals as goal

pub loop-number-preserved : goal.loop-number-preserved
loop-number-preserved c =
    let there : slice_get (flat c.args.numbers.now.blocks) (place c.args.numbers.now.blocks c.loop-number.at) ≡ Some c.in-Some.number = sym c.in-Some.ensures in
    let within : place c.args.numbers.now.blocks c.loop-number.at < length (flat c.args.numbers.now.blocks) = slice_get_within (flat c.args.numbers.now.blocks) (place c.args.numbers.now.blocks c.loop-number.at) c.in-Some.number there in
    record {
      spot = c.after-at.ensures.spot;
      within = omega (arith, within, c.after-at.ensures.place);
      so_far = put_next (flat c.args.numbers.now.blocks) (flat c.loop-number.copy.blocks) (flat c.put.new.self.blocks) (place c.args.numbers.now.blocks c.loop-number.at) (place c.args.numbers.now.blocks c.after-at.result)
          (place c.loop-number.copy.blocks c.end-end.result) c.in-Some.number c.loop-number.invariant.so_far there c.after-at.ensures.place c.end-end.ensures.place c.put.ensures.numbers;
      roomy = omega (arith, c.loop-number.invariant.roomy, c.after-at.ensures.place, c.put.ensures.room);
    }

pub returns : goal.returns
returns c =
    let none : slice_get (flat c.args.numbers.now.blocks) (place c.args.numbers.now.blocks c.loop-number.at) ≡ None = sym c.in_default.ensures in
    c.loop-number.invariant.so_far ∙ all_put (flat c.args.numbers.now.blocks) (place c.args.numbers.now.blocks c.loop-number.at) none
