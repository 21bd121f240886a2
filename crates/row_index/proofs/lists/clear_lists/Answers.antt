use Rattle.std.proofs.Common.{◌∙◌, arith}
use Rattle.row_index.proofs.Listing.{cleared_next, all_cleared}
use Rattle.row_index.proofs.lists.clear_lists.Goals as goal

pub loop-which-preserved : goal.loop-which-preserved
loop-which-preserved c = record {
  none = cleared_next c.loop-which.which c.loop-which.lists.items c.clear_one.new.lists.items c.clear_one.ensures.none c.clear_one.ensures.others c.loop-which.invariant.none;
  holds = λ w. c.clear_one.ensures.holds w ∙ c.loop-which.invariant.holds w;
  len = c.clear_one.ensures.len ∙ c.loop-which.invariant.len;
}

pub returns-clause-none : goal.returns-clause-none
returns-clause-none c =
    all_cleared c.loop-which.lists.items c.loop-which.which (omega (arith, c.loop-which-test.false, c.loop-which.invariant.len, c.len-which-end.ensures, c.loop-which.lists.ok.0, c.args.lists.now.ok.0)) c.loop-which.invariant.none
