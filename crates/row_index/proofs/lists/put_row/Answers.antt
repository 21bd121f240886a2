use Rattle.std.proofs.Common.{length, sym, ap, subst, arith}
use Rattle.std.proofs.lemmas.Option.{slice_get_within}
use Rattle.block_list.specs.Layouts.{Layout}
use Rattle.row_index.specs.Numbers.{CanPut, IsPut}
use Rattle.row_index.specs.Lists.{list_at}
use Rattle.row_index.proofs.Listing.{key_here, one_more, others_left}
use Rattle.row_index.proofs.lists.put_row.Goals as goal

pub put_one-requires-clause-can : goal.put_one-requires-clause-can
put_one-requires-clause-can g c =
    subst (λ (l : Layout). CanPut c.key-item.result (g.R.RowsByNumber.row_of c.args.rows.now) l) (sym (c.loop-which.invariant.left c.loop-which.which (omega arith))) (c.requires.can c.loop-which.which c.key-item.result (key_here c.args.definition.now.uniques c.as_slice-key-items.result.now c.loop-which.which c.key-item.result c.as_slice-key-items.ensures (omega arith) c.key-item.is))

pub loop-which-preserved : goal.loop-which-preserved
loop-which-preserved g c = record {
  so_far =
      one_more (λ key old new. IsPut key (g.R.RowsByNumber.row_of c.args.rows.now) c.args.row.now old new) c.args.definition.now.uniques c.loop-which.which c.key-item.result c.args.lists.now.items c.loop-which.lists.items c.put_one.new.lists.items
      (key_here c.args.definition.now.uniques c.as_slice-key-items.result.now c.loop-which.which c.key-item.result c.as_slice-key-items.ensures (omega arith) c.key-item.is)
      (subst (λ (l : Layout). IsPut c.key-item.result (g.R.RowsByNumber.row_of c.args.rows.now) c.args.row.now l (list_at c.put_one.new.lists.items c.loop-which.which)) (c.loop-which.invariant.left c.loop-which.which (omega arith)) c.put_one.ensures.put)
      c.put_one.ensures.others c.loop-which.invariant.so_far;
  left = others_left c.loop-which.which c.args.lists.now.items c.loop-which.lists.items c.put_one.new.lists.items c.put_one.ensures.others c.loop-which.invariant.left;
}

pub returns : goal.returns
returns g c = λ which key is. c.loop-which.invariant.so_far which key is (omega (arith, slice_get_within c.args.definition.now.uniques which key is, ap length c.as_slice-key-items.ensures))
