use Rattle.std.proofs.Common.{◌≡◌, length, ap, ◌∙◌, arith}
use Rattle.row_index.proofs.Fronts.{front_behind, before_longer}
use Rattle.row_index.proofs.comparing.columns_cmp.Goals as goal

pub returns-then-i-len : goal.returns-then-i-len
returns-then-i-len c =
    let long : length c.as_slice-column-items.result.now ≡ length c.args.columns.now = ap length c.as_slice-column-items.ensures in
    front_behind c.args.columns.now c.args.row.now c.args.values.now c.loop-i.i (omega arith) (omega arith) ∙ c.loop-i.invariant.rest

pub returns-then-len : goal.returns-then-len
returns-then-len c =
    let long : length c.as_slice-column-items.result.now ≡ length c.args.columns.now = ap length c.as_slice-column-items.ensures in
    before_longer c.args.columns.now c.args.row.now c.args.values.now c.loop-i.i (omega arith) (omega arith) (omega arith) ∙ c.loop-i.invariant.rest
