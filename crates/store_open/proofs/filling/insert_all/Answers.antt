use Rattle.std.proofs.Common.{◌≡◌, ◌∙◌, false, true, length, refl, rules, arith}
use Rattle.std.proofs.lemmas.Option.{slice_get_read}
use Rattle.store_open.proofs.Rows.{step_filled, step_not}
use Rattle.store_open.proofs.filling.insert_all.Goals as goal

pub returns-then-not-branch-clause-fills : goal.returns-then-not-branch-clause-fills
returns-then-not-branch-clause-fills c before d e =
    let no : c.in_ok-insert_row.field-0 ≡ false = search rules in
    step_not before d c.args.name.now e.apart e.named c.in_ok-insert_row.field-0 c.args.rows.now c.loop-row.row-index _ _ _ c.row-item.result no (c.loop-row.invariant.fills before d e)
    (slice_get_read c.args.rows.now (length c.args.rows.now) c.loop-row.row-index c.row-item.result refl (omega arith) c.row-item.is) c.in_ok-share.ensures c.in_ok-insert_row.ensures.made

pub loop-row-preserved : goal.loop-row-preserved
loop-row-preserved c =
    let yes : c.in_ok-insert_row.field-0 ≡ true = search rules in
    record {
      fills = λ before d e.
          step_filled before d c.args.name.now e.apart e.named c.in_ok-insert_row.field-0 c.args.rows.now c.loop-row.row-index _ _ _ c.row-item.result yes (c.loop-row.invariant.fills before d e)
          (slice_get_read c.args.rows.now (length c.args.rows.now) c.loop-row.row-index c.row-item.result refl (omega arith) c.row-item.is) c.in_ok-share.ensures c.in_ok-insert_row.ensures.made;
      rest = record {
        objects = c.insert_row.ensures.rest.objects ∙ c.loop-row.invariant.rest.objects;
        counters = c.insert_row.ensures.rest.counters ∙ c.loop-row.invariant.rest.counters;
      };
    }
