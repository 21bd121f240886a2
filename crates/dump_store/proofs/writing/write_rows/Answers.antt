use Rattle.std.proofs.Common.{rules, ◌≡◌, flat_map, refl, arith}
use Rattle.dump_store.specs.Lines.{row_line}
use Rattle.dump_store.proofs.Gathered.{at_err, item_breaks, item_written}
use Rattle.dump_store.proofs.writing.write_rows.Goals as goal

pub returns-in_err-gather-clause-err : goal.returns-in_err-gather-clause-err
returns-in_err-gather-clause-err g c =
    let put : c.in_ok-line.line ≡ row_line c.row-item.result = search rules in
    at_err c.from_residual-in_err-gather.result _
    (item_breaks row_line (flat_map row_line) (λ x xs. refl) c.args.rows.now c.loop-row.row-index _ _ _ c.loop-row.text c.row-item.result c.loop-row-test.true c.row-item.is c.in_ok-line.line put c.loop-row.invariant.lines _ c.in_err-gather.ensures.err)

pub loop-row-preserved : goal.loop-row-preserved
loop-row-preserved g c =
    let put : c.in_ok-line.line ≡ row_line c.row-item.result = search rules in
    record {
      lines = item_written row_line (flat_map row_line) (λ x xs. refl) c.args.rows.now c.loop-row.row-index _ _ _ c.loop-row.text c.row-item.result c.loop-row-test.true c.row-item.is c.in_ok-line.line put c.loop-row.invariant.lines _ c.gather.new.text c.in_ok-gather.ensures.ok;
      later = omega (arith, c.loop-row.invariant.later, c.gather.ensures.later);
      ended = λ fresh. c.in_ok-gather.ensures.ended (c.loop-row.invariant.ended fresh);
    }
