use Rattle.std.proofs.Common.{rules, ◌≡◌, ap, flat_map, refl}
use Rattle.catalog_show_create.specs.catalog_objects.Keys.{seen}
use Rattle.dump_store.specs.Lines.{create_line, row_line, rows_behind}
use Rattle.dump_store.proofs.Gathered.{at_err, line_breaks, line_stops, lines_break, lines_write, on_err, on_ok}
use Rattle.dump_store.proofs.writing.write_object.Goals as goal

pub returns-in_err-gather-clause-err : goal.returns-in_err-gather-clause-err
returns-in_err-gather-clause-err g c =
    let put : c.in_ok-line.line ≡ create_line (seen c.args.object.now) = search rules in
    at_err c.from_residual-in_err-gather.result _ (line_breaks _ _ c.args.text.now c.in_ok-line.line _ _ _ put refl c.in_err-gather.ensures.err)

pub returns-in_err-rows-clause-err : goal.returns-in_err-rows-clause-err
returns-in_err-rows-clause-err g c =
    let put : c.in_ok-line.line ≡ create_line (seen c.args.object.now) = search rules in
    at_err c.from_residual-in_err-rows.result _ (line_stops _ _ c.args.text.now c.in_ok-line.line _ _ _ put refl c.gather.new.text c.in_ok-gather.ensures.ok)

pub returns-clause-ok : goal.returns-clause-ok
returns-clause-ok g c =
    let put : c.in_ok-line.line ≡ create_line (seen c.args.object.now) = search rules in
    let rows : c.as_slice.result.now ≡ rows_behind c.args.tables.now.tables (seen c.args.object.now) = search rules in
    on_ok c.write_rows.result _ _
    (lines_write _ _ c.args.text.now c.in_ok-line.line _ _ _ put (ap (flat_map row_line) rows) c.gather.new.text c.in_ok-gather.ensures.ok _ c.write_rows.new.text) c.write_rows.ensures.ok

pub returns-clause-err : goal.returns-clause-err
returns-clause-err g c =
    let put : c.in_ok-line.line ≡ create_line (seen c.args.object.now) = search rules in
    let rows : c.as_slice.result.now ≡ rows_behind c.args.tables.now.tables (seen c.args.object.now) = search rules in
    on_err c.write_rows.result _ _
    (lines_break _ _ c.args.text.now c.in_ok-line.line _ _ _ put (ap (flat_map row_line) rows) c.gather.new.text c.in_ok-gather.ensures.ok _) c.write_rows.ensures.err
