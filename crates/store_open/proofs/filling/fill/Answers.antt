use Rattle.std.proofs.Common.{◌≡◌, false, true, ap, rules}
use Rattle.prog_work.specs.Contents.{Contents}
use Rattle.store_open.proofs.Rows.{fill_done, fill_not}
use Rattle.store_open.proofs.filling.fill.Goals as goal

pub returns-then-not-branch-2-clause-filled : goal.returns-then-not-branch-2-clause-filled
returns-then-not-branch-2-clause-filled c before d e =
    let yes : c.in_ok-insert_all.field-0 ≡ true = search rules in
    let no : c.in_ok-has_rows.field-0 ≡ false = search rules in
    fill_not before d c.args.name.now e.apart e.named c.in_ok-insert_all.field-0 c.in_ok-has_rows.field-0 c.args.rows.now _ _ yes no c.tables.ensures (c.in_ok-insert_all.ensures.fills before d e) c.in_ok-has_rows.ensures

pub returns-clause-filled : goal.returns-clause-filled
returns-clause-filled c before d e =
    let yes : c.in_ok-insert_all.field-0 ≡ true = search rules in
    let same : c.in_ok-has_rows.field-0 ≡ true = search rules in
    fill_done before d c.args.name.now e.apart e.named c.in_ok-insert_all.field-0 c.in_ok-has_rows.field-0 c.args.rows.now _ _ _ yes same c.tables.ensures (c.in_ok-insert_all.ensures.fills before d e) c.in_ok-has_rows.ensures
    c.together.ensures.kept (ap (λ (w : Contents). w.tables) c.commit.ensures)
