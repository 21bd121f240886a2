use Rattle.std.proofs.Common.{◌≡◌, List, true, rules, subst, sym}
use Rattle.table_rules.specs.Tables.{Table}
use Rattle.table_rules.specs.Stores.{definitions_of, names_differ}
use Rattle.sql_tree.specs.StatementView.{view}
use Rattle.prog_work.specs.Contents.{base_of}
use Rattle.store_open.proofs.Onto.{filled_ok}
use Rattle.store_open.proofs.objects.make_object.Goals as goal

pub returns-in-Some : goal.returns-in-Some
returns-in-Some c =
    let so : c.in_ok-make_one.field-0 ≡ true = search rules in
    filled_ok c.take_filled.result c.in_ok-make_one.field-0 (view c.args.statement.now) c.in-Some.name.now (base_of c.args.work.now) c.args.bytes.now c.make_one.new.work c.take_filled.new.work so
    (sym c.in-Some.ensures) c.in_ok-make_one.ensures (subst (λ (ts : List Table). names_differ (definitions_of ts) ≡ true) c.tables.ensures c.tables_are_kept.ensures.names) c.take_filled.ensures
