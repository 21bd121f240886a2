use Rattle.std.proofs.Common.{◌++◌, codes}
use Rattle.sql_print.specs.Names.{quoted_name, commas}
use Rattle.sql_print.specs.StatementSpelling.{table_parts}
use Rattle.sql_print.proofs.Steps.{start, step, last}
use Rattle.sql_print.proofs.tables.write_table.Goals as goal

pub returns : goal.returns
returns c =
    let t = c.args.table.now in
    let named = start c.args.out.now (codes "CREATE TABLE " ++ quoted_name t.name) c.in_ok-write_prefixed.ensures in
    let opened = step (codes " (") named c.in_ok-extend_from_slice.ensures.ok in
    last _ (codes ")") _ (step (commas (table_parts t)) opened c.in_ok-write_parts.ensures) c.extend_from_slice-2.ensures.ok
