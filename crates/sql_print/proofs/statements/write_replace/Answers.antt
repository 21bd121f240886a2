use Rattle.std.proofs.Common.{◌++◌, codes}
use Rattle.sql_tree.specs.StatementView.{view_supply}
use Rattle.sql_print.specs.Names.{quoted_name}
use Rattle.sql_print.specs.StatementSpelling.{columns_text, supply_text}
use Rattle.sql_print.proofs.Steps.{start, step, last}
use Rattle.sql_print.proofs.statements.write_replace.Goals as goal

pub returns : goal.returns
returns c =
    let r = c.args.replace.now in
    let named = start c.args.out.now (codes "REPLACE INTO " ++ quoted_name r.table) c.in_ok-write_prefixed.ensures in
    let columns = step (columns_text r.columns) named c.in_ok-write_columns.ensures in
    last _ (supply_text (view_supply r.source)) _ columns c.write_source.ensures
