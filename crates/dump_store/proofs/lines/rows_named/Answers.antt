use Rattle.std.proofs.Common.{◌∙◌, sym}
use Rattle.store_open.proofs.Same.{rows_nowhere}
use Rattle.dump_store.proofs.lines.rows_named.Goals as goal

pub returns-in-None : goal.returns-in-None
returns-in-None c = c.new.ensures ∙ sym (rows_nowhere c.args.name.now c.args.tables.now.tables (sym c.in-None.ensures))
