use Rattle.changed_rows.proofs.Ways.{key_copied}
use Rattle.changed_rows.proofs.looking.row_on_key.Goals as goal

pub returns : goal.returns
returns c = key_copied c.args.at c.args.definition.now c.args.stage.now c.args.row.now c.args.which c.row_on_key.result c.copied.result c.requires c.row_on_key.ensures c.copied.ensures
