use Rattle.changed_rows.proofs.Ways.{way_copied}
use Rattle.changed_rows.proofs.looking.row_in_way.Goals as goal

pub returns : goal.returns
returns c = way_copied c.args.at c.args.definition.now c.args.stage.now c.args.row.now c.row_in_way.result c.copied.result c.requires c.row_in_way.ensures c.copied.ensures
