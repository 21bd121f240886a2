use Rattle.std.proofs.Common.{◌∙◌}
use Rattle.catalog_create_table.proofs.Placing.{auto_is}
use Rattle.catalog_create_table.proofs.defining.auto_place.Goals as goal

pub returns : goal.returns
returns c = c.auto_from.ensures ∙ auto_is c.args.columns.now
