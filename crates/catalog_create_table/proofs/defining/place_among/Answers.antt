use Rattle.std.proofs.Common.{◌∙◌}
use Rattle.catalog_create_table.proofs.Placing.{place_is}
use Rattle.catalog_create_table.proofs.defining.place_among.Goals as goal

pub returns : goal.returns
returns c = c.place_from.ensures ∙ place_is c.args.columns.now c.args.name.now
