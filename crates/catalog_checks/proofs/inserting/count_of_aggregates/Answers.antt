use Rattle.std.proofs.Common.{◌∙◌}
use Rattle.catalog_checks.proofs.Counting.{aggregates_counted}
use Rattle.catalog_checks.proofs.inserting.count_of_aggregates.Goals as goal

pub returns : goal.returns
returns c = c.len.ensures ∙ aggregates_counted c.args.aggregates.now
