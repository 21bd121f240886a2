use Rattle.std.proofs.Common.{◌∙◌}
use Rattle.catalog_checks.proofs.Counting.{counted}
use Rattle.catalog_checks.proofs.checks.count_of.Goals as goal

pub returns : goal.returns
returns c = c.len.ensures ∙ counted c.args.exprs.now
