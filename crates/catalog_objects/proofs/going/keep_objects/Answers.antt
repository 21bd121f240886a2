use Rattle.std.proofs.Common.{rules}
use Rattle.std.proofs.lemmas.Fn.{filter_same}
use Rattle.sql_tree.specs.StatementView.{view}
use Rattle.catalog_objects.specs.Lookups.{stays_with}
use Rattle.catalog_objects.proofs.going.keep_objects.Goals as goal

pub returns : goal.returns
returns c = filter_same _ (stays_with (view c.args.s.now)) _ (λ x b f' k. search rules) _ _ c.retain.ensures.filtered
