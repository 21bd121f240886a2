use Rattle.std.proofs.Common.{◌≡◌, ◌∙◌, min, length, not, rules}
use Rattle.sql_tree.specs.StatementView.{view_supply}
use Rattle.catalog_objects.specs.catalog_rules.Names.{has_twice}
use Rattle.catalog_objects.specs.catalog_rules.Objects.{columns_of}
use Rattle.catalog_objects.specs.catalog_rules.Checks.{has_width}
use Rattle.catalog_objects.specs.catalog_rules.Ranks.{rank_unless}
use Rattle.catalog_checks.specs.Asking.{asked_of}
use Rattle.catalog_checks.proofs.Counting.{all_given_is}
use Rattle.catalog_checks.proofs.inserting.all_given.Goals as goal

pub returns : goal.returns
returns c =
    let twice : c.unless.result ≡ rank_unless (not (has_twice (columns_of c.args.definition.now))) 6 = search rules in
    let width : c.unless-2.result ≡ rank_unless (has_width (asked_of c.args.checks.now).catalog (length c.args.definition.now.columns) (view_supply c.args.source.now)) 7 = search rules in
    let is : c.min.result ≡ min c.unless.result c.unless-2.result = search rules in
    is ∙ (λ i. min (twice i) (width i)) ∙ all_given_is (asked_of c.args.checks.now) (view_supply c.args.source.now) c.args.definition.now
