use Rattle.std.proofs.Common.{◌≡◌, ◌∙◌, ap, min, rules}
use Rattle.sql_tree.specs.View.{view_part, view_orders}
use Rattle.sql_tree.specs.StatementView.{view_sets}
use Rattle.catalog_objects.specs.catalog_rules.Nodes.{in_sight, no_sight}
use Rattle.catalog_objects.specs.catalog_rules.Ranks.{Asked, changing, sets_rank, changed_rank}
use Rattle.catalog_checks.specs.Asking.{asked_of}
use Rattle.catalog_checks.proofs.statements.update_rank.Goals as goal

pub returns : goal.returns
returns c =
    let u = c.args.u.now in
    let asked = asked_of c.args.checks.now in
    let sets : c.row_sets.result ≡ sets_rank (changing u.table asked) u.table (view_sets u.sets) (in_sight u.table no_sight) =
    c.row_sets.ensures ∙ ap (λ (a : Asked). sets_rank a u.table (view_sets u.sets) (in_sight u.table no_sight)) c.changing.ensures in
    let changed : c.changed.result ≡ changed_rank asked u.table (view_part u.filter) (view_orders u.order) u.limit = c.changed.ensures in
    let is : c.min.result ≡ min c.row_sets.result c.changed.result = search rules in
    is ∙ (λ i. min (sets i) (changed i))
