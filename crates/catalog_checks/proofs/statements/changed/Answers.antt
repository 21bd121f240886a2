use Rattle.std.proofs.Common.{◌≡◌, ◌∙◌, ap, min, rules}
use Rattle.sql_tree.specs.View.{view_part, view_orders}
use Rattle.catalog_objects.specs.catalog_rules.Ranks.{changing, has_table, rank_unless, count_if_rank}
use Rattle.catalog_checks.specs.Asking.{asked_of, condition_rank}
use Rattle.catalog_checks.proofs.statements.changed.Goals as goal

pub returns : goal.returns
returns c =
    let asked = asked_of c.args.checks.now in
    let rows : c.condition-rows.result ≡ condition_rank c.args.table.now (view_part c.args.filter.now) (view_orders c.args.items.now) (changing c.args.table.now asked) =
    c.condition-rows.ensures ∙ ap (condition_rank c.args.table.now (view_part c.args.filter.now) (view_orders c.args.items.now)) c.changing.ensures in
    let there : c.unless.result ≡ rank_unless (has_table asked.catalog c.args.table.now) 0 = search rules in
    let count : c.count_if.result ≡ count_if_rank asked c.args.limit.now = search rules in
    let is : c.min-2.result ≡ min c.unless.result (min c.condition-rows.result c.count_if.result) = search rules in
    is ∙ (λ i. min (there i) (min (rows i) (count i)))
