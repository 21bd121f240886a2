use Rattle.std.proofs.Common.{ap, ◌∙◌}
use Rattle.std.specs.Option.{option_map}
use Rattle.log_entry_laws.specs.log_entries.declared.carried.Carried.{Carried}
use Rattle.catalog_checks.specs.catalog_objects.Keys.{objects_of}
use Rattle.sql_tree.specs.StatementView.{view}
use Rattle.binlog_items.proofs.Parts.{carried_as_before}
use Rattle.binlog_items.proofs.before.carried_before.Goals as goal

pub returns : goal.returns
returns c =
    let parts : Carried = c.in_ok-parts.parts in
    ap (λ o. record parts { last_id = o; seeds = c.seeds_if-parts.result }) c.last_id_if-parts.ensures
    ∙ ap (λ o. record parts { last_id = option_map (λ _. c.args.before.last_id) parts.last_id; seeds = o }) c.seeds_if-parts.ensures
    ∙ carried_as_before parts c.args.before (objects_of c.args.objects.now) (view c.args.statement.now) c.args.context.now c.args.first c.in_ok-parts.ensures
