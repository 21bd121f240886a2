use Rattle.std.proofs.Common.{◌≡◌, ◌∙◌, sym, Some, rules, Bool}
use Rattle.std.specs.Prelude.{if◌then◌else◌, is_none, is_some, nat_le}
use Rattle.sql_tree.specs.StatementView.{view}
use Rattle.catalog_create_table.specs.catalog_rules.Bodies.{of_trigger}
use Rattle.catalog_create_table.specs.catalog_rules.Creating.{runs_before_storing}
use Rattle.catalog_create_table.specs.catalog_rules.Objects.{count_of_programs, table_in, trigger_in, trigger_for}
use Rattle.catalog_objects.specs.Keys.{objects_of}
use Rattle.catalog_create_program.specs.Refusing.{trigger_code}
use Rattle.catalog_create_program.proofs.RefusedFirst.{trigger_refused}
use Rattle.catalog_create_program.proofs.refusing.refusal_for.Goals as goal

pub returns : goal.returns
returns c =
    let catalog = objects_of c.args.objects.now in
    let writes = runs_before_storing c.args.time c.args.event in
    let full : Bool = nat_le 1000 (count_of_programs catalog) in
    let taken : Bool = is_some (trigger_for catalog c.args.table.now c.args.time c.args.event) in
    let is_taken : c.is_some-is_taken.result ≡ taken = search rules in
    let rest = c.trigger_code-rest.ensures ∙ (λ i. trigger_code (c.trigger_rank-rank.ensures i) (is_taken i) (c.is_full.ensures i)) ∙ sym (trigger_refused (of_trigger writes) (view c.args.steps.now) taken full) in
    let named : c.is_some.result ≡ is_some (trigger_in catalog c.args.name.now) = search rules in
    let there : c.is_none.result ≡ is_none (table_in catalog c.args.table.now) = search rules in
    c.refused.ensures ∙ (λ i. if there i then Some 1146 else (c.refused-named.ensures ∙ (λ j. if named j then Some 1359 else rest j)) i)
