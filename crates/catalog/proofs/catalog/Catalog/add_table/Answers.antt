use Rattle.std.proofs.Common.{◌≡◌, None, rules, subst, sym}
use Rattle.sql_tree.specs.Statement.{create_table}
use Rattle.val_types.specs.declared.definitions.TableDef.{TableDef}
use Rattle.catalog_show_create.specs.catalog_rules.Creating.{ddl_refusal}
use Rattle.catalog_show_create.specs.catalog_rules.Defined.{definition_of}
use Rattle.catalog_show_create.specs.catalog_objects.declared.object.Object.TheVariants as kinds
use Rattle.catalog_show_create.specs.catalog_objects.Keys.{objects_of}
use Rattle.catalog_show_create.specs.catalog_objects.Lookups.{is_free}
use Rattle.catalog.proofs.Added.{is_new, is_small}
use Rattle.catalog.proofs.catalog.Catalog.add_table.Goals as goal

pub definition_of-requires-clause-few : goal.definition_of-requires-clause-few
definition_of-requires-clause-few c =
    let none : ddl_refusal (objects_of c.self.inside.objects) (create_table c.args.t.now) ≡ None = search rules in
    (is_small c.self.inside.objects c.args.t.now none).0

pub definition_of-requires-clause-types : goal.definition_of-requires-clause-types
definition_of-requires-clause-types c =
    let none : ddl_refusal (objects_of c.self.inside.objects) (create_table c.args.t.now) ≡ None = search rules in
    (is_small c.self.inside.objects c.args.t.now none).1

pub add-requires-clause-name : goal.add-requires-clause-name
add-requires-clause-name c =
    let none : ddl_refusal (objects_of c.self.inside.objects) (create_table c.args.t.now) ≡ None = search rules in
    let made : c.in_ok-table.table ≡ definition_of c.args.t.now = search rules in
    subst (λ (d : TableDef). is_free (kinds.Table d) c.self.inside.objects) (sym made) (is_new c.self.inside.objects c.args.t.now none)
