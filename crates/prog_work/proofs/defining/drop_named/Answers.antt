use Rattle.std.proofs.Common.{refl, sym, ap, ◌∙◌}
use Rattle.sql_tree.specs.Statement.{Statement, drop_table}
use Rattle.sql_tree.specs.StatementView.{view}
use Rattle.sql_reach.specs.catalog_rules.Creating.{ddl_refusal, catalog_after}
use Rattle.catalog.specs.catalog_objects.Keys.{objects_of}
use Rattle.exec_state.specs.declared.stage.Stage.{Stage}
use Rattle.prog_work.proofs.Defined.{dropped_on, refused_by, refused_with}
use Rattle.prog_work.proofs.defining.drop_named.Goals as goal

pub returns-in-Ok-clause-together : goal.returns-in-Ok-clause-together
returns-in-Ok-clause-together c =
    let behind : Stage = record {
      tables = c.drop_table.new.self;
      undo = c.args.stage.now.undo;
      counters = c.remove-in-Ok.new.self;
      seeds = c.args.stage.now.seeds;
      turns = c.args.stage.now.turns;
      uuids = c.args.stage.now.uuids;
    } in
    dropped_on c.args.catalog.now c.remove.new.self c.args.stage.now behind c.args.name.now c.requires.closed c.requires.together c.tables_are_kept.ensures
    (c.in-Ok.ensures.made.1 ∙ ap (λ (s : Statement). catalog_after s (objects_of c.args.catalog.now)) c.requires.statement)
    c.drop_table.ensures.tables c.drop_table.ensures.committed c.remove-in-Ok.ensures.removed refl

pub returns-in-Err-Sql-clause-defines : goal.returns-in-Err-Sql-clause-defines
returns-in-Err-Sql-clause-defines c =
    refused_by (drop_table c.args.name.now) c.args.catalog.now c.remove.new.self c.args.stage.now c.in-Err-Sql.code
    (sym (ap (λ (s : Statement). ddl_refusal (objects_of c.args.catalog.now) s) c.requires.statement)
    ∙ refused_with c.in-Err-Sql.field-0 c.in-Err-Sql.code (view c.args.statement.now) (objects_of c.args.catalog.now) (objects_of c.remove.new.self) c.in-Err-Sql.field-0-is c.in-Err-Sql.ensures.made)
    c.in-Err-Sql.ensures.same
