use Rattle.std.proofs.Common.{refl, ap}
use Rattle.table_rules.specs.Stores.{Store}
use Rattle.sql_tree.specs.Statement.{create_table}
use Rattle.sql_reach.specs.catalog_rules.Defined.{definition_of}
use Rattle.catalog.specs.catalog_objects.Keys.{objects_of}
use Rattle.prog_work.specs.Contents.{contents_of}
use Rattle.prog_work.proofs.Defined.{refused_by, refused_with, contents_stay, stays_free, is_there, makes_by, made_on, kept_on}
use Rattle.prog_work.proofs.defining.create.Goals as goal

pub returns-in-Err-Sql-clause-defines : goal.returns-in-Err-Sql-clause-defines
returns-in-Err-Sql-clause-defines c =
    refused_by (create_table c.args.t.now) c.args.catalog.now c.add_table.new.self c.args.stage.now c.in-Err-Sql.code
    (refused_with c.in-Err-Sql.field-0 c.in-Err-Sql.code (create_table c.args.t.now) (objects_of c.args.catalog.now) (objects_of c.add_table.new.self) c.in-Err-Sql.field-0-is c.in-Err-Sql.ensures.made)
    c.in-Err-Sql.ensures.same

pub returns-in-Err-NoMemory-clause-defines : goal.returns-in-Err-NoMemory-clause-defines
returns-in-Err-NoMemory-clause-defines c =
    contents_stay c.args.catalog.now c.add_table.new.self c.args.stage.now c.args.stage.now c.in-Err-NoMemory.ensures.same refl refl refl

pub store-requires-clause-there : goal.store-requires-clause-there
store-requires-clause-there c =
    let there = is_there c.args.catalog.now c.add_table.new.self c.args.stage.now c.args.t.now c.requires.closed c.requires.together c.in-Ok.ensures.made.0 c.in-Ok.ensures.made.1 in
    rw there refl

pub store-requires-clause-free_name : goal.store-requires-clause-free_name
store-requires-clause-free_name c d e =
    (stays_free c.args.catalog.now c.add_table.new.self c.args.stage.now c.args.t.now c.requires.closed c.requires.together c.in-Ok.ensures.made.0 c.in-Ok.ensures.made.1 d e).0

pub store-requires-clause-free_counter : goal.store-requires-clause-free_counter
store-requires-clause-free_counter c d e =
    (stays_free c.args.catalog.now c.add_table.new.self c.args.stage.now c.args.t.now c.requires.closed c.requires.together c.in-Ok.ensures.made.0 c.in-Ok.ensures.made.1 d e).1

pub returns-in-Ok-store-clause-defines : goal.returns-in-Ok-store-clause-defines
returns-in-Ok-store-clause-defines c =
    let there = is_there c.args.catalog.now c.add_table.new.self c.args.stage.now c.args.t.now c.requires.closed c.requires.together c.in-Ok.ensures.made.0 c.in-Ok.ensures.made.1 in
    makes_by (create_table c.args.t.now) c.nothing_told.result (contents_of c.args.catalog.now c.args.stage.now) (contents_of c.add_table.new.self c.store.new.stage)
    c.in-Ok.ensures.made.0 c.in-Ok.ensures.made.1
    (c.in-Ok-store.ensures.tables (definition_of c.args.t.now) there) (c.in-Ok-store.ensures.counters (definition_of c.args.t.now) there) c.store.ensures.changes c.nothing_told.ensures

pub returns-in-Ok-store-clause-together : goal.returns-in-Ok-store-clause-together
returns-in-Ok-store-clause-together c =
    let there = is_there c.args.catalog.now c.add_table.new.self c.args.stage.now c.args.t.now c.requires.closed c.requires.together c.in-Ok.ensures.made.0 c.in-Ok.ensures.made.1 in
    made_on c.args.catalog.now c.add_table.new.self c.args.stage.now c.store.new.stage (definition_of c.args.t.now) c.requires.closed c.requires.together c.in-Ok.ensures.made.1
    (c.in-Ok-store.ensures.tables (definition_of c.args.t.now) there) (c.in-Ok-store.ensures.committed (definition_of c.args.t.now) there) (c.in-Ok-store.ensures.counters (definition_of c.args.t.now) there) c.store.ensures.changes

pub returns-in-Err-clause-defines : goal.returns-in-Err-clause-defines
returns-in-Err-clause-defines c =
    contents_stay c.args.catalog.now c.args.before c.args.stage.now c.store.new.stage c.requires.before (ap (λ (s : Store). s.tables) c.in-Err.ensures.err_tables) c.store.ensures.changes c.in-Err.ensures.err_counters

pub returns-in-Err-clause-together : goal.returns-in-Err-clause-together
returns-in-Err-clause-together c =
    kept_on c.args.catalog.now c.args.before c.args.stage.now c.store.new.stage c.requires.together c.requires.before
    c.in-Err.ensures.err_tables c.in-Err.ensures.err_counters c.store.ensures.changes
