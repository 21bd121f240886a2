use Rattle.sql_tree.specs.StatementView.{view}
use Rattle.prog_work.proofs.Definitions.{drop_is_of_program, together_programmed}
use Rattle.prog_work.proofs.defining.drop_program.Goals as goal

pub returns-in-Ok-clause-together : goal.returns-in-Ok-clause-together
returns-in-Ok-clause-together c =
    together_programmed c.args.catalog.now c.remove.new.self c.args.stage.now.tables c.args.stage.now.undo c.args.stage.now.counters (view c.args.statement.now) c.requires.together
    (drop_is_of_program (view c.args.statement.now) c.requires.dropping) c.in-Ok.ensures.made.1
