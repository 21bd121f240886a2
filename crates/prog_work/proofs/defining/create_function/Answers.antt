use Rattle.std.proofs.Common.{refl}
use Rattle.sql_tree.specs.Statement.{create_function}
use Rattle.prog_work.proofs.Definitions.{together_programmed}
use Rattle.prog_work.proofs.defining.create_function.Goals as goal

pub returns-in-Ok-clause-together : goal.returns-in-Ok-clause-together
returns-in-Ok-clause-together c =
    together_programmed c.args.catalog.now c.add_function.new.self c.args.stage.now.tables c.args.stage.now.undo c.args.stage.now.counters (create_function _) c.requires.together refl c.in-Ok.ensures.made.1
