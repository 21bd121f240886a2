use Rattle.std.proofs.Common.{refl}
use Rattle.exec_state.specs.declared.stage.Stage.{Stage}
use Rattle.prog_work.proofs.Defined.{cleared_on}
use Rattle.prog_work.proofs.defining.empty.Goals as goal

pub returns-in-Ok-clause-together : goal.returns-in-Ok-clause-together
returns-in-Ok-clause-together c =
    let behind : Stage = record {
      tables = c.clear.new.self;
      undo = c.args.stage.now.undo;
      counters = c.reset.new.self;
      seeds = c.args.stage.now.seeds;
      turns = c.args.stage.now.turns;
      uuids = c.args.stage.now.uuids;
    } in
    cleared_on c.args.catalog.now c.args.stage.now behind c.args.name.now c.requires.closed c.requires.together c.clear.ensures.tables c.clear.ensures.committed c.reset.ensures.tables refl
