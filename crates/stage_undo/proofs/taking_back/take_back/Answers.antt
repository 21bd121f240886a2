use Rattle.std.proofs.Common.{refl}
use Rattle.exec_state.specs.declared.stage.Stage.{Stage}
use Rattle.stage_undo.proofs.TakenBack.{taken_back_to}
use Rattle.stage_undo.proofs.taking_back.take_back.Goals as goal

pub returns-clause-back : goal.returns-clause-back
returns-clause-back c start p e =
    let new : Stage = record {
      tables = c.take_back_to.new.tables;
      undo = c.take_back_to.new.undo;
      counters = c.args.stage.now.counters;
      seeds = c.args.stage.now.seeds;
      turns = c.args.stage.now.turns;
      uuids = c.args.stage.now.uuids;
    } in
    taken_back_to start c.args.stage.now new c.args.mark p e c.take_back_to.ensures.home refl refl refl refl
