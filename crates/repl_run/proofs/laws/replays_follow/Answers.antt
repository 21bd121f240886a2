use Rattle.repl_run.proofs.Following.{replays_follow}
use Rattle.repl_run.proofs.laws.replays_follow.Goals as goal

pub returns : goal.returns
returns c =
    replays_follow (record {
      read = c.fronts_are_read.ensures;
      carried = c.replays_carry.ensures.carried;
      stops = c.replays_carry.ensures.stops;
      whole = c.replays_carry.ensures.whole;
      held = c.replica_has_carried.ensures.replayed;
    })
