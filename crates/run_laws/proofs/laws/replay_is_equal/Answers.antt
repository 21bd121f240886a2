use Rattle.run_laws.proofs.Carrying.{Appliers}
use Rattle.run_laws.proofs.Replaying.{replay_is_equal}
use Rattle.run_laws.proofs.laws.replay_is_equal.Goals as goal

pub returns : goal.returns
returns c =
    let appliers : Appliers = record {
      hold = c.bases_hold.ensures;
      carried = c.entry_is_carried.ensures;
      runs = c.entries_of_runs_follow.ensures;
    } in
    replay_is_equal c.log_is_its_entries.ensures appliers
