use Rattle.run_laws.proofs.Carrying.{Appliers}
use Rattle.run_laws.proofs.Cut.{no_replay_stops, replays_have_carried, whole_is_replayed}
use Rattle.run_laws.proofs.laws.replays_carry.Goals as goal

pub returns : goal.returns
returns c =
    let have = c.entries_have_length.ensures in
    let bounds = c.groups_have_bounds.ensures in
    let fronts = c.fronts_are_read.ensures in
    let appliers : Appliers = record {
      hold = c.bases_hold.ensures;
      carried = c.entry_is_carried.ensures;
      runs = c.entries_of_runs_follow.ensures;
    } in
    record {
      carried = replays_have_carried appliers have bounds fronts;
      stops = no_replay_stops appliers have bounds fronts;
      whole = whole_is_replayed appliers have bounds fronts;
    }
