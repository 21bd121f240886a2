use Rattle.run_laws.proofs.Carrying.{Appliers, nothing_is_owed}
use Rattle.run_laws.proofs.Fetching.{Below}
use Rattle.run_laws.proofs.Following.{follows_begins, follows_opened, follows_go_on, follows_on_the_way, no_apply_stops, nothing_is_damaged}
use Rattle.run_laws.proofs.laws.replica_follows.Goals as goal

pub returns : goal.returns
returns c =
    let below : Below = record {
      have = c.entries_have_length.ensures;
      heads = c.heads_have_length.ensures;
      goes_on = c.log_goes_on.ensures;
      few = c.few_are_cut.ensures;
      bounds = c.groups_have_bounds.ensures;
      start_is_read = c.start_relay_is_read.ensures;
      is_read = c.relay_is_read.ensures;
      can_on = c.entries_can_log_on.ensures;
    } in
    let appliers : Appliers = record {
      hold = c.bases_hold.ensures;
      carried = c.entry_is_carried.ensures;
      runs = c.entries_of_runs_follow.ensures;
    } in
    record {
      begins = follows_begins;
      opens = follows_opened c.bases_hold.ensures;
      owes = nothing_is_owed c.bases_hold.ensures;
      goes_on = follows_go_on below appliers;
      on_the_way = follows_on_the_way below appliers;
      stops = no_apply_stops below appliers;
      damaged = nothing_is_damaged below appliers;
    }
