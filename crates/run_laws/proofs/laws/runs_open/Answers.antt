use Rattle.run_laws.proofs.Fetching.{Below}
use Rattle.run_laws.proofs.Following.{follows_begins}
use Rattle.run_laws.proofs.Openings.{begin_with_nothing, both_open, runs_end_well}
use Rattle.run_laws.proofs.laws.runs_open.Goals as goal

pub returns : goal.returns
returns c =
    let below : Below = record {
      have = c.entries_have_length.ensures;
      heads = c.heads_have_length.ensures;
      goes_on = c.log_goes_on.ensures;
      few = c.few_are_cut.ensures;
      bounds = c.groups_have_bounds.ensures;
      start_is_read = c.start_relay_is_read.ensures;
      is_read = c.relay_is_read.ensures;
      can_on = c.entries_can_log_on.ensures;
    } in
    record {
      nothing = begin_with_nothing c.bases_hold.ensures;
      opens = both_open below.have below.heads c.openings_replay.ensures.openings follows_begins;
      ends = runs_end_well below c.bases_hold.ensures c.sizes_stay.ensures c.bodies_stay_well.ensures.runs;
    }
