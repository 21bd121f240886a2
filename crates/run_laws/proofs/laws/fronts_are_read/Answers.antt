use Rattle.run_laws.proofs.Fetching.{Below}
use Rattle.run_laws.proofs.Fronts.{Walks, fronts_are_read}
use Rattle.run_laws.proofs.laws.fronts_are_read.Goals as goal

pub returns : goal.returns
returns c =
    let below : Below = record {
      have = c.entries_have_length.ensures;
      heads = c.heads_have_length.ensures;
      goes_on = c.log_goes_on.ensures;
      few = c.few_are_cut.ensures;
      bounds = c.groups_have_bounds.ensures;
      start_is_read = c.start_relay_is_read.ensures;
      is_read = c.relay_is_read.ensures;
      can_on = c.entries_can_log_on.ensures;
    } in
    let walks : Walks = record {
      below = below;
      first = c.group_is_first.ensures;
      front = c.front_is_passed.ensures;
      start_is = c.start_is_read.ensures;
      entry_is = c.entry_is_read.ensures;
    } in
    fronts_are_read walks
