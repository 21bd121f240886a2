use Rattle.durable_runs.proofs.Carried.{carried_goes_on}
use Rattle.durable_runs.proofs.Carrying.{replica_images}
use Rattle.run_laws.specs.session_replays.Followed.{EntriesFollow}
use Rattle.run_stores.proofs.Carrying.{followers_have_carried, followers_are_served, carried_on_the_way, states_have_carried, images_have_carried, replayed_is_carried}
use Rattle.run_stores.proofs.laws.replica_has_carried.Goals as goal

pub returns : goal.returns
returns c =
    let have = c.entries_have_length.ensures in
    let heads = c.heads_have_length.ensures in
    let way = c.replica_follows.ensures.on_the_way in
    let states = states_have_carried have heads way c.replica_follows.ensures.goes_on in
    record {
      follows = followers_have_carried have heads;
      served = followers_are_served;
      on_the_way = carried_on_the_way have heads way;
      states = states;
      images = images_have_carried states;
      replayed = replayed_is_carried;
      goes_on = carried_goes_on EntriesFollow;
      last = replica_images EntriesFollow;
    }
