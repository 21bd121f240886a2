use Rattle.run_laws.proofs.Restarting.{restarts_keep, restarts_keep_marks, restarts_stay_sound}
use Rattle.run_laws.proofs.laws.restarts_keep.Goals as goal

pub returns : goal.returns
returns c =
    let have = c.entries_have_length.ensures in
    let heads = c.heads_have_length.ensures in
    record {
      keeps = restarts_keep have heads;
      sound = restarts_stay_sound have heads c.openings_replay.ensures.restarts;
      marks = restarts_keep_marks;
    }
