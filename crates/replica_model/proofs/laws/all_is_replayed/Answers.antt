use Rattle.std.proofs.Common.{ap}
use Rattle.log_file_model.specs.Walk.{Grouped}
use Rattle.log_file_model.proofs.Walking.{all_from_four}
use Rattle.replica_model.specs.Replaying.{all_replayed, first_replay, replayed, replayed_from}
use Rattle.replica_model.proofs.laws.all_is_replayed.Goals as goal

pub returns : goal.returns
unfolding replayed replayed_from
returns c identity draw bytes = ap (λ (g : Grouped). all_replayed identity draw g.pieces first_replay) (all_from_four bytes)
