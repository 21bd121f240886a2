use Rattle.store_model.proofs.Standing.{still_stands}
use Rattle.store_model.proofs.laws.what_counts_decides.Goals as goal

pub returns : goal.returns
returns c kind generation image image' held stands same read logs = still_stands kind generation image image' held stands same read logs
