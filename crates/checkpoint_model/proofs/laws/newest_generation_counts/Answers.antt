use Rattle.checkpoint_model.proofs.Keeping.{newest_counts}
use Rattle.checkpoint_model.proofs.laws.newest_generation_counts.Goals as goal

pub returns : goal.returns
returns c kind generation image image' held body file stands same has torn fits is journal read logs =
    newest_counts kind generation image image' held body file stands same has torn fits is journal read logs
