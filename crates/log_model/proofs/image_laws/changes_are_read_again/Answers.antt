use Rattle.log_model.proofs.ImageLaws.{changes_again}
use Rattle.log_model.proofs.image_laws.changes_are_read_again.Goals as goal

pub returns : goal.returns
returns c = changes_again
