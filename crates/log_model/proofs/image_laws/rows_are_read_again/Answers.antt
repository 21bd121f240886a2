use Rattle.log_model.proofs.ImageLaws.{row_again}
use Rattle.log_model.proofs.image_laws.rows_are_read_again.Goals as goal

pub returns : goal.returns
returns c = row_again
