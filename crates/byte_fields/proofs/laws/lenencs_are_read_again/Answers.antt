use Rattle.byte_fields.proofs.FieldLaws.{lenenc_again}
use Rattle.byte_fields.proofs.laws.lenencs_are_read_again.Goals as goal

pub returns : goal.returns
returns c = lenenc_again
