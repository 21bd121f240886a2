use Rattle.byte_fields.proofs.FieldLaws.{field_again}
use Rattle.byte_fields.proofs.laws.fields_are_read_again.Goals as goal

pub returns : goal.returns
returns c = field_again
