use Rattle.byte_fields.proofs.FieldLaws.{field_width}
use Rattle.byte_fields.proofs.laws.fields_have_their_width.Goals as goal

pub returns : goal.returns
returns c = field_width
