use Rattle.byte_fields.proofs.FieldLaws.{read_rest}
use Rattle.byte_fields.proofs.taking.u16_at.Goals as goal

pub returns : goal.returns
returns c = read_rest _ _ _ _ c.read_u16.ensures
