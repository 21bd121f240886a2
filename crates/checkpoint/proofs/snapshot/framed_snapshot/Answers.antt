use Rattle.std.proofs.Common.{ap, ◌∙◌, ◌-◌, length}
use Rattle.byte_fields.proofs.FieldLaws.{field_width}
use Rattle.checkpoint.proofs.Framing.{framed_ok}
use Rattle.checkpoint.proofs.snapshot.framed_snapshot.Goals as goal

pub returns-clause-bytes : goal.returns-clause-bytes
returns-clause-bytes c = framed_ok _ _ _ _ _ c.put_number.ensures c.in_ok-put_body.ensures.body (ap length (c.in_ok-framed.ensures ∙ c.bytes_u64.ensures) ∙ field_width 8 0) (ap (λ n. n - 8) c.len-length.ensures)
