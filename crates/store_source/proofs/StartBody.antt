-- The record of a log's start is short.
use Rattle.std.proofs.Common.{ℕ, ◌<◌, ◌+◌, ◌^◌, ◌++◌, length, arith}
use Rattle.std.proofs.lemmas.List.{length-append}
use Rattle.byte_fields.specs.Field.{number_bytes}
use Rattle.byte_fields.proofs.FieldLaws.{field_width}
use Rattle.store_model.specs.declared.record.Head.{Head}
use Rattle.store_model.specs.declared.record.Record.TheVariants.{LogStart}
use Rattle.store_model.specs.Bodies.{head_bytes, body_of}

pub start_fits : (head : Head) (old_end : ℕ) → length (body_of (LogStart head old_end)) < 2 ^ 32
unfolding body_of
start_fits head old_end = omega (
  arith,
  length-append (head_bytes 3 head) (number_bytes 4 old_end),
  length-append (number_bytes 1 3 ++ number_bytes 8 head.number ++ number_bytes 4 head.log) (number_bytes 4 head.pos),
  length-append (number_bytes 1 3 ++ number_bytes 8 head.number) (number_bytes 4 head.log),
  length-append (number_bytes 1 3) (number_bytes 8 head.number),
  field_width 1 3,
  field_width 8 head.number,
  field_width 4 head.log,
  field_width 4 head.pos,
  field_width 4 old_end,
)
