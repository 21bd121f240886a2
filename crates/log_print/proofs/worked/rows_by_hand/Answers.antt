use Rattle.std.proofs.Common.{refl, arith}
use Rattle.byte_fields.specs.Unroll.{all_from}
use Rattle.byte_fields.specs.Field.{number_at}
use Rattle.log_model.specs.Images.{changes_at, row_at}
use Rattle.log_print.proofs.Digits.{digits_by_steps}
use Rattle.log_print.proofs.worked.rows_by_hand.Goals as goal

pub returns : goal.returns
unfolding row_at changes_at all_from number_at
returns c = record {
  put_in = rw (digits_by_steps 1 1 (omega arith) refl, digits_by_steps 1 10 (omega arith) refl) refl;
  changed = rw (digits_by_steps 1 1 (omega arith) refl, digits_by_steps 1 10 (omega arith) refl) refl;
  taken_out = rw (digits_by_steps 1 1 (omega arith) refl, digits_by_steps 1 10 (omega arith) refl) refl;
}
