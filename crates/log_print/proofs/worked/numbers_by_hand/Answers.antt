use Rattle.std.proofs.Common.{◌≡◌, ℕ, ◌<◌, ◌^◌, true, refl, arith}
use Rattle.std.specs.Fmt.{decimal}
use Rattle.log_print.proofs.Digits.{digits_by_steps, is_short, written}
use Rattle.log_print.proofs.worked.numbers_by_hand.Goals as goal

-- a number of at most twenty digits
of : (n : ℕ) → n < 2 ^ 64 → is_short 19 n ≡ true → decimal n ≡ written 19 n
of = digits_by_steps 19

pub returns : goal.returns
returns c = record {
  insert_id = rw (of 2 (omega arith) refl) refl;
  last_insert_id = rw (of 9223372036854775807 (omega arith) refl) refl;
  seeds = rw (of 1 (omega arith) refl, of 1073741822 (omega arith) refl) refl;
  negative = rw (of 2 (omega arith) refl) refl;
  map = rw (of 1 (omega arith) refl) refl;
}
