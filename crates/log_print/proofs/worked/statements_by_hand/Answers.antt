use Rattle.std.proofs.Common.{◌≡◌, ℕ, ◌<◌, ◌^◌, true, refl, arith}
use Rattle.std.specs.Fmt.{decimal}
use Rattle.log_print.proofs.Digits.{digits_by_steps, is_short, written}
use Rattle.log_print.proofs.worked.statements_by_hand.Goals as goal

-- a number of at most ten digits
of : (n : ℕ) → n < 2 ^ 64 → is_short 9 n ≡ true → decimal n ≡ written 9 n
of = digits_by_steps 9

pub returns : goal.returns
returns c = record {
  start = rw (of 4 (omega arith) refl) refl;
  create = rw (of 123 (omega arith) refl, of 1 (omega arith) refl, of 1700000001 (omega arith) refl) refl;
  begin = rw (of 206 (omega arith) refl, of 1 (omega arith) refl, of 1700000002 (omega arith) refl) refl;
  insert = rw (of 246 (omega arith) refl, of 1 (omega arith) refl, of 1700000002 (omega arith) refl) refl;
  commit = rw (of 309 (omega arith) refl, of 2 (omega arith) refl) refl;
  step = rw (of 2 (omega arith) refl, of 0 (omega arith) refl, of 10 (omega arith) refl, of 20 (omega arith) refl) refl;
}
