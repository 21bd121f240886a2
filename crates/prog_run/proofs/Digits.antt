-- Numbers of at most 16 bytes.
use Rattle.std.proofs.Common.{ℕ, ◌<◌, ◌≤◌, ◌+◌, ◌*◌, ◌^◌, arith}
use Rattle.std.proofs.Math.Nat.{pow-le-pow_right}

-- one byte more
pub digit_fits : (n i b : ℕ) → n < 256 ^ i → i < 16 → b < 256 → 256 * n + b < 256 ^ 16
digit_fits n i b small few byte =
    let most : 256 ^ i ≤ 256 ^ 15 = pow-le-pow_right {n = 256} (omega arith) {i = i} {j = 15} (omega (arith, few)) in omega (arith, most)
