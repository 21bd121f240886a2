use Rattle.std.proofs.Common.{◌≡◌, ℕ, drop, ◌+◌, ◌*◌, ◌^◌, arith, ℤ, pos, neg_ℤ, ◌+ℤ◌, ◌≤ℤ◌, FitsSigned, to_z, of_z, to_z-of_z, refl, ap, sym, ◌∙◌}
use Rattle.std.specs.Int.{w64, w128}
use Rattle.std.proofs.lemmas.Int.{ints}
use Rattle.value_rules.specs.Selecting.{total}
use Rattle.select_rows.proofs.Sums.{total_step}
use Rattle.select_rows.proofs.aggregates.total.Goals as goal

-- a number of 128 bits comes back from its bits
back_of : (z : ℤ) → FitsSigned w128 z → to_z w128 (of_z w128 z) ≡ z
back_of z fits = to_z-of_z {w = w128} {z = z} fits

bits_of : (z : ℤ) → FitsSigned w64 z → to_z w64 (of_z w64 z) ≡ z
bits_of z fits = to_z-of_z {w = w64} {z = z} fits

joined : (r s t a b : ℤ) → r ≡ s +ℤ a → s ≡ t → a ≡ b → r ≡ t +ℤ b
joined r s t a b e f g = rw (← f, ← g) e

-- the sum with one more number, and the rest without it
moved : (s a r t u whole : ℤ) → r ≡ s +ℤ a → s +ℤ t ≡ whole → t ≡ a +ℤ u → r +ℤ u ≡ whole
moved s a r t u whole e f g = omega (arith, ints)

not_low : (s a r : ℤ) (i : ℕ) → neg_ℤ (pos (i * 2 ^ 63)) ≤ℤ s → FitsSigned w64 a → r ≡ s +ℤ a → neg_ℤ (pos ((i + 1) * 2 ^ 63)) ≤ℤ r
not_low s a r i low fits e = omega (arith, ints)

not_high : (s a r : ℤ) (i : ℕ) → s ≤ℤ pos (i * 2 ^ 63) → FitsSigned w64 a → r ≡ s +ℤ a → r ≤ℤ pos ((i + 1) * 2 ^ 63)
not_high s a r i high fits e = omega (arith, ints)

pub loop-value-preserved : goal.loop-value-preserved
loop-value-preserved c =
    let back : to_z w128 (of_z w128 c.plus-sum.result) ≡ c.plus-sum.result = back_of c.plus-sum.result (omega (arith, ints)) in
    let fits : FitsSigned w64 c.addend.result = omega (arith, ints) in
    let added_bits : c.plus-sum.result ≡ to_z w128 c.loop-value.sum-bits +ℤ c.addend.result =
    joined c.plus-sum.result (to_z w128 c.loop-value.sum-bits) (to_z w128 c.loop-value.sum-bits) (to_z w64 (of_z w64 c.addend.result)) c.addend.result c.plus-sum.ensures refl (bits_of c.addend.result fits) in
    let step = total_step c.args.values.now c.loop-value.value-index c.value-item.result c.loop-value-test.true c.value-item.is in
    let step_is : total (drop c.loop-value.value-index c.args.values.now) ≡ c.addend.result +ℤ total (drop (c.loop-value.value-index + 1) c.args.values.now) =
    step ∙ ap (λ (n : ℤ). n +ℤ total (drop (c.loop-value.value-index + 1) c.args.values.now)) (sym c.addend.ensures) in
    record {
      sum = ap (λ (r : ℤ). r +ℤ total (drop (c.loop-value.value-index + 1) c.args.values.now)) back ∙ moved _ _ _ _ _ _ added_bits c.loop-value.invariant.sum step_is;
      low = rw back (not_low _ _ _ c.loop-value.value-index c.loop-value.invariant.low fits added_bits);
      high = rw back (not_high _ _ _ c.loop-value.value-index c.loop-value.invariant.high fits added_bits);
    }
