use Rattle.std.proofs.Common.{◌≡◌, ◌∙◌, ℕ, true, false, ap, subst}
use Rattle.std.specs.Prelude.{ℤ, pos}
use Rattle.std.specs.Fmt.{decimal}
use Rattle.std.proofs.Math.Facts.{to_z-of_z}
use lib.Signed.{lt_z}
use lib.IntN.{nat_abs}
use Rattle.name_const_length.specs.Growing.{grown}
use Rattle.name_const_length.proofs.Growing.{grown-negative, grown-positive}
use Rattle.name_const_length.proofs.lengths.add_signed.Goals as goal
use Rattle.name_const_length.proofs.lengths.add_signed.Goals.{then-number-lt0, else-number-lt0}

pub returns : goal.returns
returns c =
    let same = to_z-of_z c.ranges.number in
    let digits = c.unsigned_abs.ensures.value ∙ ap nat_abs same in
    elim c.if-number-lt0.branch [
      | then-number-lt0 w ↦
          grown-negative c.args.number c.args.total.now _ _ _ (subst (λ (z : ℤ). lt_z z (pos 0) ≡ true) same w.if-number-lt0.true) (w.total-is ∙ w.add.ensures) digits c.add_number.ensures
      | else-number-lt0 w ↦
          grown-positive c.args.number c.args.total.now _ _ (subst (λ (z : ℤ). lt_z z (pos 0) ≡ false) same w.if-number-lt0.false) digits
          (c.add_number.ensures ∙ ap (λ (n : ℕ). grown n (decimal c.unsigned_abs.result)) w.total-is)
    ]
