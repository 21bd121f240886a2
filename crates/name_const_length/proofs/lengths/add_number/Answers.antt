use Rattle.std.proofs.Common.{◌∙◌, ◌/◌, ℕ, sym, ap, arith}
use Rattle.std.specs.Fmt.{decimal}
use Rattle.name_const_length.specs.Growing.{grown}
use Rattle.name_const_length.proofs.Growing.{digit-first, last-digit}
use Rattle.name_const_length.proofs.lengths.add_number.Goals as goal

pub loop-rest-preserved : goal.loop-rest-preserved
loop-rest-preserved c =
    ap (λ (n : ℕ). grown n (decimal (c.loop-rest.rest / 10))) c.add.ensures
    ∙ sym (digit-first c.loop-rest.total c.loop-rest.rest c.loop-rest-test.true (omega (arith, c.loop-rest.auto.rest-fits)))
    ∙ c.loop-rest.invariant

pub returns : goal.returns
returns c = c.add-2.ensures ∙ sym (last-digit c.loop-rest.total c.loop-rest.rest c.loop-rest-test.false) ∙ c.loop-rest.invariant
