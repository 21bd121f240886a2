use Rattle.std.proofs.Common.{◌∙◌, sym, ap}
use Rattle.hex.specs.Hex.{upper_digits}
use Rattle.name_const_length.specs.Growing.{grown}
use Rattle.name_const_length.proofs.Growing.{grown-hexadecimal}
use Rattle.name_const_length.proofs.lengths.add_hexadecimal.Goals as goal

pub returns : goal.returns
returns c =
    c.add-2.ensures ∙ ap (λ n. grown n c.args.bytes.now) c.add.ensures ∙ sym (grown-hexadecimal c.args.total.now upper_digits c.args.bytes.now)
