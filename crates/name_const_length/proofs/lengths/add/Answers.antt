use Rattle.std.proofs.Common.{◌∙◌, sym, arith}
use Rattle.name_const_length.proofs.Growing.{grown_by}
use Rattle.name_const_length.proofs.lengths.add.Goals as goal

pub returns : goal.returns
returns c = c.saturating_add.ensures ∙ sym (grown_by c.args.total.now c.args.bytes.now (omega arith))
