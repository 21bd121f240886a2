use Rattle.std.proofs.Common.{sym, ◌∙◌, subst}
use Rattle.hex.specs.Hex.{IsBytes}
use Rattle.disk_model.specs.Files.{files}
use Rattle.disk_model.proofs.Recorded.{begins, begins_settled}
use Rattle.disk_model.proofs.Told.{bytes_begin, no_bytes}
use Rattle.disk_model.proofs.memory.MemDisk.new.Goals as goal

pub invariant_of-result : goal.invariant_of-result
invariant_of-result c = (
  begins _ _ _ (c.new-2.ensures ∙ sym c.new.ensures) c.new-3.ensures,
  bytes_begin c.new.result c.new-3.result c.new-3.ensures (λ f. subst (λ list. IsBytes (files list f)) (sym c.new.ensures) no_bytes),
)

pub returns-clause-settled : goal.returns-clause-settled
returns-clause-settled c = begins_settled c.new.result c.new-3.result c.new-3.ensures
