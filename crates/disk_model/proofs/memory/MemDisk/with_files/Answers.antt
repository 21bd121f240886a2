use Rattle.std.proofs.Common.{subst}
use Rattle.hex.specs.Hex.{IsBytes}
use Rattle.disk_model.specs.Files.{files}
use Rattle.disk_model.proofs.Recorded.{begins, begins_settled}
use Rattle.disk_model.proofs.Told.{bytes_begin}
use Rattle.disk_model.proofs.memory.MemDisk.with_files.Goals as goal

pub invariant_of-result : goal.invariant_of-result
invariant_of-result c = (
  begins _ _ _ c.in_ok-held.ensures c.new.ensures,
  bytes_begin c.args.first c.new.result c.new.ensures (λ f. subst (λ list. IsBytes (files list f)) c.as_slice.ensures (c.are_bytes.ensures f)),
)

pub returns-clause-settled : goal.returns-clause-settled
returns-clause-settled c = begins_settled c.args.first c.new.result c.new.ensures
