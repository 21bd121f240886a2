use Rattle.std.proofs.Common.{subst, List, ℕ}
use Rattle.disk_model.specs.Answers.{Reads}
use Rattle.disk_model.proofs.Recorded.{looked}
use Rattle.disk_model.proofs.memory.MemDiskDisk.read.Goals as goal

pub returns-clause-value : goal.returns-clause-value
returns-clause-value c = subst (λ (l : List ℕ). Reads l c.args.at c.copy_from.result c.copy_from.new.buf) (looked c.args.self.now c.keep.new.self c.args.file c.contents.result.now c.in_ok-keep.ensures.ok c.contents.ensures) c.copy_from.ensures.reads
