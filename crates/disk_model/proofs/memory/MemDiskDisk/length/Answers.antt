use Rattle.std.proofs.Common.{ap, length}
use Rattle.disk_model.proofs.Recorded.{looked}
use Rattle.disk_model.proofs.memory.MemDiskDisk.length.Goals as goal

pub returns-clause-value : goal.returns-clause-value
returns-clause-value c = ap length (looked c.args.self.now c.keep.new.self c.args.file c.contents.result.now c.in_ok-keep.ensures.ok c.contents.ensures)
