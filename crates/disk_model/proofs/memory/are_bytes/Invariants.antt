use Rattle.std.proofs.Common.{ℕ, ◌<◌}
use Rattle.hex.specs.Hex.{IsBytes}
use Rattle.disk_model.specs.Files.{files}
use Rattle.disk_model.proofs.memory.are_bytes.Given as goal

abbrev pub invariant-loop-file : goal.invariant-loop-file
invariant-loop-file l = (f : ℕ) → f < l.file-index → IsBytes (files l.list f)
