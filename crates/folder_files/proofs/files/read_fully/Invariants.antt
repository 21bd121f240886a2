use Rattle.std.proofs.Common.{◌≤◌, length}
use Rattle.folder_files.proofs.files.read_fully.Given as goal

abbrev pub invariant-loop : goal.invariant-loop
invariant-loop l = l.count ≤ length l.buf
