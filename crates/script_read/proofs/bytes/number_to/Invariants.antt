use Rattle.std.proofs.Common.{◌≡◌, ◌≤◌, drop}
use Rattle.script_read.specs.Bytes.{read_on}
use Rattle.script_read.proofs.bytes.number_to.Given as goal

abbrev pub invariant-loop-digit : goal.invariant-loop-digit
invariant-loop-digit l = (l.number ≤ l.limit) × (read_on l.number (drop l.digit-index l.digits) ≡ read_on 0 l.digits)
