use Rattle.std.proofs.Common.{◌≡◌, map, take}
use Rattle.name_const_checks.specs.Refusing.{numbered}
use Rattle.name_const_checks.proofs.closing.numbered.Given as goal

abbrev pub invariant-loop-local : goal.invariant-loop-local
invariant-loop-local l = l.numbers ≡ map numbered (take l.local-index l.local-items)
