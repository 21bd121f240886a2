use Rattle.std.proofs.Common.{◌≡◌, ◌≤◌, drop}
use Rattle.sql_lex.specs.Begins.{number_from}
use Rattle.sql_lex.proofs.scan.number.Given as goal

abbrev pub invariant-loop-digit : goal.invariant-loop-digit
invariant-loop-digit l =
    (number_from l.number (drop l.digit-index l.digits) ≡ number_from 0 l.digits) × (l.number ≤ 9223372036854776007)
