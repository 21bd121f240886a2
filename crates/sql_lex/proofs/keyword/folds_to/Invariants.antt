use Rattle.std.proofs.Common.{◌≡◌, drop}
use Rattle.std.specs.Str.{bytes_eq}
use Rattle.sql_lex.specs.Folded.{folded}
use Rattle.sql_lex.proofs.keyword.folds_to.Given as goal

abbrev pub invariant-loop-i : goal.invariant-loop-i
invariant-loop-i l = bytes_eq (drop l.i l.word) (folded (drop l.i l.bytes)) ≡ bytes_eq l.word (folded l.bytes)
