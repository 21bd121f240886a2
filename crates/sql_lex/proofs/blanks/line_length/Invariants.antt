use Rattle.std.proofs.Common.{◌≡◌, ◌+◌, drop}
use Rattle.sql_lex.specs.Blanks.{line_length}
use Rattle.sql_lex.proofs.blanks.line_length.Given as goal

abbrev pub invariant-loop-i : goal.invariant-loop-i
invariant-loop-i l = l.i + line_length (drop l.i l.text) ≡ line_length l.text
