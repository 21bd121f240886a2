use Rattle.std.proofs.Common.{◌≡◌, drop}
use Rattle.sql_lex.specs.Quotes.{further}
use Rattle.sql_lex.specs.Blanks.{block_length}
use Rattle.sql_lex.proofs.blanks.block_length.Given as goal

abbrev pub invariant-loop-i : goal.invariant-loop-i
invariant-loop-i l = further l.i (block_length (drop l.i l.text)) ≡ block_length l.text
