use Rattle.std.proofs.Common.{◌≡◌, ◌++◌, drop}
use Rattle.sql_lex.specs.Quotes.{meant_from, meant}
use Rattle.sql_lex.proofs.quotes.meant.Given as goal

abbrev pub invariant-loop-byte : goal.invariant-loop-byte
invariant-loop-byte l = l.out ++ meant_from l.quote l.held (drop l.byte-index l.text) ≡ meant l.quote l.text
