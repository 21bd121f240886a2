use Rattle.std.proofs.Common.{◌≡◌, drop}
use Rattle.sql_lex.specs.Quotes.{further, closing_from, closing}
use Rattle.sql_lex.proofs.quotes.closing.Given as goal

abbrev pub invariant-loop-i : goal.invariant-loop-i
invariant-loop-i l = further l.i (closing_from l.quote l.held (drop l.i l.text)) ≡ closing l.quote l.text
