use Rattle.std.proofs.Common.{◌≡◌, drop}
use Rattle.sql_lex.specs.Folded.{folded}
use Rattle.sql_lex.specs.Keywords.{keyword_among}
use Rattle.sql_lex.proofs.keyword.find_keyword.Given as goal

abbrev pub invariant-loop-keyword : goal.invariant-loop-keyword
invariant-loop-keyword l =
    keyword_among (drop l.keyword-index l.keywords) (folded l.word) ≡ keyword_among l.keywords (folded l.word)
