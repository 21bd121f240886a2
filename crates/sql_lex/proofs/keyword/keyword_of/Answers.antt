use Rattle.std.proofs.Common.{ap, ◌∙◌}
use Rattle.sql_lex.specs.Folded.{folded}
use Rattle.sql_lex.specs.Keywords.{keyword_among}
use Rattle.sql_lex.specs.ByLetter.{beginning_with}
use Rattle.sql_lex.proofs.ByLetter.{by_first}
use Rattle.sql_lex.proofs.keyword.keyword_of.Goals as goal

pub returns-in-len1-up : goal.returns-in-len1-up
returns-in-len1-up c =
    c.find_keyword.ensures
    ∙ (ap (λ ks. keyword_among ks (folded c.args.word.now)) (c.beginning_with.ensures ∙ ap beginning_with c.to_ascii_lowercase.ensures.value)
    ∙ by_first c.args.word.now c.in-len1-up.len_at_least)
