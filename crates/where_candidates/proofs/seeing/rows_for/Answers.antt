use Rattle.std.proofs.Common.{sym, ◌∙◌}
use Rattle.where_candidates.proofs.seeing.rows_for.Goals as goal

pub returns-in-None : goal.returns-in-None
returns-in-None c = rw c.in-Some.is λ name place there. c.rows_by_unique.ensures name place there (sym c.in_ok-key.ensures ∙ c.in-None.is)
