use Rattle.sql_lex.proofs.ByLetter.{row_here}
use Rattle.sql_lex.proofs.keyword.row.Goals as goal

pub returns : goal.returns
returns c = row_here c.args.rows.now c.args.at _ c.requires
