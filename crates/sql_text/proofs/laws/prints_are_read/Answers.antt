use Rattle.sql_text.proofs.Statements.{print_is_read}
use Rattle.sql_text.proofs.laws.prints_are_read.Goals as goal

pub returns : goal.returns
returns c = print_is_read
