use Rattle.stmt_apply.proofs.Going.{rows_go_on}
use Rattle.stmt_apply.proofs.under_way.UnderWay.end_rows.Goals as goal

pub returns : goal.returns
returns c = λ work g h. rw c.if-ends.false (rows_go_on c.args.first work c.args.self.now g h)
