use Rattle.sql_tree.specs.Statement.{replace_into}
use Rattle.sql_reach.specs.Closing.{closed}
use Rattle.name_const.proofs.statements.close_replace.Goals as goal

pub returns : goal.returns
unfolding closed
returns c =
    let table = c.in_ok-duplicate.ensures in
    let columns = c.in_ok-duplicate-2.ensures in
    let from = c.in_ok-close_source.ensures in
    λ i. replace_into (table i) (columns i) (from i)
