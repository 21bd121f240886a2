use Rattle.sql_tree.specs.Statement.{insert_into}
use Rattle.sql_reach.specs.Closing.{closed}
use Rattle.name_const.proofs.statements.close_insert.Goals as goal

pub returns : goal.returns
unfolding closed
returns c =
    let table = c.in_ok-duplicate.ensures in
    let columns = c.in_ok-duplicate-2.ensures in
    let from = c.in_ok-close_source.ensures in
    let sets = c.in_ok-close_sets.ensures in
    λ i. insert_into c.args.insert.now.ignore (table i) (columns i) (from i) (sets i)
