use Rattle.sql_parse_nodes.proofs.Pushed.{alone_pushed}
use Rattle.sql_parse_nodes.proofs.kept.alone_boxed.Goals as goal

pub returns : goal.returns
returns g c = rw (c.in_ok-list.ensures, c.empty.ensures) (alone_pushed c.args.item)
