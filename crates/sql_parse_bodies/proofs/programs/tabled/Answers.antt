use Rattle.std.proofs.Common.{refl}
use Rattle.sql_tree.specs.Statement.{create_table}
use Rattle.sql_syntax.specs.Programs.{with_heads}
use Rattle.sql_parse_bodies.proofs.ProgramNodes.{table_kept}
use Rattle.sql_parse_bodies.proofs.programs.tabled.Goals as goal

pub returns : goal.returns
returns c =
    let t = c.in_ok-part.part in
    (with_heads c.args.heads (create_table t), rw c.in_ok-part.ensures refl, c.in_ok-program.ensures (create_table t) (rw c.in_ok-body.ensures (table_kept t c.leaf.result c.leaf.ensures)))
