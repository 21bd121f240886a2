use Rattle.sql_grammar.specs.Rule.{mapped}
use Rattle.sql_tree.specs.Tree.{values_of}
use Rattle.sql_tree.specs.View.{view_tree}
use Rattle.sql_tree.specs.Depth.{depth_of_tree}
use Rattle.sql_syntax.specs.Parts.{a_name, closed, in_parentheses}
use Rattle.sql_parse_nodes.proofs.Openings.{keeps_behind, keeps_opened}
use Rattle.sql_parse_nodes.proofs.leaves.values_call.Goals as goal

pub returns : goal.returns
returns c =
    let r = mapped values_of (closed a_name) in
    keeps_behind view_tree depth_of_tree _ _ _ (λ x. (in_parentheses c.args.depth r).read x.1) c.in_ok-rest.ensures (
    keeps_opened view_tree depth_of_tree _ _ _ _ (λ m. r) _ _ c.in_ok-rest-2.ensures.reads c.in_ok-rest-2.ensures.one_less c.values_name.ensures)
