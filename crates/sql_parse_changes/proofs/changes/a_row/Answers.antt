use Rattle.sql_lex.specs.declared.token.Symbol.TheVariants as signs
use Rattle.sql_grammar.specs.Rule.{any_of}
use Rattle.sql_tree.specs.Depth.{depth_of_trees}
use Rattle.sql_tree.specs.View.{view_trees}
use Rattle.sql_syntax.specs.Expressions.{expression}
use Rattle.sql_syntax.specs.Parts.{closed, exprs}
use Rattle.sql_syntax.specs.Tokens.{kind, sign_code}
use Rattle.sql_parse_nodes.proofs.KeptLists.{opened_keeps}
use Rattle.sql_parse_changes.proofs.changes.a_row.Goals as goal

pub returns : goal.returns
returns c =
    opened_keeps view_trees depth_of_trees c.closed_list.result c.args.depth c.in_ok-depth.depth (any_of kind (sign_code signs.Open)) (λ d. closed (exprs (expression d))) c.args.rest c.in_ok-depth.rest
    (rw c.sign_code.ensures at c.in_ok-depth.ensures.reads) c.in_ok-depth.ensures.one_less c.closed_list.ensures
