use Rattle.std.proofs.Common.{◌∙◌}
use Rattle.sql_tree.specs.StatementView.{view}
use Rattle.name_const_length.specs.catalog_rules.Nodes.{nodes_of}
use Rattle.name_const_checks.proofs.Limits.{any_nameless}
use Rattle.name_const_checks.proofs.closing.has_nameless_limit.Goals as goal

pub returns : goal.returns
returns c = c.has_ill_limit.ensures ∙ any_nameless c.in_ok-numbers.numbers c.args.locals.now (nodes_of (view c.args.s.now)) c.in_ok-numbers.ensures
