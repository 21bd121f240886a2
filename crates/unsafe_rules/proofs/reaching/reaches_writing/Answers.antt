use Rattle.std.proofs.Common.{sym, ◌∙◌}
use Rattle.session_ctx.specs.catalog_rules.Nodes.{nodes_of}
use Rattle.node_walk.specs.catalog_objects.Keys.{objects_of}
use Rattle.sql_tree.specs.StatementView.{view}
use Rattle.sql_reach.specs.Reach.{is_writing_function}
use Rattle.unsafe_rules.proofs.Rounds.{nothing_found}
use Rattle.unsafe_rules.proofs.Causing.{nothing_caused}
use Rattle.unsafe_rules.proofs.reaching.reaches_writing.Goals as goal

pub finds_writing-requires : goal.finds_writing-requires
finds_writing-requires c = rw (c.nothing.ensures) (nothing_found (objects_of c.args.objects.now) (nodes_of (view c.args.s.now)) is_writing_function)

pub returns-then-not-in_statement : goal.returns-then-not-in_statement
returns-then-not-in_statement c = sym (nothing_caused (objects_of c.args.objects.now) (nodes_of (view c.args.s.now)) is_writing_function (sym c.in_statement.ensures ∙ c.if-not-in_statement.true))
