use Rattle.std.proofs.Common.{ap, ◌∙◌}
use Rattle.std.specs.List.{list_any}
use Rattle.session_ctx.specs.catalog_rules.Nodes.{nodes_of}
use Rattle.sql_tree.specs.StatementView.{view}
use Rattle.sql_reach.specs.Reach.{holds_change}
use Rattle.unsafe_rules.proofs.Asked.{changes_asked}
use Rattle.unsafe_rules.proofs.reaching.has_change.Goals as goal

pub returns : goal.returns
returns c = c.in_statement.ensures ∙ changes_asked (nodes_of (view c.body_of.result.now)) ∙ ap (λ s. list_any holds_change (nodes_of s)) c.body_of.ensures
