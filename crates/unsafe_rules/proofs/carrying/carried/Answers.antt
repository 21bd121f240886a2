use Rattle.std.proofs.Common.{sym, ◌∙◌}
use Rattle.node_walk.specs.catalog_objects.Keys.{objects_of}
use Rattle.session_ctx.specs.catalog_rules.Nodes.{nodes_of}
use Rattle.sql_tree.specs.StatementView.{view}
use Rattle.unsafe_rules.specs.Reaching.{nothing_wanted}
use Rattle.unsafe_rules.proofs.Causing.{nothing_reached}
use Rattle.unsafe_rules.proofs.Rounds.{nothing_found}
use Rattle.unsafe_rules.proofs.carrying.carried.Goals as goal

pub carried_of_all-requires : goal.carried_of_all-requires
carried_of_all-requires c = rw (c.nothing-found.ensures) (nothing_reached (objects_of c.args.objects.now) (nodes_of (view c.args.s.now)) (sym c.in_statement.ensures ∙ c.if-not-in_statement.true))

pub find_carried-requires : goal.find_carried-requires
find_carried-requires c = rw (c.nothing-found.ensures) (nothing_found (objects_of c.args.objects.now) (nodes_of (view c.args.s.now)) nothing_wanted)
