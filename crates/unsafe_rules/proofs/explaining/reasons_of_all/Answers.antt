use Rattle.std.proofs.Common.{◌∙◌, flat_map}
use Rattle.sql_reach.specs.Reach.{body_nodes, reached_nodes, reached_programs}
use Rattle.session_ctx.specs.catalog_rules.Nodes.{nodes_of}
use Rattle.node_walk.specs.catalog_objects.Keys.{objects_of}
use Rattle.sql_tree.specs.StatementView.{view}
use Rattle.unsafe_rules.proofs.Reasoned.{functions_asked, server_ids_asked, limits_asked, counted_selects_asked, counted_inserts_asked, two_keys_asked, ignored_asked, replaced_asked, updated_asked, reasons_are}
use Rattle.unsafe_rules.proofs.explaining.reasons_of_all.Goals as goal

pub returns : goal.returns
returns c =
    let all = reached_nodes (objects_of c.args.objects.now) (nodes_of (view c.args.s.now)) in
    reasons_are (objects_of c.args.objects.now) (view c.args.s.now) _
    (c.reaches.ensures ∙ functions_asked all)
    (c.reaches-2.ensures ∙ server_ids_asked all)
    (c.reaches-3.ensures ∙ limits_asked all)
    (c.reaches-4.ensures ∙ counted_selects_asked c.args.objects all)
    (c.programs_reach.ensures ∙ counted_inserts_asked c.args.objects (flat_map body_nodes (reached_programs (objects_of c.args.objects.now) (nodes_of (view c.args.s.now)))))
    (c.reaches-5.ensures ∙ two_keys_asked c.args.objects all)
    (c.reaches-6.ensures ∙ ignored_asked all)
    (c.reaches-7.ensures ∙ replaced_asked all)
    (c.reaches-8.ensures ∙ updated_asked all)
