use Rattle.std.proofs.Common.{◌≡◌, drop}
use Rattle.key_order.specs.where_candidates.session_ctx.sql_meaning.Frames.{column_in_view}
use Rattle.sql_evaluation.specs.Seen.{views_of}
use Rattle.sql_evaluation.proofs.lookup.column_in_view.Given as goal

abbrev pub invariant-loop-view : goal.invariant-loop-view
invariant-loop-view l = column_in_view l.name (views_of (drop l.view-index l.views)) ≡ column_in_view l.name (views_of l.views)
