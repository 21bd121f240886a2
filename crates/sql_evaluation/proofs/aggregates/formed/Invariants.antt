use Rattle.std.proofs.Common.{◌≡◌, drop}
use Rattle.sql_tree.specs.View.{view_aggregates}
use Rattle.key_order.specs.where_candidates.session_ctx.sql_meaning.Values.{functions_of}
use Rattle.sql_evaluation.specs.Seen.{formed_values}
use Rattle.sql_evaluation.proofs.Forming.{formed_left}
use Rattle.sql_evaluation.proofs.aggregates.formed.Given as goal

abbrev pub invariant-loop-place : goal.invariant-loop-place
invariant-loop-place l = formed_left (drop l.place l.one-items) l.place l.rows l.formed ≡ formed_values (functions_of (view_aggregates l.aggregates)) 0 l.rows
