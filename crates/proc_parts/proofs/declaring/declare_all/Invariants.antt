use Rattle.std.proofs.Common.{drop}
use Rattle.sql_tree.specs.StatementView.{view_declarations}
use Rattle.proc_parts.specs.Calls.{Moves, held_of}
use Rattle.proc_parts.specs.Parts.{all_declared_at}
use Rattle.proc_parts.proofs.Behind.{Onto}
use Rattle.proc_parts.proofs.declaring.declare_all.Given as goal

abbrev pub invariant-loop-declaration : goal.invariant-loop-declaration
invariant-loop-declaration g l = record {
  gives : Onto g.R.Ruled.rules g.R.Runner.faults (all_declared_at l.world l.locals (view_declarations (drop l.declaration-index l.declaration-items)) (held_of l.held)) l.r (all_declared_at l.world l.fn.locals (view_declarations l.declarations) (held_of l.fn.held)) l.fn.r;
  moves : Moves (g.R.Runner.faults l.fn.r) (g.R.Runner.faults l.r) l.fn.held.turns l.held.turns;
}
