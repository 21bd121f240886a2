use Rattle.std.proofs.Common.{◌≡◌, drop}
use Rattle.sql_tree.specs.StatementView.{view_declarations}
use Rattle.exec_state.specs.Stage.{LeadsOn, scene_of}
use Rattle.stored_programs.specs.Bodies.{body_of}
use Rattle.stored_programs.specs.Steps.{all_declared_in}
use Rattle.stored_programs.proofs.Declared.{declares_left}
use Rattle.stored_programs.proofs.declaring.declare_all.Given as goal

abbrev pub invariant-loop-declaration : goal.invariant-loop-declaration
invariant-loop-declaration g l = record {
  gives : declares_left l.around (body_of l.body) (drop l.declaration-index l.declaration-items) (scene_of l.stage) ≡ all_declared_in l.around (body_of l.fn.body) (view_declarations l.declarations) (scene_of l.fn.stage);
  leads : LeadsOn l.fn.stage l.stage;
}
