use Rattle.std.proofs.Common.{◌≡◌, drop}
use Rattle.name_const.specs.proc_model.Procedures.{add_local, all_tried}
use Rattle.proc_parts.proofs.declaring.add_locals.Given as goal

abbrev pub invariant-loop-name : goal.invariant-loop-name
invariant-loop-name l = all_tried (add_local l.kind l.value) l.locals (drop l.name-index l.name-items) ≡ all_tried (add_local l.kind l.value) l.fn.locals l.names
