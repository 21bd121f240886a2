use Rattle.std.proofs.Common.{◌≡◌, drop}
use Rattle.std.specs.Prelude.{zip}
use Rattle.name_const.specs.proc_model.Procedures.{add_parameter, all_tried}
use Rattle.proc_parts.proofs.declaring.parameters.Given as goal

abbrev pub invariant-loop-parameter : goal.invariant-loop-parameter
invariant-loop-parameter l = all_tried add_parameter l.locals (zip (drop l.parameter-index l.parameter-items) l.values) ≡ all_tried add_parameter l.fn.locals (zip l.parameters l.fn.values)
