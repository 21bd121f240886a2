use Rattle.std.proofs.Common.{refl}
use Rattle.val_types.specs.declared.value.Value.TheVariants.{Null}
use Rattle.proc_parts.specs.Calls.{held_of}
use Rattle.proc_parts.proofs.Conditions.{preset_none}
use Rattle.proc_parts.proofs.evaluating.preset_value.Goals as goal

pub returns-in-None-clause-gives : goal.returns-in-None-clause-gives
returns-in-None-clause-gives g c = rw (c.in-None.is) (preset_none g.R.Ruled.rules g.R.Runner.faults c.args.world.now c.args.locals.now Null (held_of c.args.held.now) c.args.r.now refl)
