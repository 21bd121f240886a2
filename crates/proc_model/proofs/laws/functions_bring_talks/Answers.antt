use Rattle.proc_model.proofs.Leading.{led_by_function}
use Rattle.proc_model.proofs.laws.functions_bring_talks.Goals as goal

pub returns : goal.returns
returns g c = record { brought = led_by_function g.R.Ruled.rules }
