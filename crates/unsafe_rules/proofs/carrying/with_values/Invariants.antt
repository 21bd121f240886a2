use Rattle.std.proofs.Common.{◌≡◌, map, take}
use Rattle.session_ctx.specs.log_entries.Variables.{variable_value}
use Rattle.unsafe_rules.proofs.carrying.with_values.Given as goal

abbrev pub invariant-loop-name : goal.invariant-loop-name
invariant-loop-name l = l.vars ≡ map (λ name. (name, variable_value l.x.variables name)) (take l.name-index l.name-items)
