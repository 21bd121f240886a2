use Rattle.std.proofs.Common.{◌≡◌, ◌+◌, ◌-◌, ◌^◌, ◌≤◌, drop}
use Rattle.row_events.specs.Sizes.{bounded, sizes}
use Rattle.item_events.specs.Parts.{variables}
use Rattle.item_events.proofs.sizes.vars_size.Given as goal

abbrev pub invariant-loop-place : goal.invariant-loop-place
invariant-loop-place l = record {
  same : bounded (l.size + sizes (variables (drop l.place l.vars))) ≡ bounded (sizes (variables l.vars));
  fits : l.size ≤ 2 ^ 64 - 1;
}
