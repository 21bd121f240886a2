use Rattle.std.proofs.Common.{[], ◌∷◌, ◌+◌, drop, arith}
use Rattle.event_codec.specs.Event.{user_var}
use Rattle.item_events.specs.Parts.{variables}
use Rattle.item_events.proofs.Texting.{part_can, part_goes, var_at, no_var}
use Rattle.item_events.proofs.text.put_vars.Goals as goal
use Rattle.item_events.proofs.text.put_vars.Goals.{in-Some+in_ok-here-in-Some, in-None}

pub put_var-requires : goal.put_var-requires
put_var-requires c =
    part_can (variables c.args.vars.now) c.args.h c.args.out.now (variables (drop c.loop-place.place c.args.vars.now)) (user_var c.in-Some.name.now c.in-Some.value.now ∷ [])
    (variables (drop (c.loop-place.place + 1) c.args.vars.now)) c.loop-place.here c.loop-place.out
    (var_at c.args.vars.now c.loop-place.place (c.in-Some.name.now, c.in-Some.value.now) c.in-Some.ensures) c.loop-place.invariant

pub loop-place-preserved : goal.loop-place-preserved
loop-place-preserved c =
    elim c.match-at.branch [
      | in-Some+in_ok-here-in-Some w ↦
          rw (w.out-is, w.here-is) (part_goes (variables c.args.vars.now) c.args.h c.args.out.now (variables (drop c.loop-place.place c.args.vars.now)) (user_var w.in-Some.name.now w.in-Some.value.now ∷ [])
          (variables (drop (c.loop-place.place + 1) c.args.vars.now)) c.loop-place.here w.in_ok-here-in-Some.here c.loop-place.out w.put_var.new.out
          (var_at c.args.vars.now c.loop-place.place (w.in-Some.name.now, w.in-Some.value.now) w.in-Some.ensures) c.loop-place.invariant w.in_ok-here-in-Some.ensures.ok)
      | in-None w ↦ absurd (no_var c.args.vars.now c.loop-place.place w.in-None.ensures (omega (arith, c.len-place-end.ensures)))
    ]
