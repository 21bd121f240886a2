use Rattle.std.proofs.Common.{◌≡◌, [], ◌∷◌, ◌++◌, ◌+◌, ◌-◌, length, drop, map, sym, ap, ◌∙◌, refl, zero-add, arith}
use Rattle.script_read.specs.Bytes.{trim_front}
use Rattle.script_read.specs.Commands.{command_seen, what_seen}
use Rattle.script_read.specs.Script.{command_at}
use Rattle.script_read.proofs.Seen.{map_more, numbered_more, one_more, short_more}
use Rattle.script_read.proofs.Splitting.{first_turn, next_turn, left_within, too_long_script}
use Rattle.script_read.proofs.script.split.Goals as goal

pub returns-then-script-gt-SCRIPT_LIMIT-clause-gives : goal.returns-then-script-gt-SCRIPT_LIMIT-clause-gives
returns-then-script-gt-SCRIPT_LIMIT-clause-gives c = too_long_script c.args.script.now c.if-script-gt-SCRIPT_LIMIT.true

pub loop-rest-init : goal.loop-rest-init
loop-rest-init c =
    rw (c.new-commands.ensures) (
      rw (zero-add (length c.trim_front-rest.result.now)) (c.trim_front-rest.ensures.within),
      (
        length c.args.script.now,
        record {
          enough = c.trim_front-rest.ensures.within;
          whole = rw c.trim_front-rest.ensures.value (first_turn c.args.script.now c.if-script-gt-SCRIPT_LIMIT.false);
        },
      ),
      refl,
      refl,
    )

pub loop-rest-preserved : goal.loop-rest-preserved
loop-rest-preserved c =
    let rest = c.loop-rest.rest.now in
    let behind : c.trim_front-rest-in-Some.result.now ≡ trim_front (drop c.in-Some.size rest) =
    c.trim_front-rest-in-Some.ensures.value ∙ ap trim_front c.split_at.ensures.back in
    let pushed = c.in_ok-push-in-Some.ensures.ok in
    let more : map command_seen c.push.new.self ≡ map command_seen c.loop-rest.commands ++ command_at (length c.args.script.now - length rest) (what_seen c.in-Some.what) ∷ [] =
    ap (map command_seen) pushed ∙ map_more command_seen c.loop-rest.commands _ in
    let count : length c.push.new.self ≡ length c.loop-rest.commands + 1 = ap length pushed ∙ one_more c.loop-rest.commands _ in
    rw (behind, more, count) (
      left_within c.args.script.now rest (length c.loop-rest.commands) c.in-Some.size c.loop-rest.invariant.0 c.in-Some.ensures.within.0 c.in-Some.ensures.within.1,
      next_turn c.args.script.now (map command_seen c.loop-rest.commands) rest (what_seen c.in-Some.what) c.in-Some.size c.loop-rest.invariant.1.0
          (omega (arith, c.loop-rest.invariant.0)) c.in-Some.ensures.within.0 c.in-Some.ensures.within.1 (sym c.in-Some.ensures.value)
          c.if-size-le-COMMAND_LIMIT.true c.loop-rest.invariant.1.1,
      rw pushed (short_more c.loop-rest.commands _ c.in-Some.size c.in-Some.ensures.text c.if-size-le-COMMAND_LIMIT.true c.loop-rest.invariant.2),
      rw pushed (numbered_more c.loop-rest.commands _ c.in-Some.ensures.numbered c.loop-rest.invariant.3),
    )
