use Rattle.std.proofs.Common.{◌≡◌, ◌≤◌, ◌-◌}
use Rattle.load_script.specs.Script.{turns_text}
use Rattle.gen_script.specs.Gathered.{Gathers}
use Rattle.gen_script.proofs.writing.write_turns.Given as goal

-- the script up to the change that was put last was written, but for what is gathered
abbrev pub invariant-loop-i : goal.invariant-loop-i
invariant-loop-i g l =
    Gathers (g.K.Sink.written l.fn.out) (g.K.Sink.written l.out) l.text (turns_text l.i) × (l.i ≤ l.changes)
    × (g.K.Sink.faults l.fn.out ≤ g.K.Sink.faults l.out) × (g.K.Sink.ended l.fn.out ≡ 0 → g.K.Sink.ended l.out ≡ 0)

abbrev pub decreases-loop-i : goal.decreases-loop-i
decreases-loop-i g l = l.changes - l.i
