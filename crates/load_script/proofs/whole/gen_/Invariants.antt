use Rattle.std.proofs.Common.{◌≡◌, ◌≤◌, ◌-◌}
use Rattle.load_script.specs.Script.{turns_text}
use Rattle.load_script.proofs.whole.gen_.Given as goal

-- the script up to the change that was put last
abbrev pub invariant-loop-i : goal.invariant-loop-i
invariant-loop-i l = (l.text ≡ turns_text l.i) × (l.i ≤ l.changes)

abbrev pub decreases-loop-i : goal.decreases-loop-i
decreases-loop-i l = l.changes - l.i
