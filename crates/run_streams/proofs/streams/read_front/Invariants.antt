use Rattle.std.proofs.Common.{◌≡◌, ◌≤◌, ◌-◌, ◌++◌, length, option_map, vec_len}
use Rattle.run_streams.proofs.streams.read_front.Given as goal

abbrev pub invariant-loop-script : goal.invariant-loop-script
invariant-loop-script g l =
    (option_map (λ rest. l.script ++ rest) (g.S.Source.left l.input) ≡ g.S.Source.left l.fn.input)
    × (g.S.Source.faults l.fn.input ≤ g.S.Source.faults l.input)
    × (length l.script ≤ 67108865)
    × (vec_len l.buffer ≡ 65536)
    × (g.S.Source.ended l.fn.input ≡ 0 → g.S.Source.ended l.input ≡ 0)

abbrev pub decreases-loop-script : goal.decreases-loop-script
decreases-loop-script g l = 67108865 - length l.script
