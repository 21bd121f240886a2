use Rattle.std.proofs.Common.{◌≡◌, ◌≤◌, ◌<◌, ◌-◌, [], length}
use Rattle.log_reader.specs.Filling.{Passed}
use Rattle.log_reader.proofs.front.pass_to.Given as goal

abbrev pub invariant-loop-at : goal.invariant-loop-at
invariant-loop-at g l = record {
  passed : Passed l.from l.at (g.S.Source.left l.fn.input) (g.S.Source.left l.input);
  none : l.bytes ≡ [];
  within : l.at ≤ l.pos;
  later : g.S.Source.faults l.fn.input ≤ g.S.Source.faults l.input;
  fresh : g.S.Source.ended l.fn.input ≡ 0 → g.S.Source.ended l.input ≡ 0;
  room : 0 < length l.buffer;
}

abbrev pub decreases-loop-at : goal.decreases-loop-at
decreases-loop-at g l = l.pos - l.at
