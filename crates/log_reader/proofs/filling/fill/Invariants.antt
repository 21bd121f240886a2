use Rattle.std.proofs.Common.{◌≡◌, ◌≤◌, ◌<◌, ◌-◌, ◌++◌, length, option_map}
use Rattle.log_reader.specs.Filling.{Grows}
use Rattle.log_reader.specs.Reading.{Takes}
use Rattle.log_reader.proofs.filling.fill.Given as goal

abbrev pub invariant-loop-bytes : goal.invariant-loop-bytes
invariant-loop-bytes g l = record {
  grows : Grows l.fn.bytes l.bytes;
  joined : option_map (λ rest. l.bytes ++ rest) (g.S.Source.left l.input) ≡ option_map (λ rest. l.fn.bytes ++ rest) (g.S.Source.left l.fn.input);
  takes : Takes (g.S.Source.left l.fn.input) (g.S.Source.left l.input);
  later : g.S.Source.faults l.fn.input ≤ g.S.Source.faults l.input;
  fresh : g.S.Source.ended l.fn.input ≡ 0 → g.S.Source.ended l.input ≡ 0;
  few : length l.bytes ≤ l.count;
  room : 0 < length l.buffer;
}

abbrev pub decreases-loop-bytes : goal.decreases-loop-bytes
decreases-loop-bytes g l = l.count - length l.bytes
