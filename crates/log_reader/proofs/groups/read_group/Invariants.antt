use Rattle.std.proofs.Common.{◌≡◌, ◌≤◌, ◌<◌, ◌-◌, length}
use Rattle.log_groups.specs.Growing.{IsLooked}
use Rattle.log_reader.specs.Reading.{Took}
use Rattle.log_reader.proofs.groups.read_group.Given as goal

abbrev pub invariant-loop-whole : goal.invariant-loop-whole
invariant-loop-whole g l = record {
  took : Took (g.S.Source.left l.fn.input) (g.S.Source.left l.input) l.bytes;
  looked : IsLooked l.bytes l.begin l.progress;
  few : length l.bytes ≤ l.progress.upto;
  later : g.S.Source.faults l.fn.input ≤ g.S.Source.faults l.input;
  fresh : g.S.Source.ended l.fn.input ≡ 0 → g.S.Source.ended l.input ≡ 0;
  room : 0 < length l.buffer;
}

abbrev pub decreases-loop-whole : goal.decreases-loop-whole
decreases-loop-whole g l = 1200000020 - l.progress.upto
