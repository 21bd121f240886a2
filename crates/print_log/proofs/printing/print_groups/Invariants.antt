use Rattle.std.proofs.Common.{◌≡◌, ◌≤◌, ◌-◌}
use Rattle.log_reader.specs.Reading.{next_pos}
use Rattle.print_log.specs.Printing.{IsShown}
use Rattle.print_log.proofs.printing.print_groups.Given as goal

abbrev pub invariant-loop-lines : goal.invariant-loop-lines
invariant-loop-lines g l = record {
  shown : IsShown (g.S.Source.left l.fn.input) (g.S.Source.left l.input) (g.K.Sink.written l.fn.out) (g.K.Sink.written l.out) l.reader;
  read_later : g.S.Source.faults l.fn.input ≤ g.S.Source.faults l.input;
  write_later : g.K.Sink.faults l.fn.out ≤ g.K.Sink.faults l.out;
  read_on : g.S.Source.ended l.fn.input ≡ 0 → g.S.Source.ended l.input ≡ 0;
  write_on : g.K.Sink.ended l.fn.out ≡ 0 → g.K.Sink.ended l.out ≡ 0;
}

abbrev pub decreases-loop-lines : goal.decreases-loop-lines
decreases-loop-lines g l = 1200000000 - next_pos l.reader
