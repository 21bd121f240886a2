use Rattle.std.proofs.Common.{◌≡◌, ◌≤◌, ◌-◌}
use Rattle.log_reader.specs.Reading.{next_pos}
use Rattle.replay_log.specs.Replaying.{Under, kept}
use Rattle.replay_log.proofs.replaying.Replaying.carry_out_all.Given as goal

abbrev pub invariant-loop-reader : goal.invariant-loop-reader
invariant-loop-reader g l = record {
  identity : l.self.node.node.identity ≡ l.fn.self.node.node.identity;
  under : Under l.fn.self.node.node.identity l.draw (kept l.fn.self) (g.S.Source.left l.fn.input) (g.S.Source.left l.input) (g.R.Disk.told l.fn.rep) (g.R.Disk.told l.rep) l.reader l.self l.report.marks;
  rest : l.report ≡ record (l.fn.report) { marks = l.report.marks };
  later_disk : g.R.Disk.faults l.fn.rep ≤ g.R.Disk.faults l.rep;
  later : g.S.Source.faults l.fn.input ≤ g.S.Source.faults l.input;
  ended : g.S.Source.ended l.fn.input ≡ 0 → g.S.Source.ended l.input ≡ 0;
}

abbrev pub decreases-loop-reader : goal.decreases-loop-reader
decreases-loop-reader g l = 1200000000 - next_pos l.reader
