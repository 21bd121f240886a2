use Rattle.std.proofs.Common.{◌≡◌, ◌≤◌, ◌++◌, drop, flat_map}
use Rattle.run_streams.specs.Wrote.{Writing}
use Rattle.dump_store.specs.Lines.{row_line}
use Rattle.dump_store.proofs.writing.write_rows.Given as goal

-- all lines were written but those that are gathered and those of the rows that are left
abbrev pub invariant-loop-row : goal.invariant-loop-row
invariant-loop-row g l = record {
  lines : Writing (g.K.Sink.written l.fn.out) (g.K.Sink.written l.out) (l.fn.text ++ flat_map row_line l.rows) (l.text ++ flat_map row_line (drop l.row-index l.rows));
  later : g.K.Sink.faults l.fn.out ≤ g.K.Sink.faults l.out;
  ended : g.K.Sink.ended l.fn.out ≡ 0 → g.K.Sink.ended l.out ≡ 0;
}
