use Rattle.std.proofs.Common.{◌≡◌, length}
use Rattle.std.specs.Prelude.{reverse}
use Rattle.table_rules.specs.Stored.{all_applied}
use Rattle.store_load.specs.Loading.{ChangesTables}
use Rattle.store_load.proofs.changing.make_all.Given as goal

abbrev pub invariant-loop-change : goal.invariant-loop-change
invariant-loop-change l = record {
  so_far : all_applied (reverse l.left) l.work.tables ≡ all_applied l.fn.changes l.fn.work.tables;
  rest : ChangesTables l.fn.work l.work;
}

abbrev pub decreases-loop-change : goal.decreases-loop-change
decreases-loop-change l = length l.left
