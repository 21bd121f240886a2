use Rattle.std.proofs.Common.{◌≡◌, ◌++◌, drop, flat_map}
use Rattle.log_print.specs.Lines.{change_words}
use Rattle.log_print.proofs.rows.put_changes.Given as goal

-- the rows so far, and those that are left
abbrev pub invariant-loop-change : goal.invariant-loop-change
invariant-loop-change l = l.out ++ flat_map change_words (drop l.change-index l.change-items) ≡ l.fn.out ++ flat_map change_words l.change-items
