use Rattle.std.proofs.Common.{◌≡◌, ◌++◌, drop, flat_map}
use Rattle.answer_text.specs.Shown.{row_line}
use Rattle.answer_text.proofs.showing.put_set.Given as goal

-- the lines so far, and those of the rows that are left
abbrev pub invariant-loop-row : goal.invariant-loop-row
invariant-loop-row l = l.text ++ flat_map (row_line l.number) (drop l.row-index l.row-items) ≡ l.fn.text ++ flat_map (row_line l.number) l.row-items
