use Rattle.std.proofs.Common.{◌≡◌, ◌++◌, drop}
use Rattle.answer_text.specs.Shown.{sets_lines}
use Rattle.answer_text.proofs.showing.put_sets.Given as goal

-- the lines so far, and those of the sets that are left
abbrev pub invariant-loop-i : goal.invariant-loop-i
invariant-loop-i l = l.text ++ sets_lines l.number l.warned (drop l.i l.rows-items) ≡ l.fn.text ++ sets_lines l.number l.warned l.rows-items
