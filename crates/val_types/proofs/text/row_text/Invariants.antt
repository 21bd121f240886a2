use Rattle.std.proofs.Common.{◌≡◌, ◌++◌, drop, nat_eq, cond}
use Rattle.val_types.specs.Text.{row_text_of, more_text_of}
use Rattle.val_types.proofs.text.row_text.Given as goal

-- what is written so far and what is left to write make the whole
abbrev pub invariant-loop-i : goal.invariant-loop-i
invariant-loop-i l =
    l.text ++ cond (nat_eq l.i 0) (row_text_of (drop l.i l.value-items)) (more_text_of (drop l.i l.value-items)) ≡ row_text_of l.value-items
