use Rattle.std.proofs.Common.{◌<◌, ◌≤◌, ℕ, vec_len}
use Rattle.block_list.specs.Layouts.{holds}
use Rattle.row_index.specs.Lists.{list_at, KeepsNumbers}
use Rattle.row_index.proofs.lists.make_hold.Given as goal

-- the lists so far hold so many numbers, and all keep theirs
abbrev pub invariant-loop-which : goal.invariant-loop-which
invariant-loop-which l = record {
  made : (w : ℕ) → w < l.which → l.count ≤ holds (list_at l.lists.items w);
  len : l.keys ≤ vec_len l.lists;
  keeps : KeepsNumbers l.initial.lists.items l.lists.items;
}
