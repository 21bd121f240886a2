use Rattle.std.proofs.Common.{◌≡◌, ◌<◌, ℕ, [], vec_len}
use Rattle.block_list.specs.Layouts.{holds}
use Rattle.row_index.specs.Lists.{list_at, numbers_at}
use Rattle.row_index.proofs.lists.clear_lists.Given as goal

-- the lists so far have no numbers, and all hold as many as before
abbrev pub invariant-loop-which : goal.invariant-loop-which
invariant-loop-which l = record {
  none : (w : ℕ) → w < l.which → numbers_at l.lists.items w ≡ [];
  holds : (w : ℕ) → holds (list_at l.lists.items w) ≡ holds (list_at l.initial.lists.items w);
  len : vec_len l.lists ≡ vec_len l.initial.lists;
}
