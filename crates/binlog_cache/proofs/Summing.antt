-- Items that are kept with their sums.
use Rattle.std.proofs.Common.{◌≡◌, ℕ, ◌+◌, ◌-◌, ◌^◌, ◌≤◌, zero, suc, min, List, [], ◌∷◌, ◌++◌, length, take, get_or, refl, sym, ap, ◌∙◌, arith}
use Rattle.binlog_sizes.specs.log_entries.declared.entries.Item.{Item}
use Rattle.binlog_sizes.specs.log_model.Items.{item_size}
use Rattle.binlog_sizes.specs.row_events.Sizes.{bounded}
use Rattle.binlog_sizes.specs.Sizes.{all_changes_size, all_sizes}
use Rattle.binlog_cache.specs.declared.kept.Kept.{Kept}
use Rattle.binlog_cache.specs.Sums.{items_of, AreSummed, AreCounted, log_sum, changes_sum, changes_of_item}

-- a sum over items, each by its size
module _ (sum : Kept → ℕ) (size : Item → ℕ) where
  total_of : List Item → ℕ
  total_of [] = 0
  total_of (i ∷ is) = size i + total_of is

  summed_front : (before n : ℕ) (ks : List Kept) → AreSummed sum size before ks → AreSummed sum size before (take n ks)
  summed_front before zero ks are = tt
  summed_front before (suc n) [] are = tt
  summed_front before (suc n) (k ∷ ks) are = (are.0, summed_front (before + size k.item) n ks are.1)

  summed_more : (before : ℕ) (ks : List Kept) (k : Kept) → AreSummed sum size before ks → sum k ≡ bounded (before + (total_of (items_of ks) + size k.item)) → AreSummed sum size before (ks ++ k ∷ [])
  unfolding total_of
  summed_more before [] k are is = let same : before + (0 + size k.item) ≡ before + size k.item = omega arith in (is ∙ ap bounded same, tt)
  summed_more before (x ∷ xs) k are is =
      let same : before + (size x.item + total_of (items_of xs) + size k.item) ≡ before + size x.item + (total_of (items_of xs) + size k.item) = omega arith in
      (are.0, summed_more (before + size x.item) xs k are.1 (is ∙ ap bounded same))

  -- the last one's is that of all
  sum_at_last : (before : ℕ) (ks : List Kept) (i : ℕ) (k : Kept) → AreSummed sum size before ks → i + 1 ≡ length ks → get_or ks i k ≡ k → sum k ≡ bounded (before + total_of (items_of ks))
  unfolding total_of
  sum_at_last before [] i k are last is = absurd (omega (arith, last))
  sum_at_last before (x ∷ []) zero k are last is =
      let same : before + size x.item ≡ before + (size x.item + 0) = omega arith in
      ap (λ (y : Kept). sum y) (sym is) ∙ are.0 ∙ ap bounded same
  sum_at_last before (x ∷ y ∷ ys) zero k are last is = absurd (omega (arith, last))
  sum_at_last before (x ∷ xs) (suc i) k are last is =
      let same : before + size x.item + total_of (items_of xs) ≡ before + (size x.item + total_of (items_of xs)) = omega arith in
      sum_at_last (before + size x.item) xs i k are.1 (omega (arith, last)) is ∙ ap bounded same

  -- an item's sum behind that of those before it
  sum_behind : (ks : List Kept) (i : Item) (before own until : ℕ) → before ≡ bounded (total_of (items_of ks)) → own ≡ bounded (size i) → until ≡ min (before + own) (2 ^ 64 - 1)
      → until ≡ bounded (0 + (total_of (items_of ks) + size i))
  sum_behind ks i before own until is-before is-own is-until = adds (total_of (items_of ks)) (size i) before own until is-before is-own is-until
    where
      adds : (s n before own until : ℕ) → before ≡ min s (2 ^ 64 - 1) → own ≡ min n (2 ^ 64 - 1) → until ≡ min (before + own) (2 ^ 64 - 1) → until ≡ min (0 + (s + n)) (2 ^ 64 - 1)
      adds s n before own until a b d = omega arith

  last_is : (ks xs : List Kept) (k : Kept) → xs ≡ ks → AreSummed sum size 0 ks → 1 ≤ length xs → k ≡ get_or xs (length xs - 1) k → sum k ≡ bounded (total_of (items_of ks))
  last_is ks xs k same are some is =
      let count : length xs ≡ length ks = ap length same in
      let last : get_or ks (length xs - 1) k ≡ k = sym (is ∙ ap (λ (ys : List Kept). get_or ys (length xs - 1) k) same) in
      let zero : 0 + total_of (items_of ks) ≡ total_of (items_of ks) = omega arith in
      sum_at_last 0 ks (length xs - 1) k are (omega (arith, count)) last ∙ ap bounded zero

-- ---- in a log, and as changes

log_total : (is : List Item) → total_of log_sum item_size is ≡ all_sizes is
unfolding total_of
log_total [] = refl
log_total (i ∷ is) = ap (λ n. item_size i + n) (log_total is)

changes_total : (is : List Item) → total_of changes_sum changes_of_item is ≡ all_changes_size is
unfolding total_of
changes_total [] = refl
changes_total (i ∷ is) = ap (λ n. changes_of_item i + n) (changes_total is)

pub counted_front : (n : ℕ) (ks : List Kept) → AreCounted ks → AreCounted (take n ks)
counted_front n ks are = record { log = summed_front log_sum item_size 0 n ks are.log; changes = summed_front changes_sum changes_of_item 0 n ks are.changes }

pub counted_more : (ks : List Kept) (k : Kept) (log own-log changes own-changes : ℕ) → AreCounted ks
    → log ≡ bounded (all_sizes (items_of ks)) → own-log ≡ bounded (item_size k.item) → k.until.log ≡ min (log + own-log) (2 ^ 64 - 1)
    → changes ≡ bounded (all_changes_size (items_of ks)) → own-changes ≡ bounded (changes_of_item k.item) → k.until.changes ≡ min (changes + own-changes) (2 ^ 64 - 1)
    → AreCounted (ks ++ k ∷ [])
counted_more ks k log own-log changes own-changes are at own sum at' own' sum' = record {
  log =
      summed_more log_sum item_size 0 ks k are.log
      (sum_behind log_sum item_size ks k.item log own-log k.until.log (at ∙ ap bounded (sym (log_total (items_of ks)))) own sum);
  changes =
      summed_more changes_sum changes_of_item 0 ks k are.changes
      (sum_behind changes_sum changes_of_item ks k.item changes own-changes k.until.changes (at' ∙ ap bounded (sym (changes_total (items_of ks)))) own' sum');
}

pub log_at_last : (ks xs : List Kept) (k : Kept) → xs ≡ ks → AreCounted ks → 1 ≤ length xs → k ≡ get_or xs (length xs - 1) k → k.until.log ≡ bounded (all_sizes (items_of ks))
log_at_last ks xs k same are some is = last_is log_sum item_size ks xs k same are.log some is ∙ ap bounded (log_total (items_of ks))

pub changes_at_last : (ks xs : List Kept) (k : Kept) → xs ≡ ks → AreCounted ks → 1 ≤ length xs → k ≡ get_or xs (length xs - 1) k → k.until.changes ≡ bounded (all_changes_size (items_of ks))
changes_at_last ks xs k same are some is = last_is changes_sum changes_of_item ks xs k same are.changes some is ∙ ap bounded (changes_total (items_of ks))
