-- How many comparisons a search makes, of entries and of committed rows.
use Rattle.std.proofs.Common.{◌≡◌, ℕ, ◌+◌, ◌^◌, ◌<◌, ◌≤◌, length, sym, subst, arith}
use Rattle.std.proofs.lemmas.List.{length-map}
use Rattle.val_types.specs.declared.definitions.TableDef.{TableDef}
use Rattle.row_index.specs.block_list.Layouts.{flat, AreWithinDigits}
use Rattle.table_sheet.specs.declared.committed.Committed.{Committed}
use Rattle.table_sheet.specs.declared.overlay.Overlay.{Overlay}
use Rattle.table_sheet.specs.Costs.{AreWithinBoth, AreWithinTwice}
use Rattle.table_sheet.specs.Numbered.{row_slot}
use Rattle.table_sheet.specs.Ranked.{entry_slot}
use Rattle.table_sheet.specs.Pages.{Page}
use Rattle.table_sheet.specs.Parts.{committed_slots, entry_slots, page_of}

both : (n m n' m' first second steps : ℕ) → n' ≡ n → m' ≡ m → AreWithinDigits n first → AreWithinDigits m second → steps ≤ first + second → AreWithinBoth n' m' steps
both n m n' m' first second steps same_n same_m e f sum a b lt_a lt_b =
    let one : first ≤ a + 1 = e a (subst (λ (k : ℕ). k < 2 ^ a) same_n lt_a) in
    let two : second ≤ b + 1 = f b (subst (λ (k : ℕ). k < 2 ^ b) same_m lt_b) in
    omega (arith, one, two, sum)

-- a search that was not made
pub none_made : (n : ℕ) → AreWithinDigits n 0
none_made n = λ digits lt. omega arith

-- a search of two indexes, and one of all entries
twice : (n m i j first second third steps : ℕ) → i ≤ n → j ≤ m → AreWithinDigits i first → AreWithinDigits j second → AreWithinDigits n third → steps ≤ first + second + third → AreWithinTwice n m steps
twice n m i j first second third steps few fewer e f g sum a b lt_a lt_b =
    let one : first ≤ a + 1 = e a (omega (arith, few, lt_a)) in
    let two : second ≤ b + 1 = f b (omega (arith, fewer, lt_b)) in
    let three : third ≤ a + 1 = g a lt_a in
    omega (arith, one, two, three, sum)

pub twice_of_both : (n m steps : ℕ) → AreWithinBoth n m steps → AreWithinTwice n m steps
twice_of_both n m steps both a b lt_a lt_b = omega (arith, both a b lt_a lt_b)

module _ (d : TableDef) (c : Committed) (o : Overlay) (page : Page) (view : page_of d c o ≡ page) where
  -- a key that has an entry
  pub within_first : (first : ℕ) → AreWithinDigits (length (flat o.ranks.blocks)) first → AreWithinBoth (length page.entries) (length page.committed) first
  within_first first e =
      subst (λ (p : Page). AreWithinBoth (length p.entries) (length p.committed) first) view
      (λ a b lt_a lt_b. omega (arith, e a (subst (λ (k : ℕ). k < 2 ^ a) (length-map (flat o.ranks.blocks) (entry_slot d o.entries.items)) lt_a)))

  -- one that has none
  pub within_both : (first second steps : ℕ) → AreWithinDigits (length (flat o.ranks.blocks)) first → AreWithinDigits (length (flat c.order.blocks)) second → steps ≤ first + second
      → AreWithinBoth (length page.entries) (length page.committed) steps
  within_both first second steps e f sum =
      subst (λ (p : Page). AreWithinBoth (length p.entries) (length p.committed) steps) view
      (both (length (flat o.ranks.blocks)) (length (flat c.order.blocks)) (length (entry_slots d o)) (length (committed_slots d c)) first second steps (length-map (flat o.ranks.blocks) (entry_slot d o.entries.items))
      (length-map (flat c.order.blocks) (row_slot d c.rows.rows)) e f sum)

  -- one by a unique key
  pub within_twice : (i j first second third steps : ℕ) → i ≤ length (entry_slots d o) → j ≤ length (committed_slots d c) → AreWithinDigits i first → AreWithinDigits j second
      → AreWithinDigits (length (flat o.ranks.blocks)) third → steps ≤ first + second + third → AreWithinTwice (length page.entries) (length page.committed) steps
  within_twice i j first second third steps few fewer e f g sum =
      subst (λ (p : Page). AreWithinTwice (length p.entries) (length p.committed) steps) view
      (twice (length (entry_slots d o)) (length (committed_slots d c)) i j first second third steps few fewer e f
      (subst (λ (n : ℕ). AreWithinDigits n third) (sym (length-map (flat o.ranks.blocks) (entry_slot d o.entries.items))) g) sum)
