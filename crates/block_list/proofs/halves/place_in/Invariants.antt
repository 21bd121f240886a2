use Rattle.std.proofs.Common.{◌-◌, ◌≡◌, ◌+◌, ◌*◌, ◌^◌, ◌<◌, ◌≤◌, ℕ}
use Rattle.std.specs.declared.cmp.Ordering.{Ordering as Order}
use Rattle.std.specs.declared.cmp.Ordering.TheVariants.{Less, Greater}
use Rattle.block_list.specs.Places.{AreParted}
use Rattle.block_list.proofs.halves.place_in.Given as goal

-- what is before is less, what is behind is greater, and each step left at most half
abbrev pub invariant-loop-low : goal.invariant-loop-low
invariant-loop-low g l = record {
  ordered : l.low ≤ l.high;
  within : l.high ≤ l.count;
  less : (order : ℕ → Order) → ((at : ℕ) (o : Order) → at < l.count → g.F.Fn.post l.compare_at (at, tt) o → o ≡ order at) → AreParted order l.count → (i : ℕ) → i < l.low → order i ≡ Less;
  greater : (order : ℕ → Order) → ((at : ℕ) (o : Order) → at < l.count → g.F.Fn.post l.compare_at (at, tt) o → o ≡ order at) → AreParted order l.count → (i : ℕ) → l.high ≤ i → i < l.count → order i ≡ Greater;
  halved : 2 ^ (l.steps - l.fn.steps) * (l.high - l.low) ≤ l.count;
  spent : 2 ^ (l.steps - l.fn.steps) ≤ 2 * l.count + 1;
  more : l.fn.steps ≤ l.steps;
}

abbrev pub decreases-loop-low : goal.decreases-loop-low
decreases-loop-low g l = l.high - l.low
