-- Groups that are looked at while their bytes are read.
use Rattle.std.proofs.Common.{◌≡◌, ◌≤◌, inl, inr, ℕ, ◌+◌, Bool, true, false, List, [], length, Option, refl, sym, ap, ◌∙◌, subst, arith}
use Rattle.log_groups.specs.log_model.Groups.{Next, group, not_whole, damaged_at, foreign_at, group_at}
use Rattle.log_groups.specs.declared.growing.Progress.{Progress}
use Rattle.log_groups.specs.Growing.{IsLooked, IsSettled}
use Rattle.log_groups.proofs.Looks.{looks_stay}
use Rattle.log_reader.specs.declared.reader.Found.{Found}
use Rattle.log_reader.specs.declared.reader.Found.TheVariants as found
use Rattle.log_groups.proofs.of_log_group_laws.Lying.{group_lies}
use Rattle.log_reader.specs.Reading.{Reader, next_pos, Took, IsEnd, IsDamaged, Reads}
use Rattle.log_reader.specs.Reading as reading
use Rattle.log_reader.specs.Filling.{Grows}
use Rattle.log_reader.specs.Taking.{FindsSettled, Ends, Finds, FindsBehindName, FindsNext, IsKept}

pub looked_more : (old new : List ℕ) (pos : ℕ) (p : Progress) → Grows old new → IsLooked old pos p → IsLooked new pos p
looked_more old new pos p grows looked = subst (λ (bs : List ℕ). IsLooked bs pos p) (sym grows.1) (looks_stay old grows.0 pos p looked)

-- a group that ends at a place or behind it ends at no less
pub settled_low : (low high : ℕ) (n : Next) → low ≤ high → IsSettled high n → IsSettled low n
settled_low low high (group g) less is = omega (arith, less, is)
settled_low low high not_whole less is = absurd is
settled_low low high (damaged_at pos) less is = tt
settled_low low high (foreign_at pos kind) less is = tt

pub settled_finds : (bytes : List ℕ) (begin : ℕ) (closed : Bool) (left : Option (List ℕ)) (f : Found) → FindsSettled bytes begin closed f → Finds bytes begin closed left f
settled_finds bytes begin closed left found.Group is = is
settled_finds bytes begin closed left found.End is = absurd is
settled_finds bytes begin closed left (found.Damaged pos) is = inl is
settled_finds bytes begin closed left (found.Foreign pos kind) is = is

pub ends_finds : (bytes : List ℕ) (begin : ℕ) (closed : Bool) (left : Option (List ℕ)) (f : Found) → Ends bytes begin f → IsEnd left → Finds bytes begin closed left f
ends_finds bytes begin closed left found.Group is end = absurd is
ends_finds bytes begin closed left found.End is end = (is, end)
ends_finds bytes begin closed left (found.Damaged pos) is end = inr (is.0, is.1, is.2, end)
ends_finds bytes begin closed left (found.Foreign pos kind) is end = absurd is

-- ---- a whole call

-- what was found, told by the reader as it was before
tells : (was : Bool) (bytes : List ℕ) (begin : ℕ) (closed : Bool) (left : Option (List ℕ)) (f : Found) → FindsNext was bytes begin closed left f
    → (old new : Reader) → old.closed ≡ was → new.begin ≡ begin → IsKept f closed bytes was new.bytes new.closed → reading.Finds old new bytes left f
tells true bytes begin closed left found.Group is old new same there kept = absurd is
tells true bytes begin closed left found.End is old new same there kept = is
tells true bytes begin closed left (found.Damaged pos) is old new same there kept = subst (λ (c : Bool). IsDamaged c new.begin pos bytes left) (sym same) (is.0 ∙ sym there, is.1)
tells true bytes begin closed left (found.Foreign pos kind) is old new same there kept = absurd is
tells false bytes begin closed left found.Group is old new same there kept = record {
  opened = same;
  bytes = kept.0;
  one = is.one;
  reads = ap (λ (at : ℕ). group_at (record { bytes = bytes; pos = at })) there ∙ is.reads;
  whole = is.whole ∙ ap (λ (at : ℕ). at + length bytes) (sym there);
  closed = kept.1 ∙ is.kind;
}
tells false bytes begin closed left found.End is old new same there kept = is
tells false bytes begin closed left (found.Damaged pos) is old new same there kept =
    subst (λ (c : Bool). IsDamaged c new.begin pos bytes left) (sym same) (subst (λ (at : ℕ). IsDamaged false at pos bytes left) (sym there) is)
tells false bytes begin closed left (found.Foreign pos kind) is old new same there kept =
    (same, ap (λ (at : ℕ). group_at (record { bytes = bytes; pos = at })) there ∙ is)

pub call_reads : (old new : Reader) (before after : Option (List ℕ)) (bytes : List ℕ) (begin : ℕ) (closed : Bool) (f : Found) → Took before after bytes → FindsNext old.closed bytes begin closed after f
    → begin ≡ next_pos old → new.begin ≡ begin → IsKept f closed bytes old.closed new.bytes new.closed → Reads old new before after f
call_reads old new before after bytes begin closed f took finds place there kept = record {
  taken = bytes;
  took = took;
  begin = there ∙ place;
  finds = tells old.closed bytes begin closed after f finds old new refl there kept;
}

-- ---- how far a reader stands

-- a group that is kept ends within a log
kept_low : (bytes : List ℕ) (begin : ℕ) (closed : Bool) (left : Option (List ℕ)) (f : Found) (after : List ℕ) (now : Bool) → Finds bytes begin closed left f
    → IsKept f closed bytes false after now → begin ≤ 1200000000 → begin + length after ≤ 1200000000
kept_low bytes begin closed left found.Group after now is kept low =
    let lies = group_lies bytes begin is.one is.reads in
    let same = ap length kept.0 in
    omega (arith, lies.ends, is.whole, same)
kept_low bytes begin closed left found.End after now is kept low = let none = ap length kept.0 in omega (arith, none, low)
kept_low bytes begin closed left (found.Damaged pos) after now is kept low = let none = ap length kept.0 in omega (arith, none, low)
kept_low bytes begin closed left (found.Foreign pos kind) after now is kept low = let none = ap length kept.0 in omega (arith, none, low)

-- behind the name of the next log nothing is kept, and it stays so
kept_closed : (bytes : List ℕ) (begin : ℕ) (closed : Bool) (left : Option (List ℕ)) (f : Found) (after : List ℕ) (now : Bool) → FindsBehindName bytes begin left f
    → IsKept f closed bytes true after now → (after ≡ []) × (now ≡ true)
kept_closed bytes begin closed left found.Group after now is kept = absurd is
kept_closed bytes begin closed left found.End after now is kept = kept
kept_closed bytes begin closed left (found.Damaged pos) after now is kept = kept
kept_closed bytes begin closed left (found.Foreign pos kind) after now is kept = kept

-- a reader stands within 32 bits, and within a log where a group may follow
abbrev pub StandsLow : (begin : ℕ) → List ℕ → Bool → Type 0
StandsLow begin bytes closed = (begin + length bytes ≤ 4294967295) × (closed ≡ false → begin + length bytes ≤ 1200000000)

pub stays_low : (was : Bool) (bytes : List ℕ) (begin : ℕ) (closed : Bool) (left : Option (List ℕ)) (f : Found) (after : List ℕ) (now : Bool) → FindsNext was bytes begin closed left f
    → IsKept f closed bytes was after now → begin ≤ 4294967295 → (was ≡ false → begin ≤ 1200000000) → StandsLow begin after now
stays_low true bytes begin closed left f after now is kept low unclosed =
    let none = kept_closed bytes begin closed left f after now is kept in
    let size = ap length none.0 in
    (omega (arith, size, low), λ no. cc)
stays_low false bytes begin closed left f after now is kept low unclosed =
    let most = kept_low bytes begin closed left f after now is kept (unclosed refl) in
    (omega (arith, most), λ no. most)
