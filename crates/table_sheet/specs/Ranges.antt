-- Slots by the first values of their keys.
use Rattle.std.specs.Prelude.{◌≡◌, ℕ, Bool, true, false, not, if◌then◌else◌, List, [], ◌∷◌, Option}
use Rattle.std.specs.List.{list_all}
use Rattle.std.specs.declared.cmp.Ordering.{Ordering}
use Rattle.std.specs.declared.cmp.Ordering.TheVariants.{Less, Greater}
use Rattle.val_types.specs.declared.definitions.TableDef.{TableDef}
use Rattle.value_ranges.specs.Ranges.{Bound, Range, is_from, is_to, is_in}
use Rattle.value_ranges.specs.Keys.{first_of}
use Rattle.row_index.specs.row_sheets.Slots.{Slot, keys_in, keys_rise, has_own_key}

-- whether the key of a slot begins in a range
abbrev pub slot_is_in : Range → Slot → Bool
slot_is_in range slot = is_in range (first_of slot.key)

-- no key of some slots does
abbrev pub AreOutside : Range → List Slot → Type 0
AreOutside range slots = list_all (λ (slot : Slot). not (slot_is_in range slot)) slots ≡ true

-- there is no slot, or the key of the first one begins behind a range
abbrev pub AreBehind : Range → List Slot → Type 0
AreBehind range [] = Unit {0}
AreBehind range (slot ∷ slots) = is_to range.high (first_of slot.key) ≡ false

-- slots that rise, each with a row of its own key or none
pub record AreOrdered (d : TableDef) (slots : List Slot) : Type 0 where
  pub rising : keys_rise (keys_in slots) ≡ true
  pub own : list_all (has_own_key d) slots ≡ true

-- how the key of a number stands to a lower end: before it, or not
abbrev pub by_low : (ℕ → Slot) → Option Bound → ℕ → Ordering
by_low slot_at low number = if is_from low (first_of (slot_at number).key) then Greater else Less
