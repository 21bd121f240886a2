-- Numbers that stand in the order of the keys of their slots.
use Rattle.std.specs.Prelude.{◌≡◌, ◌≢◌, ℕ, true, List, [], ◌∷◌, map, insert, remove, slice_index, Option, Some, None, Ok, Err}
use Rattle.std.specs.declared.cmp.Ordering.{Ordering}
use Rattle.val_types.specs.declared.value.Value.{Value}
use Rattle.val_types.specs.Order.{key_order}
use Rattle.block_list.specs.Layouts.{flat}
use Rattle.block_list.specs.Places.{AreInOrder}
use Rattle.block_list.specs.Spots.{place, IsFound}
use Rattle.block_list.specs.declared.spot.Spot.{Spot}
use Rattle.row_sheets.specs.Slots.{Slot, keys_in, keys_rise, held, fill, drop_slot}
use Rattle.row_sheets.specs.Over.{over}

-- the slots of numbers
abbrev pub slots_of : (ℕ → Slot) → List ℕ → List Slot
slots_of slot_at numbers = map slot_at numbers

-- whether the keys of numbers rise
abbrev pub NumbersRise : (ℕ → Slot) → List ℕ → Type 0
NumbersRise slot_at numbers = keys_rise (keys_in (slots_of slot_at numbers)) ≡ true

-- how the key of a number stands to a key that is looked for
abbrev pub by_key : (ℕ → Slot) → List Value → ℕ → Ordering
by_key slot_at key number = key_order (slot_at number).key key

-- ---- laws

-- numbers whose keys rise are in order for each key that is looked for
abbrev pub RisingIsInOrder : Type 0
RisingIsInOrder =
    (slot_at : ℕ → Slot) (key : List Value) (numbers : List ℕ) → NumbersRise slot_at numbers → AreInOrder (by_key slot_at key) numbers

-- the number that is found has the slot of the key
abbrev pub FoundHasSlot : Type 0
FoundHasSlot =
    (slot_at : ℕ → Slot) (key : List Value) (blocks : List (List ℕ)) (spot : Spot) → NumbersRise slot_at (flat blocks) → IsFound (by_key slot_at key) blocks (Ok spot)
    → held key (slots_of slot_at (flat blocks)) ≡ Some (slot_at (slice_index (flat blocks) (place blocks spot))).row

-- where none is found there is no slot of the key
abbrev pub MissingHasNone : Type 0
MissingHasNone =
    (slot_at : ℕ → Slot) (key : List Value) (blocks : List (List ℕ)) (spot : Spot) → IsFound (by_key slot_at key) blocks (Err spot)
    → held key (slots_of slot_at (flat blocks)) ≡ None

-- a number put where its key belongs is its slot over the others
abbrev pub PutIsOver : Type 0
PutIsOver =
    (slot_at : ℕ → Slot) (key : List Value) (blocks : List (List ℕ)) (spot : Spot) (number : ℕ) → (slot_at number).key ≡ key → IsFound (by_key slot_at key) blocks (Err spot)
    → slots_of slot_at (insert (flat blocks) (place blocks spot) number) ≡ over (slot_at number ∷ []) (slots_of slot_at (flat blocks))

-- a number taken out where its key was found leaves the slots without that of the key
abbrev pub TakenIsDropped : Type 0
TakenIsDropped =
    (slot_at : ℕ → Slot) (key : List Value) (blocks : List (List ℕ)) (spot : Spot) → NumbersRise slot_at (flat blocks) → IsFound (by_key slot_at key) blocks (Ok spot)
    → slots_of slot_at (remove (flat blocks) (place blocks spot)) ≡ drop_slot key (slots_of slot_at (flat blocks))

-- another row under a number that is found fills the slot of the key
abbrev pub ReplacedIsFilled : Type 0
ReplacedIsFilled =
    (slot_at slot_now : ℕ → Slot) (key : List Value) (row : Option (List Value)) (blocks : List (List ℕ)) (spot : Spot) → NumbersRise slot_at (flat blocks) → IsFound (by_key slot_at key) blocks (Ok spot)
    → slot_now (slice_index (flat blocks) (place blocks spot)) ≡ record { key = (slot_at (slice_index (flat blocks) (place blocks spot))).key; row = row }
    → ((number : ℕ) → number ≢ slice_index (flat blocks) (place blocks spot) → slot_now number ≡ slot_at number)
    → slots_of slot_now (flat blocks) ≡ fill key row (slots_of slot_at (flat blocks))
