-- The numbers of a unique key as slots by the values that their rows have there, and what putting one and taking one out makes of them.
use Rattle.std.specs.Prelude.{◌≡◌, ℕ, ◌^◌, ◌<◌, List, length, Option, None}
use Rattle.val_types.specs.declared.value.Value.{Value}
use Rattle.val_types.specs.declared.definitions.KeyDef.{KeyDef}
use Rattle.val_types.specs.Keys.{values_at}
use Rattle.block_list.specs.Layouts.{Layout, flat, holds}
use Rattle.row_sheets.specs.Slots.{Slot, held}
use Rattle.row_sheets.specs.Orders.{slots_of, NumbersRise}
use Rattle.row_indexes.specs.Indexes.{slot_by_values}
use Rattle.row_indexes.specs.Wholes.{index_with, index_without}

-- the slot of a number, by the values of its row
unfoldable pub number_slot : KeyDef → (ℕ → Option (List Value)) → ℕ → Slot
number_slot key row_at number = slot_by_values key (row_at number)

-- the slots of some numbers
abbrev pub number_slots : KeyDef → (ℕ → Option (List Value)) → List ℕ → List Slot
number_slots key row_at numbers = slots_of (number_slot key row_at) numbers

-- one more number can be put among some: their values rise, and the blocks hold more numbers than these
pub record CanPut (key : KeyDef) (row_at : ℕ → Option (List Value)) (l : Layout) : Type 0 where
  pub rise : NumbersRise (number_slot key row_at) (flat l.blocks)
  pub room : length (flat l.blocks) < holds l
  pub few : length (flat l.blocks) < 2 ^ 32

-- the number of a row is put, where no number has its values; the blocks hold as many as before
pub record IsPut (key : KeyDef) (row_at : ℕ → Option (List Value)) (row : List Value) (old new : Layout) : Type 0 where
  pub slots : held (values_at key.columns row) (number_slots key row_at (flat old.blocks)) ≡ None → number_slots key row_at (flat new.blocks) ≡ index_with key row (number_slots key row_at (flat old.blocks))
  pub holds : holds new ≡ holds old

-- the number of a row is taken out; the blocks hold as many as before
pub record IsTaken (key : KeyDef) (row_at : ℕ → Option (List Value)) (row : List Value) (old new : Layout) : Type 0 where
  pub slots : number_slots key row_at (flat new.blocks) ≡ index_without key row (number_slots key row_at (flat old.blocks))
  pub holds : holds new ≡ holds old
