-- Slots: primary keys, each with the row that has it or none. What a table shows is the rows in its slots.
use Rattle.std.specs.Prelude.{Bool, true, not, ◌&&◌, cond, List, [], ◌∷◌, ◌++◌, map, Option, Some, None, option_to_list}
use Rattle.std.specs.List.{list_all}
use Rattle.std.specs.Option.{option_map_or}
use Rattle.std.specs.Ordering.{is_lt}
use Rattle.val_types.specs.declared.value.Value.{Value}
use Rattle.val_types.specs.declared.definitions.TableDef.{TableDef}
use Rattle.val_types.specs.Order.{key_order}
use Rattle.val_types.specs.Fitting.{row_fits}
use Rattle.val_types.specs.Keys.{primary_key, same_values}
use Rattle.table_rules.specs.Tables.{rise, are_apart}

-- a primary key with its row, None where there is none of that key
pub record Slot : Type 0 where
  pub key : List Value
  pub row : Option (List Value)

-- the rows in some slots
abbrev pub rows_in : List Slot → List (List Value)
rows_in [] = []
rows_in (slot ∷ slots) = option_to_list slot.row ++ rows_in slots

-- the keys of some slots
abbrev pub keys_in : List Slot → List (List Value)
keys_in slots = map (λ slot. slot.key) slots

-- whether a slot is that of a key
abbrev pub is_slot_of : List Value → Slot → Bool
is_slot_of key slot = same_values key slot.key

-- whether a slot does not stand before a key
abbrev pub is_not_before : List Value → Slot → Bool
is_not_before key slot = not (is_lt (key_order slot.key key))

-- whether all keys are above a key
abbrev pub all_above : List Value → List (List Value) → Bool
all_above key keys = list_all (λ later. is_lt (key_order key later)) keys

-- whether keys rise strictly
abbrev pub keys_rise : List (List Value) → Bool
keys_rise [] = true
keys_rise (key ∷ keys) = all_above key keys && keys_rise keys

-- what the slot of a key has: a row or none; None where there is no slot
abbrev pub held : List Value → List Slot → Option (Option (List Value))
held key [] = None
held key (s ∷ ss) = cond (is_slot_of key s) (Some s.row) (held key ss)

-- the slots, that of a key with another row or none
abbrev pub fill : List Value → Option (List Value) → List Slot → List Slot
fill key row [] = []
fill key row (s ∷ ss) = cond (is_slot_of key s) (record { key = s.key; row = row } ∷ ss) (s ∷ fill key row ss)

-- the slots with an empty one of a key
abbrev pub with_slot : List Value → List Slot → List Slot
with_slot key [] = record { key = key; row = None } ∷ []
with_slot key (s ∷ ss) = cond (is_not_before key s) (record { key = key; row = None } ∷ s ∷ ss) (s ∷ with_slot key ss)

-- the slots without that of a key
abbrev pub drop_slot : List Value → List Slot → List Slot
drop_slot key [] = []
drop_slot key (s ∷ ss) = cond (is_slot_of key s) ss (s ∷ drop_slot key ss)

-- the slots of rows, each with its own key
abbrev pub row_slots : TableDef → List (List Value) → List Slot
row_slots definition rows = map (λ row. record { key = primary_key definition row; row = Some row }) rows

-- whether the row in a slot has the key of the slot
abbrev pub has_own_key : TableDef → Slot → Bool
has_own_key definition slot = option_map_or (λ row. same_values slot.key (primary_key definition row)) slot.row true

-- whether rows fit, rise and are apart, as those of a table have to
abbrev pub rows_are_kept : TableDef → List (List Value) → Bool
rows_are_kept definition rows = list_all (row_fits definition.columns) rows && rise definition rows && are_apart definition rows

-- what holds of the slots that a table shows
abbrev pub is_sound : TableDef → List Slot → Bool
is_sound definition slots = keys_rise (keys_in slots) && list_all (has_own_key definition) slots && rows_are_kept definition (rows_in slots)
