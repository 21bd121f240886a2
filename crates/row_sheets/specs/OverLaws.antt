-- What entries over rows owe.
use Rattle.std.specs.Prelude.{◌≡◌, List, true, false, Option, Some, None, length}
use Rattle.std.specs.List.{AllByRecursion}
use Rattle.std.specs.Option.{option_or}
use Rattle.val_types.specs.declared.value.Value.{Value}
use Rattle.table_rules.specs.Stores.{is_among}
use Rattle.row_sheets.specs.Slots.{Slot, rows_in, keys_in, keys_rise, held, fill, with_slot, drop_slot}
use Rattle.row_sheets.specs.Over.{over, settled, settled_by, AreJust, AreOfOneEach}

-- an entry that is set again fills its slot
abbrev pub EntriesSet : Type 0
EntriesSet =
    (key : List Value) (p : Option (List Value)) (es cs : List Slot) → keys_rise (keys_in es) ≡ true → is_among key (keys_in es) ≡ true
    → over (fill key p es) cs ≡ fill key p (over es cs)

-- an entry of a key that no row has is a new slot
abbrev pub NewSlots : Type 0
NewSlots =
    (key : List Value) (es cs : List Slot) → is_among key (keys_in es) ≡ false → is_among key (keys_in cs) ≡ false
    → over (with_slot key es) cs ≡ with_slot key (over es cs)

-- an entry of the key of a committed row hides that row
abbrev pub RowsHidden : Type 0
RowsHidden =
    (key : List Value) (es cs : List Slot) → keys_rise (keys_in cs) ≡ true → is_among key (keys_in es) ≡ false → is_among key (keys_in cs) ≡ true
    → over (with_slot key es) cs ≡ fill key None (over es cs)

-- slots over others rise as they do
abbrev pub OverRises : Type 0
OverRises =
    (es cs : List Slot) → keys_rise (keys_in es) ≡ true → keys_rise (keys_in cs) ≡ true → keys_rise (keys_in (over es cs)) ≡ true

-- found by key: what the entry of the key has, else what the committed slot has
abbrev pub FoundByKey : Type 0
FoundByKey =
    (key : List Value) (es cs : List Slot) → keys_rise (keys_in es) ≡ true
    → held key (over es cs) ≡ option_or (held key es) (held key cs)

-- slots that rise and hold the same of each key are the same
abbrev pub SlotsAreTold : Type 0
SlotsAreTold =
    (xs ys : List Slot) → keys_rise (keys_in xs) ≡ true → keys_rise (keys_in ys) ≡ true → ((key : List Value) → held key xs ≡ held key ys) → xs ≡ ys

-- an entry that is settled, whichever, leaves the rows that are shown
abbrev pub SettledEntryStays : Type 0
SettledEntryStays =
    (key : List Value) (p : Option (List Value)) (es cs : List Slot) → keys_rise (keys_in es) ≡ true → keys_rise (keys_in cs) ≡ true → held key es ≡ Some p
    → rows_in (over (drop_slot key es) (settled_by key p cs)) ≡ rows_in (over es cs)

-- and so are all of them, one after the other
abbrev pub SettledStay : Type 0
SettledStay =
    (ts es cs : List Slot) → keys_rise (keys_in es) ≡ true → keys_rise (keys_in cs) ≡ true → AreJust ts es
    → rows_in (settled ts cs) ≡ rows_in (over es cs)

-- slots of different keys, each held by some others, and as many as these, are just those
abbrev pub JustByCount : Type 0
JustByCount =
    (ts es : List Slot) → keys_rise (keys_in es) ≡ true → AreOfOneEach ts → AllByRecursion (λ t. held t.key es ≡ Some t.row) ts → length ts ≡ length es → AreJust ts es
