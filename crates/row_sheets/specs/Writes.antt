-- The claims of all unique keys of a table where a row is taken out of an entry, and where one is put into it.
use Rattle.std.specs.Prelude.{◌≡◌, true, false, List, [], ◌∷◌, Some, None}
use Rattle.std.specs.List.{list_any, AllByRecursion}
use Rattle.val_types.specs.declared.value.Value.{Value}
use Rattle.val_types.specs.declared.definitions.TableDef.{TableDef}
use Rattle.val_types.specs.declared.definitions.KeyDef.{KeyDef}
use Rattle.val_types.specs.Keys.{values_at, collide}
use Rattle.row_sheets.specs.Slots.{Slot, held, keys_in, keys_rise, rows_in, fill, with_slot}
use Rattle.row_sheets.specs.Over.{over}
use Rattle.row_sheets.specs.Claims.{Claim, has_under, released, claimed_by}
use Rattle.row_sheets.specs.Sheets.{AreAllClaimed}

-- the claims of unique keys once a row is taken out of the entry of a key
abbrev pub all_released : List KeyDef → List Value → List Value → List (List Claim) → List (List Claim)
all_released [] key row claims = claims
all_released (unique ∷ uniques) key row [] = []
all_released (unique ∷ uniques) key row (own ∷ claims) = released unique key row own ∷ all_released uniques key row claims

-- and once one is put into it
abbrev pub all_claimed_by : List KeyDef → List Value → List Value → List Slot → List (List Claim) → List (List Claim)
all_claimed_by [] key row cs claims = claims
all_claimed_by (unique ∷ uniques) key row cs [] = []
all_claimed_by (unique ∷ uniques) key row cs (own ∷ claims) = claimed_by unique key row cs own ∷ all_claimed_by uniques key row cs claims

-- no entry's row has the value of a row in a unique key
abbrev pub HasFreeValue : List Value → List Slot → KeyDef → Type 0
HasFreeValue row es unique = (other : List Value) → has_under unique (values_at unique.columns row) other es ≡ false

-- ---- laws

-- a new entry
abbrev pub AllWithEntry : Type 0
AllWithEntry =
    (uniques : List KeyDef) (key : List Value) (es cs : List Slot) (claims : List (List Claim)) → held key es ≡ None
    → AreAllClaimed uniques es cs claims → AreAllClaimed uniques (with_slot key es) cs claims

-- a row taken out of its entry
abbrev pub AllTakenOut : Type 0
AllTakenOut =
    (uniques : List KeyDef) (key row : List Value) (es cs : List Slot) (claims : List (List Claim)) → held key es ≡ Some (Some row)
    → AreAllClaimed uniques es cs claims → AreAllClaimed uniques (fill key None es) cs (all_released uniques key row claims)

-- a row put into an empty entry
abbrev pub AllPut : Type 0
AllPut =
    (uniques : List KeyDef) (key row : List Value) (es cs : List Slot) (claims : List (List Claim)) → held key es ≡ Some None
    → AllByRecursion (HasFreeValue row es) uniques
    → AreAllClaimed uniques es cs claims → AreAllClaimed uniques (fill key (Some row) es) cs (all_claimed_by uniques key row cs claims)

-- the values of a row that collides with none that is shown are free
abbrev pub FreeWhereNoneCollides : Type 0
FreeWhereNoneCollides =
    (definition : TableDef) (row : List Value) (es cs : List Slot) → keys_rise (keys_in es) ≡ true
    → list_any (collide definition row) (rows_in (over es cs)) ≡ false → AllByRecursion (HasFreeValue row es) definition.uniques
