-- What claims owe.
use Rattle.std.specs.Prelude.{◌≡◌, true, false, List, [], Some, None, length}
use Rattle.std.specs.List.{list_all}
use Rattle.val_types.specs.declared.value.Value.{Value}
use Rattle.val_types.specs.declared.definitions.TableDef.{TableDef}
use Rattle.val_types.specs.declared.definitions.KeyDef.{KeyDef}
use Rattle.val_types.specs.Keys.{values_at}
use Rattle.table_rules.specs.Stored.{row_of_values}
use Rattle.row_sheets.specs.Slots.{Slot, held, keys_in, keys_rise, rows_in, fill, with_slot, has_own_key}
use Rattle.row_sheets.specs.Over.{over}
use Rattle.row_sheets.specs.Claims.{Claim, AreClaimed, AreApart, has_under, released, claimed_by, keeps_value, found_by}

-- before the first entry nothing is claimed
abbrev pub NothingClaimed : Type 0
NothingClaimed = (unique : KeyDef) (cs : List Slot) → AreClaimed unique [] cs []

-- an entry without a row claims nothing
abbrev pub EntryClaimsNothing : Type 0
EntryClaimsNothing =
    (unique : KeyDef) (key : List Value) (es cs : List Slot) (claims : List Claim) → held key es ≡ None
    → AreClaimed unique es cs claims → AreClaimed unique (with_slot key es) cs claims

-- a row taken out of its entry
abbrev pub RowTakenOut : Type 0
RowTakenOut =
    (unique : KeyDef) (key row : List Value) (es cs : List Slot) (claims : List Claim) → held key es ≡ Some (Some row)
    → AreClaimed unique es cs claims → AreClaimed unique (fill key None es) cs (released unique key row claims)

-- a row put into an empty entry, where no other entry's row has its value
abbrev pub RowPut : Type 0
RowPut =
    (unique : KeyDef) (key row : List Value) (es cs : List Slot) (claims : List Claim) → held key es ≡ Some None
    → ((other : List Value) → has_under unique (values_at unique.columns row) other es ≡ false)
    → AreClaimed unique es cs claims → AreClaimed unique (fill key (Some row) es) cs (claimed_by unique key row cs claims)

-- what was claimed stays claimed, whoever has it, so that a row can be put back without memory
abbrev pub ValuesAreKept : Type 0
ValuesAreKept =
    (unique : KeyDef) (key row other_key other : List Value) (cs : List Slot) (claims : List Claim) → keeps_value unique key row cs claims ≡ true
    → (keeps_value unique key row cs (released unique other_key other claims) ≡ true)
    × (keeps_value unique key row cs (claimed_by unique other_key other cs claims) ≡ true)

-- a row put where its value is kept makes no new claim
abbrev pub NoClaimIsNew : Type 0
NoClaimIsNew =
    (unique : KeyDef) (key row : List Value) (cs : List Slot) (claims : List Claim) → keeps_value unique key row cs claims ≡ true
    → length (claimed_by unique key row cs claims) ≡ length claims

-- a value leads to the row that is shown with it, if there is one
abbrev pub FoundByValue : Type 0
FoundByValue =
    (definition : TableDef) (unique : KeyDef) (values : List Value) (claims : List Claim) (es cs : List Slot)
    → keys_rise (keys_in es) ≡ true → keys_rise (keys_in cs) ≡ true → list_all (has_own_key definition) cs ≡ true
    → AreApart unique cs → AreApart unique (over es cs) → AreClaimed unique es cs claims
    → found_by definition unique values claims es cs ≡ row_of_values unique values (rows_in (over es cs))
