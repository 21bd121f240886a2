-- A unique key beside a transaction: the values that it put where they were not, and who has each.
use Rattle.std.specs.Prelude.{◌≡◌, Bool, true, false, not, ◌&&◌, ◌||◌, ◌⊎◌, cond, List, [], ◌∷◌, Option, Some, None}
use Rattle.std.specs.List.{list_any}
use Rattle.std.specs.Option.{option_and_then, option_map_or}
use Rattle.val_types.specs.declared.value.Value.{Value}
use Rattle.val_types.specs.declared.definitions.TableDef.{TableDef}
use Rattle.val_types.specs.declared.definitions.KeyDef.{KeyDef}
use Rattle.val_types.specs.Fitting.{is_null}
use Rattle.val_types.specs.Keys.{values_at, primary_key, same_values}
use Rattle.table_rules.specs.Stored.{row_of_values}
use Rattle.row_sheets.specs.Slots.{Slot, held, rows_in}

-- a value of a unique key, and the primary key of the entry whose row has it, None where no entry's row does any more
pub record Claim : Type 0 where
  pub values : List Value
  pub holder : Option (List Value)

-- who has a value
abbrev pub holder_of : List Value → List Claim → Option (List Value)
holder_of values [] = None
holder_of values (c ∷ cs) = cond (same_values values c.values) c.holder (holder_of values cs)

-- whether a value was claimed, by whomever
abbrev pub is_claimed : List Value → List Claim → Bool
is_claimed values claims = list_any (λ claim. same_values values claim.values) claims

-- the claims, that of a value with another holder; a new one where there is none
abbrev pub held_now : List Value → Option (List Value) → List Claim → List Claim
held_now values holder [] = record { values = values; holder = holder } ∷ []
held_now values holder (c ∷ cs) =
    cond (same_values values c.values) (record { values = c.values; holder = holder } ∷ cs) (c ∷ held_now values holder cs)

-- whether a row has some values in the columns of a unique key, none of them NULL
abbrev pub has_values : KeyDef → List Value → List Value → Bool
has_values unique values row = not (list_any is_null values) && same_values values (values_at unique.columns row)

-- the row of a key
abbrev pub row_under : List Value → List Slot → Option (List Value)
row_under key slots = option_and_then (λ row. row) (held key slots)

-- whether the row of a key has some values
abbrev pub has_under : KeyDef → List Value → List Value → List Slot → Bool
has_under unique values key slots = option_map_or (has_values unique values) (row_under key slots) false

-- Who has a claimed value has it in its row; and each value of an entry's row is claimed by the entry, or is that of the
-- committed row of its key.
pub record AreClaimed (unique : KeyDef) (es cs : List Slot) (claims : List Claim) : Type 0 where
  pub holders : (values key : List Value) → holder_of values claims ≡ Some key → has_under unique values key es ≡ true
  pub rows : (values key : List Value) → has_under unique values key es ≡ true → (holder_of values claims ≡ Some key) ⊎ (has_under unique values key cs ≡ true)

-- rows that agree on a unique key have one primary key
abbrev pub AreApart : KeyDef → List Slot → Type 0
AreApart unique slots =
    (values first second : List Value) → has_under unique values first slots ≡ true → has_under unique values second slots ≡ true → first ≡ second

-- the claims once a row is taken out of the entry of a key: where that entry has its value, none has
abbrev pub released : KeyDef → List Value → List Value → List Claim → List Claim
released unique key row claims =
    cond (option_map_or (same_values key) (holder_of (values_at unique.columns row) claims) false)
    (held_now (values_at unique.columns row) None claims) claims

-- the claims once a row is put into the entry of a key: the entry has its value, but for one with a NULL and that of the
-- committed row of the key
abbrev pub claimed_by : KeyDef → List Value → List Value → List Slot → List Claim → List Claim
claimed_by unique key row cs claims =
    cond (list_any is_null (values_at unique.columns row) || has_under unique (values_at unique.columns row) key cs) claims
    (held_now (values_at unique.columns row) (Some key) claims)

-- whether the value of a row can be put without memory: it has a NULL, it was claimed, or it is that of the committed row
abbrev pub keeps_value : KeyDef → List Value → List Value → List Slot → List Claim → Bool
keeps_value unique key row cs claims =
    list_any is_null (values_at unique.columns row) || has_under unique (values_at unique.columns row) key cs || is_claimed (values_at unique.columns row) claims

-- what an entry of the key of a committed row leaves of that row: the row where there is no entry, else the entry's row, if it
-- has the values
abbrev pub left_of : KeyDef → List Value → List Value → Option (Option (List Value)) → Option (List Value)
left_of unique values row None = Some row
left_of unique values row (Some None) = None
left_of unique values row (Some (Some present)) = cond (has_values unique values present) (Some present) None

-- Found by a unique key: the row of who has the value; else what is left of the committed row that has it.
abbrev pub by_holder : TableDef → KeyDef → List Value → List Slot → List Slot → Option (List Value) → Option (List Value)
by_holder definition unique values es cs (Some key) = row_under key es
by_holder definition unique values es cs None =
    option_and_then (λ row. left_of unique values row (held (primary_key definition row) es)) (row_of_values unique values (rows_in cs))

abbrev pub found_by : TableDef → KeyDef → List Value → List Claim → List Slot → List Slot → Option (List Value)
found_by definition unique values claims es cs = by_holder definition unique values es cs (holder_of values claims)
