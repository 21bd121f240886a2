-- The sheet of a table: its committed rows, a transaction's entries over them, and the claims of its unique keys.
use Rattle.std.specs.Prelude.{◌≡◌, ℕ, ◌≤◌, Bool, not, List, [], ◌∷◌, map, count_by, Option, is_none, IsTrue}
use Rattle.std.specs.List.{AllByRecursion}
use Rattle.val_types.specs.declared.value.Value.{Value}
use Rattle.val_types.specs.declared.definitions.TableDef.{TableDef}
use Rattle.val_types.specs.declared.definitions.KeyDef.{KeyDef}
use Rattle.val_types.specs.Keys.{primary_key}
use Rattle.table_rules.specs.Stores.{is_among}
use Rattle.row_sheets.specs.Slots.{Slot, keys_in, keys_rise, rows_in, row_slots, rows_are_kept, is_sound}
use Rattle.row_sheets.specs.Over.{over}
use Rattle.row_sheets.specs.Claims.{Claim, AreClaimed}

-- an entry: a row that has its key, the number of the committed row of that key, and the row that is there now, if there is one
pub record Entry : Type 0 where
  pub bearer : List Value
  pub of : Option ℕ
  pub present : Option (List Value)

-- the slots of entries, which stand in the order of their keys
abbrev pub entry_slots : TableDef → List Entry → List Slot
entry_slots definition entries = map (λ entry. record { key = primary_key definition entry.bearer; row = entry.present }) entries

-- whether an entry is of a key that no committed row has, so that settling it may put a number
abbrev pub is_new : Entry → Bool
is_new entry = is_none entry.of

-- an entry has a number just where a committed row has its key
abbrev pub KnowsRow : TableDef → List (List Value) → Entry → Type 0
KnowsRow definition rows entry =
    is_new entry ≡ not (is_among (primary_key definition entry.bearer) (map (primary_key definition) rows))

-- the slots that a table shows
abbrev pub shown_slots : TableDef → List (List Value) → List Entry → List Slot
shown_slots definition rows entries = over (entry_slots definition entries) (row_slots definition rows)

-- the rows that a table shows
abbrev pub shown : TableDef → List (List Value) → List Entry → List (List Value)
shown definition rows entries = rows_in (shown_slots definition rows entries)

-- the claims of each unique key, in the order of definition
abbrev pub AreAllClaimed : List KeyDef → List Slot → List Slot → List (List Claim) → Type 0
AreAllClaimed [] es cs claims = claims ≡ []
AreAllClaimed (unique ∷ uniques) es cs [] = ⊥
AreAllClaimed (unique ∷ uniques) es cs (own ∷ claims) = AreClaimed unique es cs own × AreAllClaimed uniques es cs claims

-- What holds of a sheet: the committed rows are as those of a table have to be, and so are the rows that are shown; entries rise
-- by key, and know whether a committed row has theirs; all claims are kept; and settling can put a number for each new entry.
pub record IsSheet (definition : TableDef) (rows : List (List Value)) (entries : List Entry) (claims : List (List Claim)) (room : ℕ) : Type 0 where
  pub committed : IsTrue (rows_are_kept definition rows)
  pub rising : IsTrue (keys_rise (keys_in (entry_slots definition entries)))
  pub sound : IsTrue (is_sound definition (shown_slots definition rows entries))
  pub known : AllByRecursion (KnowsRow definition rows) entries
  pub claimed : AreAllClaimed definition.uniques (entry_slots definition entries) (row_slots definition rows) claims
  pub enough : count_by is_new entries ≤ room
