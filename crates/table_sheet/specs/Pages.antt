-- What a sheet is to those who call it.
use Rattle.std.specs.Prelude.{◌≡◌, ℕ, suc, ◌+◌, ◌^◌, ◌≤◌, Bool, true, List, [], ◌∷◌, length, is_none, if◌then◌else◌}
use Rattle.std.specs.List.{list_all}
use Rattle.val_types.specs.declared.value.Value.{Value}
use Rattle.val_types.specs.declared.definitions.TableDef.{TableDef}
use Rattle.table_rules.specs.Stores.{is_among}
use Rattle.row_index.specs.row_sheets.Slots.{Slot, held, keys_in, keys_rise, rows_in, has_own_key, is_sound}
use Rattle.row_index.specs.row_sheets.Over.{over}

-- a table's definition; its committed rows, and what a transaction has of each key that it changed, both as slots in the order of
-- keys; and for how many new rows settling has room
pub record Page : Type 0 where
  pub definition : TableDef
  pub committed : List Slot
  pub entries : List Slot
  pub room : ℕ

-- the rows that a page shows
abbrev pub rows_on : Page → List (List Value)
rows_on page = rows_in (over page.entries page.committed)

-- whether a page has an entry of a key, so that its row can be put and taken out without memory
abbrev pub has_entry : List Value → Page → Bool
has_entry key page = is_among key (keys_in page.entries)

-- each key that had an entry has one still
abbrev pub KeepsEntries : Page → Page → Type 0
KeepsEntries old new = (key : List Value) → has_entry key old ≡ true → has_entry key new ≡ true

-- what a call leaves, whatever it answers: the definition, the committed rows, the entries' keys, and no less room
pub record Stays (old new : Page) : Type 0 where
  pub definition : new.definition ≡ old.definition
  pub committed : new.committed ≡ old.committed
  pub entries : KeepsEntries old new
  pub room : old.room ≤ new.room

-- how many entries are of keys that no committed row has, so that settling may put as many rows
abbrev pub news : List Slot → List Slot → ℕ
news committed [] = 0
news committed (entry ∷ entries) = if is_none (held entry.key committed) then suc (news committed entries) else news committed entries

-- What holds of a table's slots: committed rows and shown rows are as those of a table have to be, entries rise by key and each has
-- a row of its own key; so many entries are new, and settling has room and numbers for all of these.
pub record Holds (definition : TableDef) (committed entries : List Slot) (space fresh : ℕ) : Type 0 where
  pub whole : is_sound definition committed ≡ true
  pub rising : keys_rise (keys_in entries) ≡ true
  pub own : list_all (has_own_key definition) entries ≡ true
  pub sound : is_sound definition (over entries committed) ≡ true
  pub counted : fresh ≡ news committed entries
  pub enough : fresh ≤ space
  pub few : length committed + fresh ≤ 2 ^ 32

-- what holds of each page
abbrev pub IsPage : Page → Type 0
IsPage page = Holds page.definition page.committed page.entries page.room (news page.committed page.entries)
