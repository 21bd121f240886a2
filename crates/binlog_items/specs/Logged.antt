-- Items that a log takes, and the bytes of an entry in it.
use Rattle.std.specs.Prelude.{◌≡◌, ◌<◌, ◌≤◌, ◌^◌, ℕ, Bool, true, false, List, [], ◌∷◌, length}
use Rattle.val_types.specs.declared.value.Value.{Value}
use Rattle.event_codec.specs.Event.{Body}
use Rattle.event_codec.specs.Laws.{Fits, FitsValue}
use Rattle.event_codec.specs.Writing.{HasForm}
use Rattle.log_entry_laws.specs.log_entries.declared.entries.Item.{Item}
use Rattle.log_entry_laws.specs.log_entries.declared.entries.Entry.{Entry}
use Rattle.log_entry_laws.specs.log_model.Items.{CanCarryAll, text_of}
use Rattle.log_entry_laws.specs.log_model.Log.{LogPlace, entry_bytes}
use Rattle.log_entry_laws.specs.log_model.Spelling.{bodies_of}
use Rattle.row_laws.specs.Laws.{AreNamed}
use Rattle.log_entry_laws.specs.Entries.{CanLog}
use Rattle.log_entry_laws.specs.Ids.{HasIds}

-- ---- items

-- events that can be written wherever there is room: each has the form of its kind, and its numbers are within their types
abbrev pub HaveForms : List Body → Type 0
HaveForms [] = Unit {0}
HaveForms (b ∷ bs) = HasForm b × Fits b × HaveForms bs

-- the integers among the values of user variables have 64 bits
abbrev pub AreValues : List (List ℕ × Value) → Type 0
AreValues [] = Unit {0}
AreValues (v ∷ vs) = FitsValue v.1 × AreValues vs

-- There are rows, each of a table that the item defines.
pub record HasRows (i : Item) : Type 0 where
  pub some : 1 ≤ length i.changes
  pub named : AreNamed i.defs
  pub can : CanCarryAll i.defs i.changes

-- by its rows, or by its text with ids that a log can say
abbrev pub IsLoggedBy : (rows : Bool) → Item → Type 0
IsLoggedBy true i = HasRows i
IsLoggedBy false i = HaveForms (bodies_of (text_of i.text i.carried)) × HasIds i.carried

-- It can be logged as its flag says, and its numbers have 32 bits.
pub record IsLogged (i : Item) : Type 0 where
  pub form : IsLoggedBy i.rows i
  pub stamp : i.carried.stamp < 2 ^ 32
  pub thread : i.carried.connection < 2 ^ 32

abbrev pub AreLogged : List Item → Type 0
AreLogged [] = Unit {0}
AreLogged (i ∷ is) = IsLogged i × AreLogged is

-- ---- entries

-- a place in the first log
abbrev pub in_log : ℕ → LogPlace
in_log pos = record { log = 1; pos = pos }

-- the bytes of an entry at a place of the first log, where so many transactions stand before it
pub record Encodes (e : Entry Item) (number pos : ℕ) (out : List ℕ) : Type 0 where
  pub bytes : out ≡ entry_bytes e number (in_log pos)
  pub can : CanLog e number (in_log pos)
