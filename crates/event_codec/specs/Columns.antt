-- The types of a table's columns: 3 a number of four bytes, 8 one of eight, 15 a text, whose greatest length stands in two bytes
-- of metadata.
use Rattle.std.specs.Prelude.{ℕ, ◌+◌, ◌*◌, ◌==◌, ◌||◌, if◌then◌else◌, Bool, List, [], ◌∷◌, length, Result, Ok, Err}
use Rattle.std.specs.List.{list_all}
use Rattle.event_codec.specs.declared.columns.ColumnsView.{ColumnsView}
use Rattle.event_codec.specs.declared.fault.Fault.{Fault}
use Rattle.event_codec.specs.Parts.{◌>>=◌, formed, known, part, lenenc}
use Rattle.event_codec.specs.Bitmap.{bitmap_size}

abbrev pub is_known : ℕ → Bool
is_known kind = kind == 3 || kind == 8 || kind == 15

abbrev pub are_known : List ℕ → Bool
are_known kinds = list_all is_known kinds

-- how many columns are texts
abbrev pub texts : List ℕ → ℕ
texts [] = 0
texts (kind ∷ kinds) = (if kind == 15 then 1 else 0) + texts kinds

-- types, metadata, and bits of the columns that may be NULL
pub record Columns : Type 0 where
  pub kinds : List ℕ
  pub metadata : List ℕ
  pub nulls : List ℕ

-- the columns of a map, which end it. How long metadata has to be is known where all types are
unfoldable pub columns_at : List ℕ → Result Columns Fault
columns_at bytes = do
  count ← lenenc bytes
  kinds ← part count.0 count.1
  size ← lenenc kinds.1
  metadata ← part size.0 size.1
  formed (length metadata.1 == bitmap_size (length kinds.0))
      (known (are_known kinds.0)
      (formed (length metadata.0 == 2 * texts kinds.0)
      (Ok (record { kinds = kinds.0; metadata = metadata.0; nulls = metadata.1 }))))

abbrev pub columns_seen : Result ColumnsView Fault → Result Columns Fault
columns_seen (Ok v) = Ok (record { kinds = v.kinds.now; metadata = v.metadata.now; nulls = v.nulls.now })
columns_seen (Err fault) = Err fault
