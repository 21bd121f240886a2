-- Bodies of table maps and rows events: each that is written is read again.
use Rattle.std.proofs.Common.{◌≡◌, ℕ, ◌*◌, ◌%◌, ◌^◌, ◌<◌, ◌≤◌, Bool, true, false, eqb, List, ◌∷◌, ◌++◌, length, Ok, refl, ap, ◌∙◌, append_assoc, arith, length-append}
use Rattle.std.specs.Prelude.{codes, if◌then◌else◌}
use Rattle.std.proofs.lemmas.Bool.{eq-eqb, ne_eqb}
use Rattle.byte_fields.specs.Field.{number_bytes}
use Rattle.byte_fields.specs.LengthEncoded.{lenenc_bytes}
use Rattle.event_codec.specs.declared.event.RowsKind.{RowsKind}
use Rattle.event_codec.specs.declared.event.RowsKind.TheVariants.{Write, Update, Delete}
use Rattle.event_codec.specs.Bitmap.{bitmap_size, present_bits}
use Rattle.event_codec.specs.Columns.{texts, columns_at}
use Rattle.event_codec.specs.Event.{table_map, rows, Map, Rows}
use Rattle.event_codec.specs.Bodies.{table_map_body, rows_body}
use Rattle.event_codec.specs.Writing.{text_bytes, columns_bytes, names_bytes, table_map_bytes, present_bytes, rows_bytes, IsMap}
use Rattle.event_codec.proofs.Stepping.{bits_length}
use Rattle.event_codec.proofs.PartLaws.{number_again, byte_again, part_again, text_again, lenenc_read, present_again}

-- ---- TABLE_MAP

columns_again : (m : Map) → IsMap m → length m.kinds < 2 ^ 64 → length m.metadata < 2 ^ 64
    → columns_at (columns_bytes m) ≡ Ok (record { kinds = m.kinds; metadata = m.metadata; nulls = m.nulls })
unfolding columns_at
columns_again m is few short =
    let bits : eqb (length m.nulls) (bitmap_size (length m.kinds)) ≡ true = eq-eqb _ _ is.nulls in
    let known = is.kinds in
    let metadata : eqb (length m.metadata) (2 * texts m.kinds) ≡ true = eq-eqb _ _ is.metadata in
    rw (
      lenenc_read (length m.kinds) (m.kinds ++ (lenenc_bytes (length m.metadata) ++ (m.metadata ++ m.nulls))) few,
      part_again m.kinds (lenenc_bytes (length m.metadata) ++ (m.metadata ++ m.nulls)) (length m.kinds) refl,
      lenenc_read (length m.metadata) (m.metadata ++ m.nulls) short,
      part_again m.metadata m.nulls (length m.metadata) refl,
      bits,
      known,
      metadata,
    ) refl

-- a map's bytes, a part behind the other
map_parts : (m : Map) → table_map_bytes m ≡ number_bytes 6 m.id ++ (number_bytes 2 0 ++ (text_bytes (codes "db") ++ (0 ∷ (text_bytes m.name ++ (0 ∷ columns_bytes m)))))
unfolding table_map_bytes names_bytes
map_parts m = simp append_assoc

parts_again : (m : Map) → IsMap m → length m.kinds < 2 ^ 64 → length m.metadata < 2 ^ 64
    → table_map_body (number_bytes 6 m.id ++ (number_bytes 2 0 ++ (text_bytes (codes "db") ++ (0 ∷ (text_bytes m.name ++ (0 ∷ columns_bytes m)))))) ≡ Ok (table_map m)
unfolding table_map_body
parts_again m is few short =
    let name : List ℕ = text_bytes m.name ++ (0 ∷ columns_bytes m) in
    let schema : List ℕ = text_bytes (codes "db") ++ (0 ∷ name) in
    rw (
      number_again 6 m.id (number_bytes 2 0 ++ schema) is.id,
      number_again 2 0 schema (omega arith),
      text_again (codes "db") (0 ∷ name),
      byte_again 0 name,
      text_again m.name (0 ∷ columns_bytes m),
      byte_again 0 (columns_bytes m),
      columns_again m is few short,
    ) refl

-- a short body has few columns
few_columns : (m : Map) → length (table_map_bytes m) ≤ 1200000000 → (length m.kinds < 2 ^ 64) × (length m.metadata < 2 ^ 64)
unfolding table_map_bytes
few_columns m small =
    let a = length-append (names_bytes m) (columns_bytes m) in
    let b = length-append (lenenc_bytes (length m.kinds)) (m.kinds ++ (lenenc_bytes (length m.metadata) ++ (m.metadata ++ m.nulls))) in
    let c = length-append m.kinds (lenenc_bytes (length m.metadata) ++ (m.metadata ++ m.nulls)) in
    let d = length-append (lenenc_bytes (length m.metadata)) (m.metadata ++ m.nulls) in
    let e = length-append m.metadata m.nulls in
    (omega (arith, a, b, c), omega (arith, a, b, c, d, e))

pub table_map_again : (m : Map) → IsMap m → length (table_map_bytes m) ≤ 1200000000 → table_map_body (table_map_bytes m) ≡ Ok (table_map m)
table_map_again m is small =
    let few = few_columns m small in ap table_map_body (map_parts m) ∙ parts_again m is few.0 few.1

-- ---- rows

-- the flag that ends a statement
flag_again : (b : Bool) → eqb ((if b then 1 else 0) % 2) 1 ≡ b
flag_again true = refl
flag_again false = refl

small_flag : (b : Bool) → (if b then 1 else 0) < 256 ^ 2
small_flag true = omega arith
small_flag false = omega arith

-- the bitmaps and rows that are written
bitmaps_again : (kind : RowsKind) (id columns : ℕ) (b : Bool) (bytes : List ℕ) → id < 2 ^ 48 → columns < 2 ^ 64 → 1 ≤ length bytes
    → rows_body kind (number_bytes 6 id ++ (number_bytes 2 (if b then 1 else 0) ++ (number_bytes 2 2 ++ (lenenc_bytes columns ++ (present_bytes kind columns ++ bytes)))))
    ≡ Ok (rows (record { kind = kind; id = id; ends = b; columns = columns; rows = bytes }))
unfolding rows_body
bitmaps_again Write id columns b bytes small few some =
    let any : eqb (length bytes) 0 ≡ false = ne_eqb _ _ (λ e. omega arith) in
    let bits : List ℕ = present_bits (bitmap_size columns) columns ++ bytes in
    rw (
      number_again 6 id (number_bytes 2 (if b then 1 else 0) ++ (number_bytes 2 2 ++ (lenenc_bytes columns ++ bits))) small,
      number_again 2 (if b then 1 else 0) (number_bytes 2 2 ++ (lenenc_bytes columns ++ bits)) (small_flag b),
      number_again 2 2 (lenenc_bytes columns ++ bits) (omega arith),
      lenenc_read columns bits few,
      present_again columns bytes,
      any,
      flag_again b,
    ) refl
bitmaps_again Update id columns b bytes small few some =
    let any : eqb (length bytes) 0 ≡ false = ne_eqb _ _ (λ e. omega arith) in
    let one : List ℕ = present_bits (bitmap_size columns) columns in
    let bits : List ℕ = one ++ (one ++ bytes) in
    rw (
      append_assoc one one bytes,
      number_again 6 id (number_bytes 2 (if b then 1 else 0) ++ (number_bytes 2 2 ++ (lenenc_bytes columns ++ bits))) small,
      number_again 2 (if b then 1 else 0) (number_bytes 2 2 ++ (lenenc_bytes columns ++ bits)) (small_flag b),
      number_again 2 2 (lenenc_bytes columns ++ bits) (omega arith),
      lenenc_read columns bits few,
      present_again columns (one ++ bytes),
      present_again columns bytes,
      any,
      flag_again b,
    ) refl
bitmaps_again Delete id columns b bytes small few some =
    let any : eqb (length bytes) 0 ≡ false = ne_eqb _ _ (λ e. omega arith) in
    let bits : List ℕ = present_bits (bitmap_size columns) columns ++ bytes in
    rw (
      number_again 6 id (number_bytes 2 (if b then 1 else 0) ++ (number_bytes 2 2 ++ (lenenc_bytes columns ++ bits))) small,
      number_again 2 (if b then 1 else 0) (number_bytes 2 2 ++ (lenenc_bytes columns ++ bits)) (small_flag b),
      number_again 2 2 (lenenc_bytes columns ++ bits) (omega arith),
      lenenc_read columns bits few,
      present_again columns bytes,
      any,
      flag_again b,
    ) refl

-- the bitmaps have a bit for each column
bitmaps_long : (kind : RowsKind) (columns : ℕ) → bitmap_size columns ≤ length (present_bytes kind columns)
bitmaps_long Write columns = omega (arith, bits_length (bitmap_size columns) columns)
bitmaps_long Update columns =
    let one = present_bits (bitmap_size columns) columns in
    omega (arith, bits_length (bitmap_size columns) columns, length-append one one)
bitmaps_long Delete columns = omega (arith, bits_length (bitmap_size columns) columns)

-- a short body has few columns
few_present : (r : Rows) → length (rows_bytes r) ≤ 1200000000 → r.columns < 2 ^ 64
unfolding rows_bytes
few_present r small =
    let bits = bitmaps_long r.kind r.columns in
    let flag : List ℕ = number_bytes 2 (if r.ends then 1 else 0) in
    let a = length-append (number_bytes 6 r.id) (flag ++ (number_bytes 2 2 ++ (lenenc_bytes r.columns ++ (present_bytes r.kind r.columns ++ r.rows)))) in
    let b = length-append flag (number_bytes 2 2 ++ (lenenc_bytes r.columns ++ (present_bytes r.kind r.columns ++ r.rows))) in
    let c = length-append (number_bytes 2 2) (lenenc_bytes r.columns ++ (present_bytes r.kind r.columns ++ r.rows)) in
    let d = length-append (lenenc_bytes r.columns) (present_bytes r.kind r.columns ++ r.rows) in
    let e = length-append (present_bytes r.kind r.columns) r.rows in
    omega (arith, bits, a, b, c, d, e)

pub rows_again : (r : Rows) → r.id < 2 ^ 48 → 1 ≤ length r.rows → length (rows_bytes r) ≤ 1200000000 → rows_body r.kind (rows_bytes r) ≡ Ok (rows r)
unfolding rows_bytes
rows_again r id some small = bitmaps_again r.kind r.id r.columns r.ends r.rows id (few_present r small) some
