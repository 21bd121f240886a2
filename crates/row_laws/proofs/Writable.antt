-- What changes are written as can be written.
use Rattle.std.proofs.Common.{◌≡◌, ℕ, zero, suc, ◌+◌, ◌-◌, ◌*◌, ◌/◌, ◌^◌, ◌<◌, ◌≤◌, Bool, true, false, cond, leb, List, [], ◌∷◌, ◌++◌, map, filter, length, take, drop, refl, sym, ap, ◌∙◌, subst, arith, inl, inr, length-append}
use Rattle.std.specs.Prelude.{flat_map, not, ◌&&◌, nat_le}
use Rattle.std.proofs.lemmas.Bool.{le-leb, lt-leb}
use Rattle.std.proofs.lemmas.Bool.Decides.{leb_tells}
use Rattle.std.proofs.lemmas.List.{length-map, length-drop, length-take-le, take_all}
use Rattle.std.proofs.lemmas.Slice.Eq.{bytes_eq-Decides}
use native.Mathlib.Numerals.{unary_clauses}
use Rattle.byte_fields.specs.Field.{number_bytes}
use Rattle.byte_fields.proofs.FieldLaws.{field_width}
use Rattle.val_types.specs.declared.change.Change.{Change}
use Rattle.val_types.specs.declared.change.Change.TheVariants.{Insert, Update as Replace, Delete as Remove}
use Rattle.val_types.specs.declared.value.Value.{Value}
use Rattle.val_types.specs.Changes.{table_of}
use Rattle.val_types.specs.Fitting.{is_null}
use Rattle.val_types.specs.declared.definitions.ColType.{ColType}
use Rattle.val_types.specs.declared.definitions.ColType.TheVariants.{Int as IntType, BigInt, Varchar}
use Rattle.val_types.specs.declared.definitions.ColumnDef.{ColumnDef}
use Rattle.val_types.specs.declared.definitions.TableDef.{TableDef}
use Rattle.event_codec.specs.Bitmap.{bitmap_size, mask, clear_behind}
use Rattle.event_codec.specs.Columns.{are_known, texts}
use Rattle.event_codec.specs.Event.{Body, table_map, rows}
use Rattle.event_codec.specs.Writing.{size, body_bytes, IsMap, CanWrite}
use Rattle.row_events.specs.log_model.Images.{bit, byte_of, bitmap, bits_bytes, row_bytes, values_bytes, change_bytes, IsRow}
use Rattle.row_events.specs.log_model.Items.{same_name, distinct, tables_of, id_from, kind_of, is_nullable, type_code, type_metadata, map_of, maps_from, columns_in, types_in, Piece, bytes_in, piece_of, joins, with_change, pieces_from, pieces_of, rows_of, all_rows, at_time, changes_item, CanCarry, CanCarryAll}
use Rattle.row_events.specs.log_model.Spelling.{bodies_of}
use Rattle.row_events.specs.log_model.Written.{Stamped, total, CanWriteAll}
use Rattle.row_events.proofs.of_log_model.Bits.{length-bitmap}
use Rattle.row_events.proofs.of_row_image.Packing.{as_many_values}
use Rattle.row_events.specs.Runs.{rows_events}
use Rattle.row_events.proofs.GoingOn.{total_append}
use Rattle.row_events.proofs.Cutting.{item_split}
use Rattle.row_laws.specs.Laws.{AreNamed}

-- ---- maps

known : (kinds : List ColType) → are_known (map type_code kinds) ≡ true
known [] = refl
known (IntType ∷ ks) = known ks
known (BigInt ∷ ks) = known ks
known (Varchar most ∷ ks) = known ks

metadata_length : (kinds : List ColType) → length (flat_map type_metadata kinds) ≡ 2 * texts (map type_code kinds)
metadata_length [] = refl
metadata_length (IntType ∷ ks) = let more = metadata_length ks in omega (arith, more)
metadata_length (BigInt ∷ ks) = let more = metadata_length ks in omega (arith, more)
metadata_length (Varchar most ∷ ks) =
    let two = field_width 2 most in
    let more = metadata_length ks in
    let all = length-append (number_bytes 2 most) (flat_map type_metadata ks) in
    omega (arith, two, more, all)

bit_few : (b : Bool) → bit b ≤ 1
bit_few true = omega arith
bit_few false = omega arith

-- bits are below the power of their count
byte_pow : (bs : List Bool) → byte_of bs + 1 ≤ 2 ^ length bs
byte_pow [] = omega arith
byte_pow (b ∷ bs) =
    let twice : 2 ^ suc (length bs) ≡ 2 * 2 ^ length bs = simp unary_clauses (omega arith) in
    let more = byte_pow bs in
    let few = bit_few b in
    omega (arith, twice, more, few)

byte_small : (bs : List Bool) → nat_le (byte_of (take 8 bs)) (mask (length bs)) ≡ true
byte_small bs = elim (leb_tells 8 (length bs)) [
  | inl e ↦
      (let many : 8 ≤ length bs = e.1 in
      let pow = byte_pow (take 8 bs) in
      let count : length (take 8 bs) ≡ 8 = length-take-le 8 bs many in
      let top : 2 ^ length (take 8 bs) ≡ 256 = ap (λ (n : ℕ). 2 ^ n) count in
      ap (λ (b : Bool). nat_le (byte_of (take 8 bs)) (cond b 255 (2 ^ length bs - 1))) e.0 ∙ le-leb _ _ (omega (arith, pow, top)))
  | inr e ↦
      (let few : length bs < 8 = e.1 in
      let pow = byte_pow bs in
      let same : take 8 bs ≡ bs = take_all 8 bs (omega (arith, few)) in
      ap (λ (b : Bool). nat_le (byte_of (take 8 bs)) (cond b 255 (2 ^ length bs - 1))) e.0
      ∙ ap (λ (xs : List Bool). nat_le (byte_of xs) (2 ^ length bs - 1)) same ∙ le-leb _ _ (omega (arith, pow)))
]

clear : (count : ℕ) (bs : List Bool) → clear_behind (length bs) (bitmap count bs) ≡ true
clear zero bs = refl
clear (suc n) bs =
    let left : length bs - 8 ≡ length (drop 8 bs) = sym (length-drop 8 bs) in
    ap (λ (b : Bool). b && clear_behind (length bs - 8) (bitmap n (drop 8 bs))) (byte_small bs)
    ∙ ap (λ (k : ℕ). clear_behind k (bitmap n (drop 8 bs))) left ∙ clear n (drop 8 bs)

is_map : (id : ℕ) (name : List ℕ) (columns : List ColumnDef) → id < 2 ^ 48 → length name ≤ 64 → IsMap (map_of id name columns)
is_map id name columns low short =
    let count : length (map is_nullable columns) ≡ length (map type_code (map kind_of columns)) =
    length-map columns is_nullable ∙ sym (length-map (map kind_of columns) type_code ∙ length-map columns kind_of) in
    record {
      id = low;
      name = omega arith;
      kinds = known (map kind_of columns);
      metadata = metadata_length (map kind_of columns);
      nulls = length-bitmap (bitmap_size (length (map is_nullable columns))) (map is_nullable columns) ∙ ap bitmap_size count;
      clear = subst (λ (n : ℕ). clear_behind n (bits_bytes (map is_nullable columns)) ≡ true) count (clear (bitmap_size (length (map is_nullable columns))) (map is_nullable columns));
    }

abbrev AreShort : List (List ℕ) → Type 0
AreShort [] = Unit {0}
AreShort (n ∷ ns) = (length n ≤ 64) × AreShort ns

some_size : (b : Body) → 1 ≤ size b
unfolding size
some_size b = omega arith

many_bytes : (defs : List TableDef) (stamp id : ℕ) (names : List (List ℕ)) → length names ≤ total (at_time stamp (map table_map (maps_from id defs names)))
many_bytes defs stamp id [] = omega arith
many_bytes defs stamp id (n ∷ ns) =
    let some = some_size (table_map (map_of id n (columns_in defs n))) in
    let more = many_bytes defs stamp (id + 1) ns in
    omega (arith, some, more)

maps_can : (defs : List TableDef) (stamp id : ℕ) (names : List (List ℕ)) (pos : ℕ) → AreShort names → id + length names ≤ 2 ^ 48 → stamp < 2 ^ 32
    → pos + total (at_time stamp (map table_map (maps_from id defs names))) ≤ 1200000000 → CanWriteAll pos (at_time stamp (map table_map (maps_from id defs names)))
maps_can defs stamp id [] pos short few low end = tt
maps_can defs stamp id (n ∷ ns) pos short few low end = (
  record { form = is_map id n (columns_in defs n) (omega (arith, few)) short.0; end = omega (arith, end) },
  tt,
  low,
  maps_can defs stamp (id + 1) ns (pos + size (table_map (map_of id n (columns_in defs n)))) short.1 (omega (arith, few)) low (omega (arith, end)),
)

-- ---- rows

id_few : (n : ℕ) (names : List (List ℕ)) (name : List ℕ) → id_from n names name ≤ n + length names
id_few n [] name = omega arith
id_few n (m ∷ ms) name = by (same_name m name) (id_few (n + 1) ms name)
  where
    by : (b : Bool) → id_from (n + 1) ms name ≤ n + 1 + length ms → cond b n (id_from (n + 1) ms name) ≤ n + suc (length ms)
    by true more = omega arith
    by false more = omega (arith, more)

some_row : (kinds : List ColType) (row : List Value) → 1 ≤ length kinds → IsRow kinds row → 1 ≤ length (row_bytes kinds row)
unfolding row_bytes
some_row kinds row some is =
    let count = as_many_values kinds row is in
    let values = length-map row is_null in
    let bits = length-bitmap (bitmap_size (length (map is_null row))) (map is_null row) in
    let all = length-append (bits_bytes (map is_null row)) (values_bytes kinds row) in
    omega (arith, count, values, bits, all)

some_bytes : (defs : List TableDef) (c : Change) → CanCarry defs c → 1 ≤ length (bytes_in defs c)
some_bytes defs (Insert name row) can = some_row (types_in defs name) row can.some can.rows.1
some_bytes defs (Replace name before after) can =
    let first = some_row (types_in defs name) before can.some can.rows.1 in
    let all = length-append (row_bytes (types_in defs name) before) (row_bytes (types_in defs name) after) in
    omega (arith, first, all)
some_bytes defs (Remove name row) can = some_row (types_in defs name) row can.some can.rows.1

abbrev HaveSome : List Piece → Type 0
HaveSome [] = Unit {0}
HaveSome (p ∷ ps) = (1 ≤ length p.rows) × HaveSome ps

pieces_some : (defs : List TableDef) (p : Piece) (cs : List Change) → 1 ≤ length p.rows → CanCarryAll defs cs → HaveSome (pieces_from defs p cs)
pieces_some defs p [] some can = (some, tt)
pieces_some defs p (c ∷ cs) some can =
    by (joins defs p c) (pieces_some defs (with_change defs p c) cs (let all = length-append p.rows (bytes_in defs c) in omega (arith, some, all)) can.1)
    (pieces_some defs (piece_of defs c) cs (some_bytes defs c can.0) can.1)
  where
    by : (b : Bool) → HaveSome (pieces_from defs (with_change defs p c) cs) → HaveSome (pieces_from defs (piece_of defs c) cs)
        → HaveSome (cond b (pieces_from defs (with_change defs p c) cs) (p ∷ pieces_from defs (piece_of defs c) cs))
    by true joined new = joined
    by false joined new = (some, new)

all_some : (defs : List TableDef) (cs : List Change) → CanCarryAll defs cs → HaveSome (pieces_of defs cs)
all_some defs [] can = tt
all_some defs (c ∷ cs) can = pieces_some defs (piece_of defs c) cs (some_bytes defs c can.0) can.1

rows_can : (defs : List TableDef) (names : List (List ℕ)) (stamp : ℕ) (ps : List Piece) (pos : ℕ) → HaveSome ps → 1 + length names < 2 ^ 48 → stamp < 2 ^ 32
    → pos + total (at_time stamp (map rows (all_rows defs names ps))) ≤ 1200000000 → CanWriteAll pos (at_time stamp (map rows (all_rows defs names ps)))
rows_can defs names stamp [] pos some few low end = tt
rows_can defs names stamp (p ∷ []) pos some few low end =
    let id = id_few 1 names p.name in
    (record { form = (omega (arith, id, few), some.0); end = omega (arith, end) }, tt, low, tt)
rows_can defs names stamp (p ∷ q ∷ qs) pos some few low end =
    let id = id_few 1 names p.name in (
      record { form = (omega (arith, id, few), some.0); end = omega (arith, end) },
      tt,
      low,
      rows_can defs names stamp (q ∷ qs) (pos + size (rows (rows_of defs names false p))) some.1 few low (omega (arith, end)),
    )

-- ---- names

same_is : (a b : List ℕ) → same_name a b ≡ true → a ≡ b
same_is a b e = (bytes_eq-Decides a b).0 e

named_short : (defs : List TableDef) (name : List ℕ) → AreNamed defs → 1 ≤ length (types_in defs name) → length name ≤ 64
named_short [] name are some = absurd (omega (arith, some))
named_short (d ∷ ds) name are some = by (λ more. named_short ds name are.1 more) (same_name d.name name) refl some
  where
    by : (1 ≤ length (types_in ds name) → length name ≤ 64) → (b : Bool) → same_name d.name name ≡ b → 1 ≤ length (map kind_of (cond b d.columns (columns_in ds name))) → length name ≤ 64
    by again true e some = subst (λ (n : List ℕ). length n ≤ 64) (same_is d.name name e) are.0
    by again false e some = again some

tables_short : (defs : List TableDef) (cs : List Change) → AreNamed defs → CanCarryAll defs cs → AreShort (map table_of cs)
tables_short defs [] are can = tt
tables_short defs (c ∷ cs) are can = (named_short defs (table_of c) are can.0.some, tables_short defs cs are can.1)

filter_short : (f : List ℕ → Bool) (names : List (List ℕ)) → AreShort names → AreShort (filter f names)
filter_short f [] short = tt
filter_short f (n ∷ ns) short = by (f n) (filter_short f ns short.1)
  where
    by : (b : Bool) → AreShort (filter f ns) → AreShort (cond b (n ∷ filter f ns) (filter f ns))
    by true more = (short.0, more)
    by false more = more

distinct_short : (names : List (List ℕ)) → AreShort names → AreShort (distinct names)
distinct_short [] short = tt
distinct_short (n ∷ ns) short = (short.0, filter_short (λ m. not (same_name n m)) (distinct ns) (distinct_short ns short.1))

-- ---- an item

can_join : (pos : ℕ) (xs ys : List Stamped) → CanWriteAll pos xs → CanWriteAll (pos + total xs) ys → CanWriteAll pos (xs ++ ys)
can_join pos [] ys first second = let same : pos + 0 ≡ pos = omega arith in subst (λ (n : ℕ). CanWriteAll n ys) same second
can_join pos (e ∷ xs) ys first second =
    let sum : pos + (size e.body + total xs) ≡ pos + size e.body + total xs = omega arith in
    (first.0, first.1, first.2, can_join (pos + size e.body) xs ys first.3 (subst (λ (n : ℕ). CanWriteAll n ys) sum second))

pub writable : (defs : List TableDef) (cs : List Change) (stamp pos : ℕ) → AreNamed defs → CanCarryAll defs cs → stamp < 2 ^ 32
    → pos + total (at_time stamp (bodies_of (changes_item defs cs))) ≤ 1200000000 → CanWriteAll pos (at_time stamp (bodies_of (changes_item defs cs)))
writable defs cs stamp pos are can low end =
    let names : List (List ℕ) = tables_of cs in
    let ms : List Stamped = at_time stamp (map table_map (maps_from 1 defs names)) in
    let rs : List Stamped = rows_events defs names cs stamp in
    let split : at_time stamp (bodies_of (changes_item defs cs)) ≡ ms ++ rs = item_split defs names cs stamp refl in
    let sum : total (at_time stamp (bodies_of (changes_item defs cs))) ≡ total ms + total rs = ap total split ∙ total_append ms rs in
    let many : length names ≤ total ms = many_bytes defs stamp 1 names in
    subst (λ (es : List Stamped). CanWriteAll pos es) (sym split) (can_join pos ms rs
    (maps_can defs stamp 1 names pos (distinct_short (map table_of cs) (tables_short defs cs are can)) (omega (arith, many, sum, end)) low (omega (arith, sum, end)))
    (rows_can defs names stamp (pieces_of defs cs) (pos + total ms) (all_some defs cs can) (omega (arith, many, sum, end)) low (omega (arith, sum, end))))
