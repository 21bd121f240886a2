-- How many bytes maps and rows events have.
use Rattle.std.proofs.Common.{◌≡◌, ℕ, zero, suc, ◌+◌, ◌*◌, ◌^◌, ◌<◌, ◌≤◌, min, cond, ltb, get_or, drop, List, [], ◌∷◌, ◌++◌, map, length, refl, sym, ap, ◌∙◌, arith, length-append}
use Rattle.std.specs.Prelude.{flat_map, codes, if◌then◌else◌, Bool, true, false}
use Rattle.std.proofs.lemmas.List.{length-map, drop_more}
use Rattle.byte_fields.specs.Field.{number_bytes}
use Rattle.byte_fields.specs.LengthEncoded.{lenenc_bytes}
use Rattle.byte_fields.proofs.FieldLaws.{field_width}
use Rattle.val_types.specs.declared.definitions.ColumnDef.{ColumnDef}
use Rattle.val_types.specs.declared.definitions.TableDef.{TableDef}
use Rattle.event_codec.specs.Bitmap.{bitmap_size}
use Rattle.event_codec.specs.Event.{table_map, rows, Map, Rows}
use Rattle.event_codec.specs.Writing.{size, names_bytes, columns_bytes, table_map_bytes, present_bytes, rows_bytes}
use Rattle.val_types.specs.declared.value.Value.{Value}
use Rattle.val_types.specs.declared.change.Change.{Change}
use Rattle.val_types.specs.Fitting.{is_null}
use Rattle.val_types.specs.declared.definitions.ColType.{ColType}
use Rattle.log_model.specs.Images.{bits_bytes, value_bytes, values_bytes}
use Rattle.row_events.specs.Runs.{rows_events}
use Rattle.log_model.specs.Items.{kind_of, is_nullable, type_code, type_metadata, map_of, maps_from, at_time, columns_in, Piece, rows_of, all_rows, pieces_of}
use Rattle.log_model.specs.Written.{total}
use Rattle.log_model.proofs.Bits.{length-bitmap}
use Rattle.row_events.specs.Sizes.{sizes}

names_size : (m : Map) → length (names_bytes m) ≡ 14 + length m.name
unfolding names_bytes number_bytes
names_size m = let e = length-append m.name (0 ∷ []) in omega (arith, e)

columns_size : (m : Map) → length (columns_bytes m) ≡ length (lenenc_bytes (length m.kinds)) + (length m.kinds + (length (lenenc_bytes (length m.metadata)) + (length m.metadata + length m.nulls)))
columns_size m =
    length-append (lenenc_bytes (length m.kinds)) (m.kinds ++ (lenenc_bytes (length m.metadata) ++ (m.metadata ++ m.nulls)))
    ∙ ap (λ (n : ℕ). length (lenenc_bytes (length m.kinds)) + n) (
    length-append m.kinds (lenenc_bytes (length m.metadata) ++ (m.metadata ++ m.nulls)) ∙ ap (λ (n : ℕ). length m.kinds + n) (
    length-append (lenenc_bytes (length m.metadata)) (m.metadata ++ m.nulls)
    ∙ ap (λ (n : ℕ). length (lenenc_bytes (length m.metadata)) + n) (length-append m.metadata m.nulls)))

pub size_of_map : (m : Map) → size (table_map m) ≡ 33 + (length m.name + (length (lenenc_bytes (length m.kinds)) + (length m.kinds + (length (lenenc_bytes (length m.metadata)) + (length m.metadata + length m.nulls)))))
unfolding size table_map_bytes
size_of_map m =
    let all = length-append (names_bytes m) (columns_bytes m) in
    let names = names_size m in
    let columns = columns_size m in
    omega (arith, all, names, columns)

-- by the columns of a table
pub size_of_table : (id : ℕ) (name : List ℕ) (columns : List ColumnDef)
    → size (table_map (map_of id name columns))
    ≡ 33 + (length name + (length (lenenc_bytes (length columns)) + (length columns + (length (lenenc_bytes (length (flat_map type_metadata (map kind_of columns)))) + (length (flat_map type_metadata (map kind_of columns)) + bitmap_size (length columns))))))
size_of_table id name columns =
    let kinds : length (map type_code (map kind_of columns)) ≡ length columns = length-map (map kind_of columns) type_code ∙ length-map columns kind_of in
    let nulls : length (bits_bytes (map is_nullable columns)) ≡ bitmap_size (length columns) =
    length-bitmap (bitmap_size (length (map is_nullable columns))) (map is_nullable columns) ∙ ap bitmap_size (length-map columns is_nullable) in
    size_of_map (map_of id name columns)
    ∙ ap (λ (n : ℕ). 33 + (length name + (length (lenenc_bytes n) + (n + (length (lenenc_bytes (length (flat_map type_metadata (map kind_of columns)))) + (length (flat_map type_metadata (map kind_of columns)) + length (bits_bytes (map is_nullable columns)))))))) kinds
    ∙ ap (λ (n : ℕ). 33 + (length name + (length (lenenc_bytes (length columns)) + (length columns + (length (lenenc_bytes (length (flat_map type_metadata (map kind_of columns)))) + (length (flat_map type_metadata (map kind_of columns)) + n)))))) nulls

pub size_of_rows : (r : Rows) → size (rows r) ≡ 29 + (length (lenenc_bytes r.columns) + (length (present_bytes r.kind r.columns) + length r.rows))
unfolding size rows_bytes
size_of_rows r =
    let flags : ℕ = if r.ends then 1 else 0 in
    let present : List ℕ = present_bytes r.kind r.columns ++ r.rows in
    let six = field_width 6 r.id in
    let two = field_width 2 flags in
    let also = field_width 2 2 in
    let a = length-append (number_bytes 6 r.id) (number_bytes 2 flags ++ (number_bytes 2 2 ++ (lenenc_bytes r.columns ++ present))) in
    let b = length-append (number_bytes 2 flags) (number_bytes 2 2 ++ (lenenc_bytes r.columns ++ present)) in
    let d = length-append (number_bytes 2 2) (lenenc_bytes r.columns ++ present) in
    let e = length-append (lenenc_bytes r.columns) present in
    let f = length-append (present_bytes r.kind r.columns) r.rows in
    omega (arith, six, two, also, a, b, d, e, f)

-- a length-encoded integer has few bytes
pub encoded_few : (n : ℕ) → length (lenenc_bytes n) ≤ 9
unfolding lenenc_bytes number_bytes
encoded_few n = by (ltb n 251) (ltb n (2 ^ 16)) (ltb n (2 ^ 24))
  where
    by : (a b d : Bool) → length (cond a (n ∷ []) (cond b (252 ∷ number_bytes 2 n) (cond d (253 ∷ number_bytes 3 n) (254 ∷ number_bytes 8 n)))) ≤ 9
    by true b d = omega arith
    by false true d = omega arith
    by false false true = omega arith
    by false false false = omega arith

-- ---- images

pub values_step : (columns : List ColumnDef) (row : List Value) (i : ℕ) (d : ColumnDef) (v : Value) → i < length columns → i < length row → get_or columns i d ≡ d → get_or row i v ≡ v
    → length (values_bytes (map kind_of (drop i columns)) (drop i row)) ≡ length (value_bytes d.kind v) + length (values_bytes (map kind_of (drop (i + 1) columns)) (drop (i + 1) row))
values_step columns row i d v low also is-d is-v =
    let left : drop i columns ≡ d ∷ drop (i + 1) columns = drop_more columns i d low ∙ ap (λ (x : ColumnDef). x ∷ drop (i + 1) columns) is-d in
    let values : drop i row ≡ v ∷ drop (i + 1) row = drop_more row i v also ∙ ap (λ (x : Value). x ∷ drop (i + 1) row) is-v in
    ap (λ (cs : List ColumnDef). length (values_bytes (map kind_of cs) (drop i row))) left
    ∙ ap (λ (vs : List Value). length (values_bytes (map kind_of (d ∷ drop (i + 1) columns)) vs)) values
    ∙ length-append (value_bytes d.kind v) (values_bytes (map kind_of (drop (i + 1) columns)) (drop (i + 1) row))

pub values_end : (columns : List ColumnDef) (row : List Value) (i : ℕ) → min (length columns) (length row) ≤ i → length (values_bytes (map kind_of (drop i columns)) (drop i row)) ≡ 0
values_end [] row zero low = refl
values_end [] row (suc i) low = refl
values_end (d ∷ columns) [] zero low = refl
values_end (d ∷ columns) [] (suc i) low = none (map kind_of (drop i columns))
  where
    none : (kinds : List ColType) → length (values_bytes kinds []) ≡ 0
    none [] = refl
    none (k ∷ ks) = refl
values_end (d ∷ columns) (v ∷ row) zero low = absurd (omega arith)
values_end (d ∷ columns) (v ∷ row) (suc i) low = values_end columns row i (omega arith)

-- ---- maps and rows, whatever their ids

any_id : (id other : ℕ) (name : List ℕ) (columns : List ColumnDef) → size (table_map (map_of id name columns)) ≡ size (table_map (map_of other name columns))
any_id id other name columns = size_of_table id name columns ∙ sym (size_of_table other name columns)

pub maps_any : (id other : ℕ) (defs : List TableDef) (names : List (List ℕ)) → sizes (map table_map (maps_from id defs names)) ≡ sizes (map table_map (maps_from other defs names))
maps_any id other defs [] = refl
maps_any id other defs (n ∷ ns) =
    let first = any_id id other n (columns_in defs n) in
    let more = maps_any (id + 1) (other + 1) defs ns in
    omega (arith, first, more)

rows_any : (defs : List TableDef) (names others : List (List ℕ)) (ends also : Bool) (p : Piece) → size (rows (rows_of defs names ends p)) ≡ size (rows (rows_of defs others also p))
rows_any defs names others ends also p = size_of_rows (rows_of defs names ends p) ∙ sym (size_of_rows (rows_of defs others also p))

all_any : (defs : List TableDef) (names others : List (List ℕ)) (stamp also : ℕ) (ps : List Piece) → total (at_time stamp (map rows (all_rows defs names ps))) ≡ total (at_time also (map rows (all_rows defs others ps)))
all_any defs names others stamp also [] = refl
all_any defs names others stamp also (p ∷ []) = let first = rows_any defs names others true true p in omega (arith, first)
all_any defs names others stamp also (p ∷ q ∷ qs) =
    let first = rows_any defs names others false false p in
    let more = all_any defs names others stamp also (q ∷ qs) in
    omega (arith, first, more)

pub events_any : (defs : List TableDef) (names others : List (List ℕ)) (stamp also : ℕ) (cs : List Change) → total (rows_events defs names cs stamp) ≡ total (rows_events defs others cs also)
events_any defs names others stamp also cs = all_any defs names others stamp also (pieces_of defs cs)

-- the bits of a row
pub bits_size : (row : List Value) → length (bits_bytes (map is_null row)) ≡ bitmap_size (length row)
bits_size row = length-bitmap (bitmap_size (length (map is_null row))) (map is_null row) ∙ ap bitmap_size (length-map row is_null)
