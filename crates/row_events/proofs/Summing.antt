-- How many bytes the events of changes have, added up.
use Rattle.std.proofs.Common.{◌≡◌, ℕ, ◌+◌, ◌-◌, ◌/◌, ◌^◌, ◌<◌, ◌≤◌, min, cond, Bool, true, false, List, [], ◌∷◌, ◌++◌, map, length, take, drop, get_or, refl, sym, ap, ◌∙◌, arith, length-append}
use Rattle.std.specs.Prelude.{not, flat_map}
use Rattle.std.proofs.lemmas.List.{drop_all}
use Rattle.byte_fields.specs.LengthEncoded.{lenenc_bytes}
use Rattle.val_types.specs.declared.change.Change.{Change}
use Rattle.val_types.specs.Changes.{table_of}
use Rattle.val_types.specs.declared.definitions.ColumnDef.{ColumnDef}
use Rattle.val_types.specs.declared.definitions.TableDef.{TableDef}
use Rattle.event_codec.specs.Event.{table_map, rows, Body}
use Rattle.event_codec.specs.Writing.{size, present_bytes}
use Rattle.log_model.specs.Items.{map_of, maps_from, columns_in, rows_kind_of, tables_of, distinct, at_time, changes_item, kind_of, type_metadata}
use Rattle.log_model.specs.Spelling.{bodies_of}
use Rattle.log_model.specs.Written.{total}
use Rattle.row_events.specs.Runs.{piece, run_event, rows_events, IsRun}
use Rattle.row_events.specs.Sizes.{bounded, sizes}
use Rattle.row_events.specs.Tables.{has, new_among}
use Rattle.row_events.proofs.Cutting.{run_split, item_split, behind_first}
use Rattle.row_events.proofs.GoingOn.{total_append, total_any}
use Rattle.row_events.proofs.Measuring.{size_of_table, size_of_rows, maps_any, events_any}
use Rattle.row_events.proofs.Naming.{new_more, new_at_first}

pub map_sized : (id : ℕ) (name : List ℕ) (columns : List ColumnDef) (metadata first second bits all : ℕ) → metadata ≡ length (flat_map type_metadata (map kind_of columns))
    → first ≡ length (lenenc_bytes (length columns)) → second ≡ length (lenenc_bytes metadata) → bits ≡ (length columns + 7) / 8
    → all ≡ min (33 + (first + second) + length columns + metadata + bits + length name) (2 ^ 64 - 1)
    → all ≡ bounded (size (table_map (map_of id name columns)))
map_sized id name columns metadata first second bits all is one two of-bits sum =
    let size-of = size_of_table id name columns in
    let same : length (lenenc_bytes metadata) ≡ length (lenenc_bytes (length (flat_map type_metadata (map kind_of columns)))) = ap (λ (n : ℕ). length (lenenc_bytes n)) is in
    omega (arith, size-of, same)

pub run_sized : (defs : List TableDef) (names : List (List ℕ)) (first : Change) (more rest : List Change) (columns : List ColumnDef) (name : List ℕ) (encoded present long all : ℕ)
    → name ≡ table_of first → columns ≡ columns_in defs name → encoded ≡ length (lenenc_bytes (length columns)) → present ≡ length (present_bytes (rows_kind_of first) (length columns))
    → long ≡ bounded (length (piece defs first more).rows) → all ≡ min (29 + encoded + present + long) (2 ^ 64 - 1)
    → all ≡ bounded (size (rows (run_event defs names first more rest)))
run_sized defs names first more rest columns name encoded present long all same is one two three sum =
    let size-of = size_of_rows (run_event defs names first more rest) in
    let count : length columns ≡ length (columns_in defs (table_of first)) = ap length (is ∙ ap (columns_in defs) same) in
    let a : length (lenenc_bytes (length columns)) ≡ length (lenenc_bytes (length (columns_in defs (table_of first)))) = ap (λ (n : ℕ). length (lenenc_bytes n)) count in
    let b : length (present_bytes (rows_kind_of first) (length columns)) ≡ length (present_bytes (rows_kind_of first) (length (columns_in defs (table_of first)))) = ap (λ (n : ℕ). length (present_bytes (rows_kind_of first) n)) count in
    omega (arith, size-of, a, b)

-- ---- maps

-- the maps of the tables that are new from a change on
abbrev pub left_maps : List TableDef → List Change → ℕ → ℕ
left_maps defs cs i = sizes (map table_map (maps_from 1 defs (new_among (map table_of (take i cs)) (map table_of (drop i cs)))))

maps_by : (defs : List TableDef) (cs : List Change) (i : ℕ) (c : Change) (b : Bool) → i < length cs → get_or cs i c ≡ c → has (map table_of (take i cs)) (table_of c) ≡ b
    → left_maps defs cs i ≡ cond b 0 (size (table_map (map_of 1 (table_of c) (columns_in defs (table_of c))))) + left_maps defs cs (i + 1)
maps_by defs cs i c true low is old =
    let same : left_maps defs cs i ≡ left_maps defs cs (i + 1) =
    ap (λ (ns : List (List ℕ)). sizes (map table_map (maps_from 1 defs ns))) (new_more cs i c low is)
    ∙ ap (λ (b : Bool). sizes (map table_map (maps_from 1 defs (cond (not b) (table_of c ∷ new_among (map table_of (take (i + 1) cs)) (map table_of (drop (i + 1) cs))) (new_among (map table_of (take (i + 1) cs)) (map table_of (drop (i + 1) cs))))))) old in
    omega (arith, same)
maps_by defs cs i c false low is new =
    let same : left_maps defs cs i ≡ sizes (map table_map (maps_from 1 defs (table_of c ∷ new_among (map table_of (take (i + 1) cs)) (map table_of (drop (i + 1) cs))))) =
    ap (λ (ns : List (List ℕ)). sizes (map table_map (maps_from 1 defs ns))) (new_more cs i c low is)
    ∙ ap (λ (b : Bool). sizes (map table_map (maps_from 1 defs (cond (not b) (table_of c ∷ new_among (map table_of (take (i + 1) cs)) (map table_of (drop (i + 1) cs))) (new_among (map table_of (take (i + 1) cs)) (map table_of (drop (i + 1) cs))))))) new in
    same ∙ ap (λ (n : ℕ). size (table_map (map_of 1 (table_of c) (columns_in defs (table_of c)))) + n) (maps_any 2 1 defs (new_among (map table_of (take (i + 1) cs)) (map table_of (drop (i + 1) cs))))

pub maps_old : (defs : List TableDef) (cs : List Change) (i : ℕ) (c : Change) (sum whole : ℕ) → i < length cs → get_or cs i c ≡ c → has (map table_of (take i cs)) (table_of c) ≡ true
    → bounded (sum + left_maps defs cs i) ≡ whole → bounded (sum + left_maps defs cs (i + 1)) ≡ whole
maps_old defs cs i c sum whole low is old before =
    let step : left_maps defs cs i ≡ 0 + left_maps defs cs (i + 1) = maps_by defs cs i c true low is old in
    let same : left_maps defs cs (i + 1) ≡ left_maps defs cs i = omega (arith, step) in
    ap (λ (n : ℕ). bounded (sum + n)) same ∙ before

pub maps_new : (defs : List TableDef) (cs : List Change) (i : ℕ) (c : Change) (part sum new whole : ℕ) → i < length cs → get_or cs i c ≡ c → has (map table_of (take i cs)) (table_of c) ≡ false
    → part ≡ bounded (size (table_map (map_of 1 (table_of c) (columns_in defs (table_of c))))) → new ≡ min (sum + part) (2 ^ 64 - 1)
    → bounded (sum + left_maps defs cs i) ≡ whole → bounded (new + left_maps defs cs (i + 1)) ≡ whole
maps_new defs cs i c part sum new whole low is none is-part is-new before =
    let step : left_maps defs cs i ≡ size (table_map (map_of 1 (table_of c) (columns_in defs (table_of c)))) + left_maps defs cs (i + 1) = maps_by defs cs i c false low is none in
    let same : bounded (new + left_maps defs cs (i + 1)) ≡ bounded (sum + left_maps defs cs i) = adds sum part new (size (table_map (map_of 1 (table_of c) (columns_in defs (table_of c))))) (left_maps defs cs (i + 1)) (left_maps defs cs i) is-part is-new step in
    same ∙ before
  where
    adds : (sum part new real later here : ℕ) → part ≡ min real (2 ^ 64 - 1) → new ≡ min (sum + part) (2 ^ 64 - 1) → here ≡ real + later → min (new + later) (2 ^ 64 - 1) ≡ min (sum + here) (2 ^ 64 - 1)
    adds sum part new real later here p n h = omega arith

pub maps_begin : (defs : List TableDef) (cs : List Change) → bounded (0 + left_maps defs cs 0) ≡ bounded (sizes (map table_map (maps_from 1 defs (tables_of cs))))
maps_begin defs cs = ap (λ (ns : List (List ℕ)). bounded (0 + sizes (map table_map (maps_from 1 defs ns)))) (new_at_first (map table_of cs)) ∙ zero_first (sizes (map table_map (maps_from 1 defs (tables_of cs))))
  where
    zero_first : (n : ℕ) → bounded (0 + n) ≡ bounded n
    zero_first n = let e : 0 + n ≡ n = omega arith in ap bounded e

pub maps_done : (defs : List TableDef) (cs : List Change) (i sum whole : ℕ) → length cs ≤ i → sum ≤ 2 ^ 64 - 1 → bounded (sum + left_maps defs cs i) ≡ whole → sum ≡ whole
maps_done defs cs i sum whole past fits before =
    let none : left_maps defs cs i ≡ 0 = ap (λ (xs : List Change). sizes (map table_map (maps_from 1 defs (new_among (map table_of (take i cs)) (map table_of xs))))) (drop_all i cs past) in
    let same : sum ≡ bounded (sum + left_maps defs cs i) = omega (arith, none) in
    same ∙ before

-- ---- rows

pub runs_more : (defs : List TableDef) (left : List Change) (first : Change) (more rest : List Change) (long part sum new whole : ℕ) → 1 ≤ length left → first ≡ get_or left 0 first
    → IsRun defs first (behind_first left) more rest long
    → ((names : List (List ℕ)) → part ≡ bounded (size (rows (run_event defs names first more rest)))) → new ≡ min (sum + part) (2 ^ 64 - 1)
    → bounded (sum + total (rows_events defs [] left 0)) ≡ whole → bounded (new + total (rows_events defs [] rest 0)) ≡ whole
runs_more defs left first more rest long part sum new whole some is run is-part is-new before =
    let split : total (rows_events defs [] left 0) ≡ size (rows (run_event defs [] first more rest)) + 0 + total (rows_events defs [] rest 0) =
    ap total (run_split defs [] left first more rest long 0 some is run) ∙ total_append (at_time 0 (rows (run_event defs [] first more rest) ∷ [])) (rows_events defs [] rest 0) in
    let same : bounded (new + total (rows_events defs [] rest 0)) ≡ bounded (sum + total (rows_events defs [] left 0)) =
    adds sum part new (size (rows (run_event defs [] first more rest))) (total (rows_events defs [] rest 0)) (total (rows_events defs [] left 0)) (is-part []) is-new split in
    same ∙ before
  where
    adds : (sum part new real later here : ℕ) → part ≡ min real (2 ^ 64 - 1) → new ≡ min (sum + part) (2 ^ 64 - 1) → here ≡ real + 0 + later → min (new + later) (2 ^ 64 - 1) ≡ min (sum + here) (2 ^ 64 - 1)
    adds sum part new real later here p n h = omega arith

pub runs_done : (defs : List TableDef) (names : List (List ℕ)) (left all : List Change) (stamp sum : ℕ) → length left < 1 → sum ≤ 2 ^ 64 - 1
    → bounded (sum + total (rows_events defs [] left 0)) ≡ bounded (total (rows_events defs [] all 0)) → sum ≡ bounded (total (rows_events defs names all stamp))
runs_done defs names [] all stamp sum none fits before =
    let same : sum ≡ bounded (sum + 0) = omega arith in
    same ∙ before ∙ ap bounded (events_any defs [] names 0 stamp all)
runs_done defs names (c ∷ cs) all stamp sum none fits before = absurd (omega (arith, none))

pub item_sized : (defs : List TableDef) (cs : List Change) (stamp maps runs all : ℕ) → maps ≡ bounded (sizes (map table_map (maps_from 1 defs (tables_of cs))))
    → ((names : List (List ℕ)) (s : ℕ) → runs ≡ bounded (total (rows_events defs names cs s))) → all ≡ min (maps + runs) (2 ^ 64 - 1)
    → all ≡ bounded (total (at_time stamp (bodies_of (changes_item defs cs))))
item_sized defs cs stamp maps runs all is-maps is-runs sum =
    let split : total (at_time stamp (bodies_of (changes_item defs cs))) ≡ total (at_time stamp (map table_map (maps_from 1 defs (tables_of cs)))) + total (rows_events defs (tables_of cs) cs stamp) =
    ap total (item_split defs (tables_of cs) cs stamp refl) ∙ total_append (at_time stamp (map table_map (maps_from 1 defs (tables_of cs)))) (rows_events defs (tables_of cs) cs stamp) in
    adds maps runs all (sizes (map table_map (maps_from 1 defs (tables_of cs)))) (total (at_time stamp (map table_map (maps_from 1 defs (tables_of cs))))) (total (rows_events defs (tables_of cs) cs stamp))
    (total (at_time stamp (bodies_of (changes_item defs cs)))) is-maps (total_any 0 stamp (map table_map (maps_from 1 defs (tables_of cs)))) (is-runs (tables_of cs) stamp) sum split
  where
    adds : (maps runs all m n r whole : ℕ) → maps ≡ min m (2 ^ 64 - 1) → m ≡ n → runs ≡ min r (2 ^ 64 - 1) → all ≡ min (maps + runs) (2 ^ 64 - 1) → whole ≡ n + r → all ≡ min whole (2 ^ 64 - 1)
    adds maps runs all m n r whole a b d e f = omega arith
