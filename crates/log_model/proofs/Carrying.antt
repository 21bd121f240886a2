-- The rows item of some changes: its maps and rows are an item, and the changes are read again.
use Rattle.std.proofs.Common.{◌≡◌, ℕ, ◌+◌, ◌<◌, ◌≤◌, Bool, true, false, cond, eqb, List, [], ◌∷◌, ◌++◌, map, filter, length, Option, Some, None, refl, sym, ap, ◌∙◌, append_assoc, append-nil, arith, subst, length-append}
use Rattle.std.specs.Prelude.{flat_map, nat_le, not, ◌&&◌, ◌==◌}
use Rattle.std.proofs.lemmas.Bool.{ne_eqb, eq-eqb}
use Rattle.std.proofs.lemmas.List.{drop_at, length-map}
use Rattle.std.proofs.lemmas.Grind.{flat_map-append}
use Rattle.std.proofs.lemmas.Slice.Eq.{bytes_eq-Decides}
use Rattle.val_types.specs.declared.change.Change.{Change}
use Rattle.val_types.specs.declared.change.Change.TheVariants.{Insert, Update as Replace, Delete as Remove}
use Rattle.val_types.specs.Changes.{table_of}
use Rattle.val_types.specs.declared.definitions.ColType.{ColType}
use Rattle.val_types.specs.declared.definitions.ColType.TheVariants.{Int as IntType, BigInt, Varchar}
use Rattle.val_types.specs.declared.definitions.TableDef.{TableDef}
use Rattle.byte_fields.specs.Field.{number_bytes}
use Rattle.byte_fields.proofs.FieldLaws.{field_again, field_width}
use Rattle.event_codec.specs.declared.event.RowsKind.{RowsKind}
use Rattle.event_codec.specs.declared.event.RowsKind.TheVariants.{Write, Update, Delete}
use Rattle.event_codec.specs.Event.{Map, Rows}
use Rattle.event_codec.specs.Writing.{rows_kind}
use Rattle.log_entries.specs.declared.entries.Item.{Item}
use Rattle.log_model.specs.Groups.{find}
use Rattle.log_model.specs.Images.{types_of, map_types, change_bytes, changes_at, changes_in, are_rows, IsChange, AreChanges}
use Rattle.log_model.specs.Items.{same_name, distinct, tables_of, id_from, columns_in, types_in, kind_of, type_code, type_metadata, map_of, maps_from, rows_kind_of, Piece, bytes_in, piece_of, joins, with_change, pieces_from, pieces_of, rows_of, all_rows, changes_item, spelled, text_of, AreTypes, CanCarry, CanCarryAll, IsCarried, changes_by, changes_read}
use Rattle.log_model.specs.Spelling.{rows_item, AreNew, FitsOne, EndWell, IsItem}
use Rattle.log_model.proofs.ImageLaws.{changes_again}
use Rattle.log_model.proofs.Parsing.{well_more}

-- ---- the types of a map

types_again : (kinds : List ColType) → AreTypes kinds → types_of (map type_code kinds) (flat_map type_metadata kinds) ≡ kinds
types_again [] are = refl
types_again (IntType ∷ ks) are = ap (λ (xs : List ColType). IntType ∷ xs) (types_again ks are)
types_again (BigInt ∷ ks) are = ap (λ (xs : List ColType). BigInt ∷ xs) (types_again ks are)
types_again (Varchar most ∷ ks) are =
    rw (field_again 2 most (flat_map type_metadata ks) (omega (arith, are.0)), drop_at (number_bytes 2 most) (flat_map type_metadata ks) 2 (field_width 2 most))
    (ap (λ (xs : List ColType). Varchar most ∷ xs) (types_again ks are.1))

-- ---- names and ids

same_is : (a b : List ℕ) → same_name a b ≡ true → a ≡ b
same_is a b e = (bytes_eq-Decides a b).0 e

is_same : (a b : List ℕ) → a ≡ b → same_name a b ≡ true
is_same a b e = (bytes_eq-Decides a b).1 e

-- a name stands among names
abbrev Has : List (List ℕ) → List ℕ → Type 0
Has [] name = ⊥
Has (m ∷ ms) name = cond (same_name m name) (Unit {0}) (Has ms name)

id_low : (n : ℕ) (names : List (List ℕ)) (name : List ℕ) → n ≤ id_from n names name
id_low n [] name = omega arith
id_low n (m ∷ ms) name = by (same_name m name) (id_low (n + 1) ms name)
  where
    by : (b : Bool) → n + 1 ≤ id_from (n + 1) ms name → n ≤ cond b n (id_from (n + 1) ms name)
    by true low = omega arith
    by false low = omega (arith, low)

-- the map of a table is found by its id
found : (defs : List TableDef) (n : ℕ) (names : List (List ℕ)) (name : List ℕ) → Has names name
    → find (id_from n names name) (maps_from n defs names) ≡ Some (map_of (id_from n names name) name (columns_in defs name))
found defs n [] name has = absurd has
found defs n (m ∷ ms) name has = by (λ h. found defs (n + 1) ms name h) (same_name m name) refl has
  where
    by : (Has ms name → find (id_from (n + 1) ms name) (maps_from (n + 1) defs ms) ≡ Some (map_of (id_from (n + 1) ms name) name (columns_in defs name)))
        → (b : Bool) → same_name m name ≡ b → cond b (Unit {0}) (Has ms name)
        → find (cond b n (id_from (n + 1) ms name)) (map_of n m (columns_in defs m) ∷ maps_from (n + 1) defs ms)
        ≡ Some (map_of (cond b n (id_from (n + 1) ms name)) name (columns_in defs name))
    by again true same has =
        let is : eqb n n ≡ true = eq-eqb _ _ refl in
        rw (is, same_is m name same) refl
    by again false same has =
        let low = id_low (n + 1) ms name in
        let other : eqb n (id_from (n + 1) ms name) ≡ false = ne_eqb _ _ (λ e. omega (arith, low)) in
        rw other (again has)

-- ids rise
abbrev Below : ℕ → List Map → Type 0
Below n [] = Unit {0}
Below n (m ∷ ms) = (m.id < n) × Below n ms

none_below : (n : ℕ) (ms : List Map) → Below n ms → find n ms ≡ None
none_below n [] low = refl
none_below n (m ∷ ms) low =
    let other : eqb m.id n ≡ false = ne_eqb _ _ (λ e. omega (arith, low.0)) in
    rw other (none_below n ms low.1)

more_below : (n : ℕ) (ms : List Map) (m : Map) → Below n ms → m.id ≡ n → Below (n + 1) (ms ++ m ∷ [])
more_below n [] m low is = (omega (arith, is), tt)
more_below n (x ∷ xs) m low is = (omega (arith, low.0), more_below n xs m low.1 is)

new_ids : (defs : List TableDef) (n : ℕ) (names : List (List ℕ)) (before : List Map) → Below n before → AreNew before (maps_from n defs names)
new_ids defs n [] before low = tt
new_ids defs n (m ∷ ms) before low =
    (none_below n before low, new_ids defs (n + 1) ms (before ++ map_of n m (columns_in defs m) ∷ []) (more_below n before (map_of n m (columns_in defs m)) low refl))

-- ---- names among distinct ones

kept : (n : List ℕ) (ms : List (List ℕ)) (name : List ℕ) → same_name n name ≡ false → Has ms name → Has (filter (λ m. not (same_name n m)) ms) name
kept n [] name other has = absurd has
kept n (m ∷ ms) name other has = by (λ h. kept n ms name other h) (same_name m name) (same_name n m) refl refl has
  where
    by : (Has ms name → Has (filter (λ x. not (same_name n x)) ms) name) → (a b : Bool) → same_name m name ≡ a → same_name n m ≡ b → cond a (Unit {0}) (Has ms name)
        → Has (cond (not b) (m ∷ filter (λ x. not (same_name n x)) ms) (filter (λ x. not (same_name n x)) ms)) name
    by again true true same hit has = let both = is_same n name (same_is n m hit ∙ same_is m name same) in cc
    by again true false same hit has = rw same tt
    by again false true same hit has = again has
    by again false false same hit has = rw same (again has)

distinct_has : (names : List (List ℕ)) (name : List ℕ) → Has names name → Has (distinct names) name
distinct_has [] name has = absurd has
distinct_has (n ∷ ns) name has = by (λ h. distinct_has ns name h) (same_name n name) refl has
  where
    by : (Has ns name → Has (distinct ns) name) → (b : Bool) → same_name n name ≡ b → cond b (Unit {0}) (Has ns name) → cond b (Unit {0}) (Has (filter (λ m. not (same_name n m)) (distinct ns)) name)
    by again true same has = tt
    by again false same has = kept n (distinct ns) name same (again has)

-- ---- pieces

same_kind : (a b : RowsKind) → (rows_kind a == rows_kind b) ≡ true → a ≡ b
same_kind Write Write e = refl
same_kind Write Update e = cc
same_kind Write Delete e = cc
same_kind Update Write e = cc
same_kind Update Update e = refl
same_kind Update Delete e = cc
same_kind Delete Write e = cc
same_kind Delete Update e = cc
same_kind Delete Delete e = refl

-- a piece has the rows of changes of its kind and table, of which there is one
record Holds (defs : List TableDef) (p : Piece) (cs : List Change) : Type 0 where
  some : 1 ≤ length cs
  columns : 1 ≤ length (types_in defs p.name)
  types : AreTypes (types_in defs p.name)
  changes : AreChanges p.kind p.name (types_in defs p.name) cs
  rows : p.rows ≡ flat_map (change_bytes (types_in defs p.name)) cs

-- pieces have the rows of changes, in their order
abbrev Made : List TableDef → List Piece → List Change → Type 0
Made defs [] cs = cs ≡ []
Made defs (p ∷ ps) cs = (ds : List Change) × (more : List Change) × Holds defs p ds × (cs ≡ ds ++ more) × Made defs ps more

one_holds : (defs : List TableDef) (c : Change) → CanCarry defs c → Holds defs (piece_of defs c) (c ∷ [])
one_holds defs c can = record {
  some = omega arith;
  columns = can.some;
  types = can.types;
  changes = (can.rows, tt);
  rows = sym (append-nil (change_bytes (types_in defs (table_of c)) c));
}

more_changes : (kind : RowsKind) (name : List ℕ) (kinds : List ColType) (cs : List Change) (c : Change) → AreChanges kind name kinds cs → IsChange kind name kinds c
    → AreChanges kind name kinds (cs ++ c ∷ [])
more_changes kind name kinds [] c are is = (is, tt)
more_changes kind name kinds (d ∷ ds) c are is = (are.0, more_changes kind name kinds ds c are.1 is)

-- a change of a piece's kind and table
abbrev IsOf : List TableDef → RowsKind → List ℕ → Change → Type 0
IsOf defs kind name c = IsChange kind name (types_in defs name) c × (bytes_in defs c ≡ change_bytes (types_in defs name) c)

is_of : (defs : List TableDef) (kind : RowsKind) (name : List ℕ) (c : Change) → CanCarry defs c → rows_kind_of c ≡ kind → table_of c ≡ name → IsOf defs kind name c
is_of defs kind name c can same-kind same =
    let own : IsOf defs (rows_kind_of c) (table_of c) c = (can.rows, refl) in
    subst (λ n. IsOf defs kind n c) same (subst (λ k. IsOf defs k (table_of c) c) same-kind own)

and_left : (a b : Bool) → (a && b) ≡ true → a ≡ true
and_left true b e = refl
and_left false b e = cc

and_right : (a b : Bool) → (a && b) ≡ true → b ≡ true
and_right true b e = e
and_right false b e = cc

join_holds : (defs : List TableDef) (p : Piece) (ds : List Change) (c : Change) → Holds defs p ds → CanCarry defs c → joins defs p c ≡ true
    → Holds defs (with_change defs p c) (ds ++ c ∷ [])
join_holds defs p ds c holds can e =
    let fits : Bool = nat_le (length p.rows + length (bytes_in defs c)) 8192 in
    let front = and_left ((rows_kind p.kind == rows_kind (rows_kind_of c)) && same_name p.name (table_of c)) fits e in
    let kind : p.kind ≡ rows_kind_of c = same_kind _ _ (and_left (rows_kind p.kind == rows_kind (rows_kind_of c)) (same_name p.name (table_of c)) front) in
    let name : p.name ≡ table_of c = same_is _ _ (and_right (rows_kind p.kind == rows_kind (rows_kind_of c)) (same_name p.name (table_of c)) front) in
    let of-it = is_of defs p.kind p.name c can (sym kind) (sym name) in
    let kinds : List ColType = types_in defs p.name in
    record {
      some = omega (arith, length-append ds (c ∷ []));
      columns = holds.columns;
      types = holds.types;
      changes = more_changes p.kind p.name kinds ds c holds.changes of-it.0;
      rows = ap (λ (bs : List ℕ). bs ++ bytes_in defs c) holds.rows ∙ ap (λ (bs : List ℕ). flat_map (change_bytes kinds) ds ++ bs) (of-it.1 ∙ sym (append-nil (change_bytes kinds c)))
          ∙ sym (flat_map-append (change_bytes kinds) ds (c ∷ []));
    }

made_from : (defs : List TableDef) (p : Piece) (ds cs : List Change) → Holds defs p ds → CanCarryAll defs cs → Made defs (pieces_from defs p cs) (ds ++ cs)
made_from defs p ds [] holds can = (ds, [], holds, refl, refl)
made_from defs p ds (c ∷ cs) holds can = by (λ q es h. made_from defs q es cs h can.1) (joins defs p c) refl
  where
    by : ((q : Piece) (es : List Change) → Holds defs q es → Made defs (pieces_from defs q cs) (es ++ cs)) → (b : Bool) → joins defs p c ≡ b → Made defs (cond b (pieces_from defs (with_change defs p c) cs) (p ∷ pieces_from defs (piece_of defs c) cs)) (ds ++ c ∷ cs)
    by again true e =
        subst (λ xs. Made defs (pieces_from defs (with_change defs p c) cs) xs) (append_assoc ds (c ∷ []) cs)
        (again (with_change defs p c) (ds ++ c ∷ []) (join_holds defs p ds c holds can.0 e))
    by again false e = (ds, c ∷ cs, holds, refl, again (piece_of defs c) (c ∷ []) (one_holds defs c can.0))

made : (defs : List TableDef) (cs : List Change) → CanCarryAll defs cs → Made defs (pieces_of defs cs) cs
made defs [] can = refl
made defs (c ∷ cs) can = made_from defs (piece_of defs c) (c ∷ []) cs (one_holds defs c can.0) can.1

some_pieces : (defs : List TableDef) (cs : List Change) → 1 ≤ length cs → CanCarryAll defs cs → 1 ≤ length (pieces_of defs cs)
some_pieces defs cs some can = by (pieces_of defs cs) (made defs cs can)
  where
    by : (ps : List Piece) → Made defs ps cs → 1 ≤ length ps
    by [] m = let none : length cs ≡ 0 = rw m refl in absurd (omega arith)
    by (p ∷ ps) m = omega arith

-- ---- the rows of a piece

-- they are read as its changes
piece_read : (defs : List TableDef) (id n : ℕ) (ends : Bool) (p : Piece) (ds : List Change) → Holds defs p ds
    → changes_in (map_of id p.name (columns_in defs p.name)) (record { kind = p.kind; id = n; ends = ends; columns = length (columns_in defs p.name); rows = p.rows }) ≡ (ds, [])
piece_read defs id n ends p ds holds =
    ap (λ (ks : List ColType). changes_at p.kind p.name ks p.rows) (types_again (types_in defs p.name) holds.types)
    ∙ ap (λ (bs : List ℕ). changes_at p.kind p.name (types_in defs p.name) bs) holds.rows
    ∙ changes_again p.kind p.name (types_in defs p.name) ds holds.columns holds.changes

named : (cs : List Change) (c : Change) (more : List Change) → Has (map table_of (cs ++ c ∷ more)) (table_of c)
named [] c more = let same = is_same (table_of c) (table_of c) refl in rw same tt
named (d ∷ ds) c more = by (same_name (table_of d) (table_of c)) (named ds c more)
  where
    by : (b : Bool) → Has (map table_of (ds ++ c ∷ more)) (table_of c) → cond b (Unit {0}) (Has (map table_of (ds ++ c ∷ more)) (table_of c))
    by true has = tt
    by false has = has

-- each name of pieces stands among names
abbrev AllNamed : List (List ℕ) → List Piece → Type 0
AllNamed names [] = Unit {0}
AllNamed names (p ∷ ps) = Has names p.name × AllNamed names ps

its_name : (kind : RowsKind) (name : List ℕ) (kinds : List ColType) (c : Change) → IsChange kind name kinds c → table_of c ≡ name
its_name Write name kinds (Insert n row) is = is.0
its_name Write name kinds (Replace n before after) is = absurd is
its_name Write name kinds (Remove n row) is = absurd is
its_name Update name kinds (Insert n row) is = absurd is
its_name Update name kinds (Replace n before after) is = is.0
its_name Update name kinds (Remove n row) is = absurd is
its_name Delete name kinds (Insert n row) is = absurd is
its_name Delete name kinds (Replace n before after) is = absurd is
its_name Delete name kinds (Remove n row) is = is.0

piece_named : (defs : List TableDef) (p : Piece) (before ds more : List Change) → Holds defs p ds → Has (map table_of (before ++ (ds ++ more))) p.name
piece_named defs p before [] more holds = let some = holds.some in absurd (omega arith)
piece_named defs p before (d ∷ ds) more holds =
    subst (λ n. Has (map table_of (before ++ (d ∷ ds ++ more))) n) (its_name p.kind p.name (types_in defs p.name) d holds.changes.0) (named before d (ds ++ more))

all_named : (defs : List TableDef) (ps : List Piece) (before cs : List Change) → Made defs ps cs → AllNamed (map table_of (before ++ cs)) ps
all_named defs [] before cs m = tt
all_named defs (p ∷ ps) before cs m = (
  subst (λ xs. Has (map table_of (before ++ xs)) p.name) (sym m.3) (piece_named defs p before m.0 m.1 m.2),
  subst (λ xs. AllNamed (map table_of xs) ps) (append_assoc before m.0 m.1 ∙ ap (λ (xs : List Change). before ++ xs) (sym m.3)) (all_named defs ps (before ++ m.0) m.1 m.4),
)

distinct_named : (names : List (List ℕ)) (ps : List Piece) → AllNamed names ps → AllNamed (distinct names) ps
distinct_named names [] all = tt
distinct_named names (p ∷ ps) all = (distinct_has names p.name all.0, distinct_named names ps all.1)

-- ---- the rows of an item

some_bytes : (kind : RowsKind) (name : List ℕ) (kinds : List ColType) (bytes : List ℕ) (ds : List Change) → 1 ≤ length kinds → 1 ≤ length ds → changes_at kind name kinds bytes ≡ (ds, [])
    → (length bytes == 0) ≡ false
some_bytes kind name kinds [] ds columns some e =
    let empty : ds ≡ [] = ap (λ (x : List Change × List ℕ). x.0) (sym e ∙ changes_again kind name kinds [] columns tt) in
    let none : length ds ≡ 0 = rw empty refl in
    absurd (omega arith)
some_bytes kind name kinds (b ∷ bs) ds columns some e = ne_eqb _ _ (λ f. omega arith)

module _ (defs : List TableDef) (names : List (List ℕ)) where
  -- the map of a piece, and its rows
  abbrev its_map : Piece → Map
  its_map p = map_of (id_from 1 names p.name) p.name (columns_in defs p.name)

  is_found : (ends : Bool) (p : Piece) → Has names p.name → find (rows_of defs names ends p).id (maps_from 1 defs names) ≡ Some (its_map p)
  is_found ends p has = found defs 1 names p.name has

  its_changes : (ends : Bool) (p : Piece) (ds : List Change) → Holds defs p ds → changes_in (its_map p) (rows_of defs names ends p) ≡ (ds, [])
  its_changes ends p ds holds = piece_read defs (id_from 1 names p.name) (id_from 1 names p.name) ends p ds holds

  columns_same : (p : Piece) → (length (columns_in defs p.name) == length (map type_code (map kind_of (columns_in defs p.name)))) ≡ true
  columns_same p =
      eq-eqb _ _ (sym (length-map (map kind_of (columns_in defs p.name)) type_code ∙ length-map (columns_in defs p.name) kind_of))

  piece_fits : (ends : Bool) (p : Piece) (ds : List Change) → Holds defs p ds → are_rows (its_map p) (rows_of defs names ends p) ≡ true
  piece_fits ends p ds holds =
      let read = its_changes ends p ds holds in
      let types : map_types (its_map p) ≡ types_in defs p.name = types_again (types_in defs p.name) holds.types in
      let same : changes_at p.kind p.name (types_in defs p.name) p.rows ≡ (ds, []) = ap (λ (ks : List ColType). changes_at p.kind p.name ks p.rows) (sym types) ∙ read in
      let some = some_bytes p.kind p.name (types_in defs p.name) p.rows ds holds.columns holds.some same in
      rw (columns_same p, some, read) refl

  fits_one : (ends : Bool) (p : Piece) (ds : List Change) → Has names p.name → Holds defs p ds → FitsOne (find (rows_of defs names ends p).id (maps_from 1 defs names)) (rows_of defs names ends p)
  fits_one ends p ds has holds = subst (λ o. FitsOne o (rows_of defs names ends p)) (sym (is_found ends p has)) (piece_fits ends p ds holds)

  end_well : (ps : List Piece) (cs : List Change) → AllNamed names ps → Made defs ps cs → 1 ≤ length ps → EndWell (maps_from 1 defs names) (all_rows defs names ps)
  end_well [] cs all m some = absurd (omega arith)
  end_well (p ∷ []) cs all m some = (fits_one true p m.0 all.0 m.2, refl)
  end_well (p ∷ q ∷ qs) cs all m some =
      well_more (maps_from 1 defs names) (rows_of defs names false p) (all_rows defs names (q ∷ qs)) (fits_one false p m.0 all.0 m.2) refl
      (end_well (q ∷ qs) m.1 all.1 m.4 (omega arith))

  abbrev read_by : Rows → List Change
  read_by r = changes_by (find r.id (maps_from 1 defs names)) r

  one_read : (ends : Bool) (p : Piece) (ds : List Change) → Has names p.name → Holds defs p ds → read_by (rows_of defs names ends p) ≡ ds
  one_read ends p ds has holds =
      ap (λ (o : Option Map). changes_by o (rows_of defs names ends p)) (is_found ends p has) ∙ ap (λ (x : List Change × List ℕ). x.0) (its_changes ends p ds holds)

  all_read : (ps : List Piece) (cs : List Change) → AllNamed names ps → Made defs ps cs → flat_map read_by (all_rows defs names ps) ≡ cs
  all_read [] cs all m = sym m
  all_read (p ∷ []) cs all m =
      ap (λ (xs : List Change). xs ++ []) (one_read true p m.0 all.0 m.2) ∙ ap (λ (xs : List Change). m.0 ++ xs) (sym m.4) ∙ sym m.3
  all_read (p ∷ q ∷ qs) cs all m =
      ap (λ (xs : List Change). xs ++ flat_map read_by (all_rows defs names (q ∷ qs))) (one_read false p m.0 all.0 m.2)
      ∙ ap (λ (xs : List Change). m.0 ++ xs) (all_read (q ∷ qs) m.1 all.1 m.4) ∙ sym m.3

-- ---- an item

pieces_named : (defs : List TableDef) (cs : List Change) → CanCarryAll defs cs → AllNamed (tables_of cs) (pieces_of defs cs)
pieces_named defs cs can = distinct_named (map table_of cs) (pieces_of defs cs) (all_named defs (pieces_of defs cs) [] cs (made defs cs can))

pub carried : (defs : List TableDef) (cs : List Change) → 1 ≤ length cs → CanCarryAll defs cs → changes_read (changes_item defs cs) ≡ cs
carried defs cs some can = all_read defs (tables_of cs) (pieces_of defs cs) cs (pieces_named defs cs can) (made defs cs can)

names_item : (defs : List TableDef) (names : List (List ℕ)) (rs : List Rows) → 1 ≤ length names → EndWell (maps_from 1 defs names) rs → IsItem (rows_item (maps_from 1 defs names) rs)
names_item defs [] rs some well = absurd (omega arith)
names_item defs (m ∷ ms) rs some well = (new_ids defs 2 ms (map_of 1 m (columns_in defs m) ∷ []) (omega arith, tt), well)

some_names : (cs : List Change) → 1 ≤ length cs → 1 ≤ length (tables_of cs)
some_names [] some = absurd (omega arith)
some_names (c ∷ cs) some = omega arith

rows_spelled : (defs : List TableDef) (cs : List Change) → 1 ≤ length cs → CanCarryAll defs cs → IsItem (changes_item defs cs)
rows_spelled defs cs some can =
    names_item defs (tables_of cs) (all_rows defs (tables_of cs) (pieces_of defs cs)) (some_names cs some)
    (end_well defs (tables_of cs) (pieces_of defs cs) cs (pieces_named defs cs can) (made defs cs can) (some_pieces defs cs some can))

pub item_spelled : (i : Item) → IsCarried i.rows i → IsItem (spelled i)
item_spelled i is = by i.rows is
  where
    by : (b : Bool) → IsCarried b i → IsItem (cond b (changes_item i.defs i.changes) (text_of i.text i.carried))
    by true is = rows_spelled i.defs i.changes is.0 is.1
    by false is = tt
