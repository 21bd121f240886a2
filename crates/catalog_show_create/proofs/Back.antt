-- A CREATE TABLE of which the keys are known and one column at most counts is written as its definition is.
use Rattle.std.proofs.Common.{◌≡◌, ◌+◌, ℕ, zero, suc, Bool, true, false, ◌&&◌, ◌||◌, not, nat_eq, cond, List, [], ◌∷◌, map, filter, length, slice_get, Option, Some, None, refl, sym, ap, ◌∙◌, arith}
use Rattle.std.specs.Prelude.{nat_lt, slice_index_or}
use Rattle.std.specs.List.{list_any}
use Rattle.std.specs.Option.{option_map, option_map_or}
use Rattle.std.specs.Cmp.Lexicographic.{pointwise}
use Rattle.std.proofs.lemmas.Bool.Decides.{nat_tests}
use Rattle.val_types.specs.declared.definitions.ColumnDef.{ColumnDef}
use Rattle.sql_tree.specs.declared.statements.SqlType.{SqlType}
use Rattle.sql_tree.specs.declared.statements.SqlType.TheVariants as types
use Rattle.sql_tree.specs.declared.statements.Column.{Column}
use Rattle.sql_tree.specs.declared.statements.UniqueKey.{UniqueKey}
use Rattle.sql_tree.specs.declared.statements.CreateTable.{CreateTable}
use Rattle.sql_locals.specs.Types.{column_type}
use Rattle.catalog_objects.specs.catalog_rules.Names.{same_name, is_among, place_among}
use Rattle.catalog_objects.specs.catalog_rules.Defined.{written_type, defined_column, names_of_columns, places_of, auto_place, defined_key, definition_of, written_column, written_columns, names_at, written_key, written_table}
use Rattle.catalog_objects.specs.catalog_rules.Creating.{has_unknown}

-- ---- types and columns

type_back : (kind : SqlType) → written_type (column_type kind) ≡ kind
type_back types.Int = refl
type_back types.BigInt = refl
type_back (types.Varchar most) = refl

column_back : (auto : Option ℕ) (place : ℕ) (c : Column) → option_map_or (nat_eq place) auto false ≡ c.auto_increment → written_column auto place (defined_column c) ≡ c
column_back auto place c e =
    let kind = type_back c.kind in
    λ i. record { name = c.name; kind = kind i; nullable = c.nullable; preset = c.preset; auto_increment = e i }

cons_same : {A : Type 0} (a b : A) (xs ys : List A) → a ≡ b → xs ≡ ys → a ∷ xs ≡ b ∷ ys
cons_same a b xs ys e f = λ i. e i ∷ f i

columns_back : (auto : Option ℕ) (start : ℕ) (cs : List Column) → ((j k : ℕ) (c : Column) → k ≡ start + j → slice_get cs j ≡ Some c → option_map_or (nat_eq k) auto false ≡ c.auto_increment)
    → written_columns auto start (map defined_column cs) ≡ cs
columns_back auto start [] counts = refl
columns_back auto start (c ∷ cs) counts =
    cons_same _ _ _ _ (column_back auto start c (counts 0 start c (omega arith) refl))
    (columns_back auto (start + 1) cs (λ j k d e get. counts (suc j) k d (omega (arith, e)) get))

-- ---- the AUTO_INCREMENT column

abbrev pub counting : Column → Bool
counting c = c.auto_increment

first_is : (d c : Column) (cs : List Column) → slice_get (d ∷ cs) 0 ≡ Some c → d ≡ c
first_is d c cs at =
    let same : Some d ≡ Some c = at in
    cc

none_step : (t : Bool) (d : Column) (cs : List Column) (c : Column) → d.auto_increment ≡ t → length (cond t (d ∷ filter counting cs) (filter counting cs)) ≡ 0
    → (length (filter counting cs) ≡ 0 → (j : ℕ) → slice_get cs j ≡ Some c → c.auto_increment ≡ false) → (k : ℕ) → slice_get (d ∷ cs) k ≡ Some c → c.auto_increment ≡ false
none_step true d cs c is long later k at = absurd (omega (arith, long))
none_step false d cs c is long later zero at = ap counting (sym (first_is d c cs at)) ∙ is
none_step false d cs c is long later (suc k) at = later long k at

none_behind : (cs : List Column) (c : Column) → length (filter counting cs) ≡ 0 → (j : ℕ) → slice_get cs j ≡ Some c → c.auto_increment ≡ false
none_behind [] c none j get = cc
none_behind (d ∷ cs) c none j get = none_step d.auto_increment d cs c refl none (none_behind cs c) j get

moved_on : (j : ℕ) (auto : Option ℕ) → option_map_or (nat_eq (suc j)) (option_map suc auto) false ≡ option_map_or (nat_eq j) auto false
moved_on j None = refl
moved_on j (Some p) = grind (arith, nat_tests)

not_first : (auto : Option ℕ) → option_map_or (nat_eq 0) (option_map suc auto) false ≡ false
not_first None = refl
not_first (Some p) = grind (arith, nat_tests)

one_at_most : (n : ℕ) → nat_lt 1 (suc n) ≡ false → n ≡ 0
one_at_most n e = grind (arith, nat_tests)

counted_step : (t : Bool) (d : Column) (cs : List Column) (c : Column) → d.auto_increment ≡ t → nat_lt 1 (length (cond t (d ∷ filter counting cs) (filter counting cs))) ≡ false
    → (nat_lt 1 (length (filter counting cs)) ≡ false → (j : ℕ) → slice_get cs j ≡ Some c → option_map_or (nat_eq j) (auto_place cs) false ≡ c.auto_increment)
    → (k : ℕ) → slice_get (d ∷ cs) k ≡ Some c → option_map_or (nat_eq k) (cond t (Some 0) (option_map suc (auto_place cs))) false ≡ c.auto_increment
counted_step true d cs c is few later zero at = sym is ∙ ap counting (first_is d c cs at)
counted_step true d cs c is few later (suc k) at =
    let apart : nat_eq (suc k) 0 ≡ false = grind (arith, nat_tests) in
    apart ∙ sym (none_behind cs c (one_at_most _ few) k at)
counted_step false d cs c is few later zero at = not_first (auto_place cs) ∙ sym is ∙ ap counting (first_is d c cs at)
counted_step false d cs c is few later (suc k) at = moved_on k (auto_place cs) ∙ later few k at

-- where one column at most counts, its place is where columns say that they do
counted_at : (cs : List Column) (c : Column) → nat_lt 1 (length (filter counting cs)) ≡ false → (j : ℕ) → slice_get cs j ≡ Some c → option_map_or (nat_eq j) (auto_place cs) false ≡ c.auto_increment
counted_at [] c one j get = cc
counted_at (d ∷ cs) c one j get = counted_step d.auto_increment d cs c refl one (counted_at cs c) j get

-- ---- keys

names_fused : (cs : List Column) → map (λ (c : ColumnDef). c.name) (map defined_column cs) ≡ map (λ (c : Column). c.name) cs
names_fused [] = refl
names_fused (c ∷ cs) = ap (λ (rest : List (List ℕ)). c.name ∷ rest) (names_fused cs)

same_step : (t : Bool) (x y : ℕ) (xs ys : List ℕ) → nat_eq x y ≡ t → (t && pointwise nat_eq xs ys) ≡ true → (pointwise nat_eq xs ys ≡ true → xs ≡ ys) → x ∷ xs ≡ y ∷ ys
same_step true x y xs ys same rest later =
    let first : x ≡ y = grind (arith, nat_tests) in
    cons_same x y xs ys first (later rest)
same_step false x y xs ys other rest later = cc

same_is : (a b : List ℕ) → pointwise nat_eq a b ≡ true → a ≡ b
same_is [] [] e = refl
same_is [] (y ∷ ys) e = cc
same_is (x ∷ xs) [] e = cc
same_is (x ∷ xs) (y ∷ ys) e = same_step (nat_eq x y) x y xs ys refl e (same_is xs ys)

one_behind : (first : List ℕ) (columns : List (List ℕ)) (place : Option ℕ) → option_map_or (λ (p : ℕ). slice_index_or (first ∷ columns) p [] ∷ []) (option_map suc place) [] ≡ option_map_or (λ (p : ℕ). slice_index_or columns p [] ∷ []) place []
one_behind first columns None = refl
one_behind first columns (Some p) = refl

name_step : (t : Bool) (first : List ℕ) (columns : List (List ℕ)) (name : List ℕ) → same_name name first ≡ t → (t || is_among columns name) ≡ true
    → (is_among columns name ≡ true → option_map_or (λ (p : ℕ). slice_index_or columns p [] ∷ []) (place_among columns name) [] ≡ name ∷ [])
    → option_map_or (λ (p : ℕ). slice_index_or (first ∷ columns) p [] ∷ []) (cond t (Some 0) (option_map suc (place_among columns name))) [] ≡ name ∷ []
name_step true first columns name same is later = ap (λ (n : List ℕ). n ∷ []) (sym (same_is name first same))
name_step false first columns name other is later = one_behind first columns (place_among columns name) ∙ later is

-- the names at the place of a name, where there is one, are that name
name_back : (columns : List (List ℕ)) (name : List ℕ) → is_among columns name ≡ true → option_map_or (λ (p : ℕ). slice_index_or columns p [] ∷ []) (place_among columns name) [] ≡ name ∷ []
name_back [] name e = cc
name_back (first ∷ columns) name e = name_step (same_name name first) first columns name refl e (name_back columns name)

names_step : (columns : List (List ℕ)) (name : List ℕ) (names : List (List ℕ)) (place : Option ℕ) → place_among columns name ≡ place
    → option_map_or (λ (p : ℕ). slice_index_or columns p [] ∷ []) place [] ≡ name ∷ [] → names_at columns (places_of columns names) ≡ names
    → names_at columns (places_of columns (name ∷ names)) ≡ name ∷ names
names_step columns name names None is own rest = cc
names_step columns name names (Some p) is own rest =
    let here : slice_index_or columns p [] ∷ [] ≡ name ∷ [] = own in
    let first : slice_index_or columns p [] ≡ name = cc in
    rw is (cons_same _ _ _ _ first rest)

known_first : (a b : Bool) → (not a || b) ≡ false → (a ≡ true) × (b ≡ false)
known_first true b e = (refl, e)
known_first false b e = cc

pub names_back : (columns : List (List ℕ)) (names : List (List ℕ)) → has_unknown columns names ≡ false → names_at columns (places_of columns names) ≡ names
names_back columns [] known = refl
names_back columns (name ∷ names) known =
    let parts = known_first (is_among columns name) (has_unknown columns names) known in
    names_step columns name names (place_among columns name) refl (name_back columns name parts.0) (names_back columns names parts.1)

key_back : (columns : List (List ℕ)) (k : UniqueKey) → has_unknown columns k.columns ≡ false → written_key columns (defined_key columns k) ≡ k
key_back columns k known =
    let names = names_back columns k.columns known in
    λ i. record { name = k.name; columns = names i }

none_first : (a b : Bool) → (a || b) ≡ false → (a ≡ false) × (b ≡ false)
none_first true b e = cc
none_first false b e = (refl, e)

keys_back : (columns : List (List ℕ)) (ks : List UniqueKey) → list_any (has_unknown columns) (map (λ (k : UniqueKey). k.columns) ks) ≡ false
    → map (written_key columns) (map (defined_key columns) ks) ≡ ks
keys_back columns [] known = refl
keys_back columns (k ∷ ks) known =
    let parts = none_first (has_unknown columns k.columns) _ known in
    cons_same _ _ _ _ (key_back columns k parts.0) (keys_back columns ks parts.1)

-- ---- the whole table

-- what CREATE TABLE says, its definition says
pub table_back : (t : CreateTable) (key : List (List ℕ)) → t.primary ≡ Some key → has_unknown (names_of_columns t) key ≡ false
    → list_any (has_unknown (names_of_columns t)) (map (λ (k : UniqueKey). k.columns) t.uniques) ≡ false → nat_lt 1 (length (filter counting t.columns)) ≡ false
    → written_table (definition_of t) ≡ t
table_back t key is known all one =
    let columns = columns_back (auto_place t.columns) 0 t.columns (λ j k c e get. ap (λ (n : ℕ). option_map_or (nat_eq n) (auto_place t.columns) false) (omega (arith, e)) ∙ counted_at t.columns c one j get) in
    let fused = names_fused t.columns in
    let primary =
    ap (λ (names : List (List ℕ)). Some (names_at names (option_map_or (places_of (names_of_columns t)) t.primary []))) fused
    ∙ ap (λ (p : Option (List (List ℕ))). Some (names_at (names_of_columns t) (option_map_or (places_of (names_of_columns t)) p []))) is
    ∙ ap (λ (names : List (List ℕ)). Some names) (names_back (names_of_columns t) key known)
    ∙ sym is in
    let uniques =
    ap (λ (names : List (List ℕ)). map (written_key names) (map (defined_key (names_of_columns t)) t.uniques)) fused
    ∙ keys_back (names_of_columns t) t.uniques all in
    λ i. record { name = t.name; columns = columns i; primary = primary i; uniques = uniques i }
