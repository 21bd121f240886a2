-- The columns of a table by its definition, by the definitions that an item has, and by the map of its events.
use Rattle.std.proofs.Common.{◌≡◌, ℕ, ◌+◌, Bool, true, false, not, ◌||◌, cond, List, [], ◌∷◌, ◌++◌, map, filter, Option, Some, refl, sym, ap, subst, ◌∙◌, append_assoc, arith}
use Rattle.std.specs.Prelude.{nat_eq, ◌==◌, flat_map}
use Rattle.std.specs.List.{AllByRecursion}
use Rattle.std.specs.Cmp.Lexicographic.{pointwise}
use Rattle.std.proofs.lemmas.List.{drop_at}
use Rattle.val_types.specs.declared.change.Change.{Change}
use Rattle.val_types.specs.Changes.{table_of}
use Rattle.val_types.specs.declared.definitions.ColType.{ColType}
use Rattle.val_types.specs.declared.definitions.ColType.TheVariants.{Int as IntType, BigInt, Varchar}
use Rattle.val_types.specs.declared.definitions.TableDef.{TableDef}
use Rattle.byte_fields.specs.Field.{number_bytes}
use Rattle.byte_fields.proofs.FieldLaws.{field_again, field_width}
use Rattle.table_rules.specs.Tables.{Table}
use Rattle.table_rules.specs.Stored.{has_name, table_named}
use Rattle.table_rules.specs.Stores.{definitions_of}
use Rattle.table_rules.proofs.Places.{name_is, name_self}
use Rattle.statement_names.specs.catalog_rules.Names.{is_among}
use Rattle.event_codec.specs.Event.{Map}
use Rattle.log_entry_laws.specs.log_model.Groups.{find}
use Rattle.log_entry_laws.specs.log_model.Images.{types_of, map_types}
use Rattle.log_entry_laws.specs.log_model.Items.{distinct, tables_of, columns_in, types_in, kind_of, type_code, type_metadata, map_of, maps_from, same_name, AreTypes, CanCarry, CanCarryAll}
use Rattle.apply_laws.proofs.Catalogs.{name_turned}

-- ---- by a table

columns_step : (here later : Bool) (t found : Table) (ds : List TableDef) (name : List ℕ) (o : Option Table) → later ≡ here
    → (o ≡ Some found → columns_in ds name ≡ found.definition.columns)
    → cond here (Some t) o ≡ Some found → cond later t.definition.columns (columns_in ds name) ≡ found.definition.columns
columns_step true true t found ds name o same more e = let it : t ≡ found = cc in ap (λ (u : Table). u.definition.columns) it
columns_step true false t found ds name o same more e = cc
columns_step false true t found ds name o same more e = cc
columns_step false false t found ds name o same more e = more e

-- the columns that definitions have by a name are those of the table of the name
pub columns_of_named : (name : List ℕ) (ts : List Table) (found : Table) → table_named name ts ≡ Some found → columns_in (definitions_of ts) name ≡ found.definition.columns
columns_of_named name [] found e = cc
columns_of_named name (t ∷ ts) found e =
    columns_step (has_name name t) (same_name t.definition.name name) t found (definitions_of ts) name (table_named name ts) (name_turned t.definition.name name)
    (columns_of_named name ts found) e

-- ---- by the definitions of an item

-- those among definitions whose tables are changed
abbrev pub changed_among : List TableDef → List Change → List TableDef
changed_among ds changes = filter (λ (d : TableDef). is_among (map table_of changes) d.name) ds

kept_step : (keep here : Bool) (d : TableDef) (ds rest : List TableDef) (name : List ℕ) → (here ≡ true → keep ≡ true) → same_name d.name name ≡ here
    → columns_in rest name ≡ columns_in ds name → columns_in (cond keep (d ∷ rest) rest) name ≡ cond here d.columns (columns_in ds name)
kept_step true true d ds rest name must is later = rw is refl
kept_step true false d ds rest name must is later = rw is later
kept_step false true d ds rest name must is later = let it : false ≡ true = must refl in cc
kept_step false false d ds rest name must is later = later

columns_kept : (changes : List Change) (ds : List TableDef) (name : List ℕ) → is_among (map table_of changes) name ≡ true
    → columns_in (changed_among ds changes) name ≡ columns_in ds name
columns_kept changes [] name among = refl
columns_kept changes (d ∷ ds) name among =
    kept_step (is_among (map table_of changes) d.name) (same_name d.name name) d ds (changed_among ds changes) name
    (λ same. ap (is_among (map table_of changes)) (name_is d.name name same) ∙ among) refl (columns_kept changes ds name among)

-- ---- by a map

types_again : (kinds : List ColType) → AreTypes kinds → types_of (map type_code kinds) (flat_map type_metadata kinds) ≡ kinds
types_again [] are = refl
types_again (IntType ∷ ks) are = ap (λ (xs : List ColType). IntType ∷ xs) (types_again ks are)
types_again (BigInt ∷ ks) are = ap (λ (xs : List ColType). BigInt ∷ xs) (types_again ks are)
types_again (Varchar most ∷ ks) are =
    rw (field_again 2 most (flat_map type_metadata ks) (omega (arith, are.0)), drop_at (number_bytes 2 most) (flat_map type_metadata ks) 2 (field_width 2 most))
    (ap (λ (xs : List ColType). Varchar most ∷ xs) (types_again ks are.1))

-- the map of a table by an item's definitions has the types that all definitions give it
abbrev pub IsKnown : (defs all : List TableDef) → List ℕ → Type 0
IsKnown defs all name = (id : ℕ) → map_types (map_of id name (columns_in defs name)) ≡ types_in all name

known_one : (all : List TableDef) (changes : List Change) (c : Change) → is_among (map table_of changes) (table_of c) ≡ true → CanCarry (changed_among all changes) c
    → IsKnown (changed_among all changes) all (table_of c)
known_one all changes c among can = λ id.
    types_again (types_in (changed_among all changes) (table_of c)) can.types ∙ ap (map kind_of) (columns_kept changes all (table_of c) among)

map_behind : (before : List Change) (c : Change) (more : List Change) → is_among (map table_of (before ++ c ∷ more)) (table_of c) ≡ true
map_behind [] c more = rw (name_self (table_of c)) refl
map_behind (d ∷ ds) c more = by (pointwise nat_eq (table_of c) (table_of d)) (map_behind ds c more)
  where
    by : (b : Bool) → is_among (map table_of (ds ++ c ∷ more)) (table_of c) ≡ true → (b || is_among (map table_of (ds ++ c ∷ more)) (table_of c)) ≡ true
    by true later = refl
    by false later = later

known_behind : (all : List TableDef) (changes before more : List Change) → before ++ more ≡ changes → CanCarryAll (changed_among all changes) more
    → AllByRecursion (IsKnown (changed_among all changes) all) (map table_of more)
known_behind all changes before [] e can = tt
known_behind all changes before (c ∷ more) e can = (
  known_one all changes c (ap (λ (cs : List Change). is_among (map table_of cs) (table_of c)) (sym e) ∙ map_behind before c more) can.0,
  known_behind all changes (before ++ c ∷ []) more (append_assoc before (c ∷ []) more ∙ e) can.1,
)

all_filtered : (P : List ℕ → Type 0) (keep : List ℕ → Bool) (ns : List (List ℕ)) → AllByRecursion P ns → AllByRecursion P (filter keep ns)
all_filtered P keep [] all = tt
all_filtered P keep (n ∷ ns) all = by (keep n) all.0 (all_filtered P keep ns all.1)
  where
    by : (b : Bool) → P n → AllByRecursion P (filter keep ns) → AllByRecursion P (cond b (n ∷ filter keep ns) (filter keep ns))
    by true own rest = (own, rest)
    by false own rest = rest

all_distinct : (P : List ℕ → Type 0) (ns : List (List ℕ)) → AllByRecursion P ns → AllByRecursion P (distinct ns)
all_distinct P [] all = tt
all_distinct P (n ∷ ns) all = (all.0, all_filtered P (λ m. not (same_name n m)) (distinct ns) (all_distinct P ns all.1))

-- maps whose types are those of all definitions
abbrev pub MapsFit : (all : List TableDef) → List Map → Type 0
MapsFit all ms = (id : ℕ) (m : Map) → find id ms ≡ Some m → map_types m ≡ types_in all m.name

maps_fit_from : (defs all : List TableDef) (n : ℕ) (names : List (List ℕ)) → AllByRecursion (IsKnown defs all) names → MapsFit all (maps_from n defs names)
maps_fit_from defs all n [] known id m e = cc
maps_fit_from defs all n (name ∷ names) known id m e = by (n == id) (known.0 n) (maps_fit_from defs all (n + 1) names known.1 id m) e
  where
    by : (b : Bool) → map_types (map_of n name (columns_in defs name)) ≡ types_in all name
        → (find id (maps_from (n + 1) defs names) ≡ Some m → map_types m ≡ types_in all m.name)
        → cond b (Some (map_of n name (columns_in defs name))) (find id (maps_from (n + 1) defs names)) ≡ Some m → map_types m ≡ types_in all m.name
    by true own later e =
        let same : map_of n name (columns_in defs name) ≡ m = cc in
        subst (λ (x : Map). map_types x ≡ types_in all x.name) same own
    by false own later e = later e

-- so are those of an item's changes
pub maps_fit : (all : List TableDef) (changes : List Change) → CanCarryAll (changed_among all changes) changes
    → MapsFit all (maps_from 1 (changed_among all changes) (tables_of changes))
maps_fit all changes can =
    maps_fit_from (changed_among all changes) all 1 (tables_of changes)
    (all_distinct (IsKnown (changed_among all changes) all) (map table_of changes) (known_behind all changes [] changes refl can))
