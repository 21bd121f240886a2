-- Rows read where they stand, and shelves copied.
use Rattle.std.proofs.Common.{◌≡◌, ℕ, ◌≤◌, List, [], ◌∷◌, ◌++◌, map, length, drop, get_or, true, Option, Some, sym, refl, ap, ◌∙◌}
use Rattle.std.proofs.Math.ListN.{drop_of_length-le}
use Rattle.std.proofs.lemmas.List.{append-nil}
use Rattle.std.specs.Prelude.{find}
use Rattle.std.specs.Option.{option_and_then, option_map_or}
use Rattle.val_types.specs.declared.value.Value.{Value}
use Rattle.val_types.specs.declared.definitions.TableDef.{TableDef}
use Rattle.table_rules.specs.Tables.{Table}
use Rattle.table_rules.specs.Stored.{table_named, has_key_in_way, key_in_way, row_in_way, rows_of}
use Rattle.table_rules.specs.Stores.{place_of, names_differ}
use Rattle.table_rules.proofs.InWay.{row_in_way_has_key}
use Rattle.table_sheet.specs.row_sheets.Slots.{Slot, rows_in, keys_in}
use Rattle.table_sheet.specs.row_sheets.Over.{over}
use Rattle.table_sheet.specs.Pages.{rows_on}
use Rattle.row_store.specs.declared.shelf.Shelf.{Shelf}
use Rattle.row_store.specs.Shelves.{table_on, definitions_on, store_of}
use Rattle.row_store.proofs.Storing.{table_found}
use Rattle.row_store.proofs.Shelved.{shelf_at}

-- ---- the table on a shelf

pub table_here : (name : List ℕ) (ss : List Shelf) (at : ℕ) (s : Shelf) (table : Table) → s ≡ get_or ss at s → place_of name (store_of ss).tables ≡ Some at → table_named name (store_of ss).tables ≡ Some table
    → table_on s ≡ table
unfolding store_of
table_here name ss at s table is e named = let both : Some (table_on s) ≡ Some table = sym (table_found name ss s (shelf_at name ss at s e is)) ∙ named in cc

pub rows_here : (name : List ℕ) (ss : List Shelf) (at : ℕ) (s : Shelf) → s ≡ get_or ss at s → place_of name (store_of ss).tables ≡ Some at → rows_on s.sheet ≡ rows_of name (store_of ss).tables
unfolding store_of
rows_here name ss at s is e = ap (λ (o : Option Table). option_map_or (λ (t : Table). t.rows) o []) (sym (table_found name ss s (shelf_at name ss at s e is)))

-- the row in the way is that with the first key in the way
pub in_way_by : (d : TableDef) (row : List Value) (rows : List (List Value)) (o : Option ℕ) → o ≡ key_in_way d row rows
    → option_and_then (λ which. find (has_key_in_way d row which) rows) o ≡ row_in_way d row rows
in_way_by d row rows o e = ap (option_and_then (λ which. find (has_key_in_way d row which) rows)) e ∙ sym (row_in_way_has_key d row rows)

-- ---- copies

-- what is stored on a shelf
pub record Seen : Type 0 where
  pub definition : TableDef
  pub committed : List Slot
  pub entries : List Slot

abbrev pub seen : Shelf → Seen
seen s = record { definition = s.sheet.definition; committed = s.sheet.committed; entries = s.sheet.entries }

pub twice : {X Y Z : Type 0} (f : X → Y) (g : Y → Z) (xs : List X) → map g (map f xs) ≡ map (λ x. g (f x)) xs
twice f g [] = refl
twice {Z = Z} f g (x ∷ xs) = ap (λ (zs : List Z). g (f x) ∷ zs) (twice f g xs)

abbrev table_seen : Seen → Table
table_seen s = record { definition = s.definition; rows = rows_in (over s.entries s.committed) }

abbrev committed_seen : Seen → Table
committed_seen s = record { definition = s.definition; rows = rows_in s.committed }

-- shelves of the same definitions, committed rows and entries store the same, but for room
pub same_tables : (ss ts : List Shelf) → map seen ss ≡ map seen ts → (store_of ss).tables ≡ (store_of ts).tables
unfolding store_of
same_tables ss ts e = sym (twice seen table_seen ss) ∙ ap (map table_seen) e ∙ twice seen table_seen ts

pub same_kept : (ss ts : List Shelf) → map seen ss ≡ map seen ts → (store_of ss).kept ≡ (store_of ts).kept
unfolding store_of
same_kept ss ts e = sym (twice seen (λ (s : Seen). keys_in s.entries) ss) ∙ ap (map (λ (s : Seen). keys_in s.entries)) e ∙ twice seen (λ (s : Seen). keys_in s.entries) ts

pub same_committed : (ss ts : List Shelf) → map seen ss ≡ map seen ts → (store_of ss).committed ≡ (store_of ts).committed
unfolding store_of
same_committed ss ts e = sym (twice seen committed_seen ss) ∙ ap (map committed_seen) e ∙ twice seen committed_seen ts

pub names_seen : (ss ts : List Shelf) → map seen ss ≡ map seen ts → names_differ (definitions_on ts) ≡ true → names_differ (definitions_on ss) ≡ true
names_seen ss ts e differ =
    ap names_differ (sym (twice seen (λ (s : Seen). s.definition) ss) ∙ ap (map (λ (s : Seen). s.definition)) e ∙ twice seen (λ (s : Seen). s.definition) ts) ∙ differ

pub all_seen : (ss ts : List Shelf) (k : ℕ) → length ts ≤ k → map seen ss ++ map seen (drop k ts) ≡ map seen ts → map seen ss ≡ map seen ts
all_seen ss ts k past e =
    sym (append-nil (map seen ss)) ∙ ap (λ (rest : List Shelf). map seen ss ++ map seen rest) (sym (drop_of_length-le ts past)) ∙ e
