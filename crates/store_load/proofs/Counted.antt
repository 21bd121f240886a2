-- Counters started, table by table.
use Rattle.std.proofs.Common.{◌≡◌, ℕ, zero, suc, ◌+◌, ◌≤◌, List, [], ◌∷◌, ◌++◌, length, take, Bool, true, false, cond, Option, Some, None, Result, Ok, Err, refl, sym, ap, ◌∙◌, add-one, append-nil, arith}
use Rattle.std.specs.Prelude.{nat_eq, position, slice_get, find, OnOk}
use Rattle.std.specs.List.{cons_option}
use Rattle.std.specs.Option.{option_map, option_map_or}
use Rattle.std.specs.Cmp.Lexicographic.{pointwise}
use Rattle.std.proofs.lemmas.List.{length-map}
use Rattle.val_types.specs.declared.value.Value.{Value}
use Rattle.val_types.specs.declared.definitions.TableDef.{TableDef}
use Rattle.auto_inc.specs.declared.counters.Counter.{Counter}
use Rattle.auto_inc.specs.Counting.{started, start_value, greatest_held, value_for, counts_for, tables_of}
use Rattle.table_rules.specs.Tables.{Table}
use Rattle.table_rules.specs.Stored.{has_name, rows_of}
use Rattle.table_rules.specs.Stores.{definitions_of, place_of}
use Rattle.table_rules.proofs.Places.{place, place_is_of_name}
use Rattle.store_model.specs.sql_reach.catalog_rules.Bases.{definitions_in}
use Rattle.store_model.specs.sql_reach.catalog_rules.Objects.{Object, table, function, procedure, reaction, count_of_tables}
use Rattle.prog_work.specs.Contents.{counted_names}
use Rattle.store_load.specs.Counters.{started_of, started_all}

-- ---- names

names_step : (d : TableDef) (rows : List (List Value)) (o : Option ℕ) (rest : List Counter) (names : List (List ℕ)) → tables_of rest ≡ names
    → tables_of (cons_option (option_map (λ (column : ℕ). started d rows) o) rest) ≡ cons_option (option_map (λ (column : ℕ). d.name) o) names
names_step d rows None rest names e = e
names_step d rows (Some column) rest names e = ap (λ (ns : List (List ℕ)). d.name ∷ ns) e

-- each table with an AUTO_INCREMENT column has its counter
pub names_started : (ts : List Table) → tables_of (started_all ts) ≡ counted_names (definitions_of ts)
names_started [] = refl
names_started (t ∷ ts) = names_step t.definition t.rows t.definition.auto (started_all ts) (counted_names (definitions_of ts)) (names_started ts)

-- as many tables as the catalog has
pub tables_counted : (catalog : List Object) → count_of_tables catalog ≡ length (definitions_in catalog)
tables_counted [] = refl
tables_counted (table d ∷ os) = omega (arith, tables_counted os)
tables_counted (function p ∷ os) = tables_counted os
tables_counted (procedure p ∷ os) = tables_counted os
tables_counted (reaction t ∷ os) = tables_counted os

-- ---- one table more

cons_append : (o : Option Counter) (cs ds : List Counter) → cons_option o (cs ++ ds) ≡ cons_option o cs ++ ds
cons_append None cs ds = refl
cons_append (Some c) cs ds = refl

some_same : {A : Type 0} (x y : A) → Some x ≡ Some y → x ≡ y
some_same x y e = cc

taken_more : (ts : List Table) (at : ℕ) (t : Table) → slice_get ts at ≡ Some t → started_all (take (suc at) ts) ≡ started_all (take at ts) ++ cons_option (started_of t) []
taken_more [] at t e = cc
taken_more (x ∷ xs) zero t e = ap (λ (y : Table). cons_option (started_of y) []) (some_same x t e)
taken_more (x ∷ xs) (suc n) t e =
    ap (cons_option (started_of x)) (taken_more xs n t e) ∙ cons_append (started_of x) (started_all (take n xs)) (cons_option (started_of t) [])

-- the table at a place
record There (ts : List Table) (at : ℕ) (d : TableDef) : Type 0 where
  pub found : Table
  pub is : slice_get ts at ≡ Some found
  pub definition : found.definition ≡ d

there_at : (ts : List Table) (at : ℕ) (d : TableDef) → slice_get (definitions_of ts) at ≡ Some d → There ts at d
there_at [] at d e = cc
there_at (t ∷ ts) zero d e = record { found = t; is = refl; definition = some_same t.definition d e }
there_at (t ∷ ts) (suc n) d e = let rest = there_at ts n d e in record { found = rest.found; is = rest.is; definition = rest.definition }

rows_found : (ts : List Table) (at : ℕ) (d : TableDef) (there : There ts at d) → place_of d.name ts ≡ Some at → rows_of d.name ts ≡ there.found.rows
rows_found ts at d there is =
    ap (λ (o : Option Table). option_map_or (λ (t : Table). t.rows) o []) (sym (place_is_of_name d.name ts at is) ∙ there.is)

-- the counters with that of the table at a place
behind_at : (ts : List Table) (at : ℕ) (d : TableDef) (there : There ts at d) (o : Option ℕ) → d.auto ≡ o
    → started_all (take (at + 1) ts) ≡ started_all (take at ts) ++ cons_option (option_map (λ (column : ℕ). started d there.found.rows) o) []
behind_at ts at d there o is =
    ap (λ (n : ℕ). started_all (take n ts)) (add-one at) ∙ taken_more ts at there.found there.is
    ∙ ap (λ (e : TableDef). started_all (take at ts) ++ cons_option (option_map (λ (column : ℕ). started e there.found.rows) e.auto) []) there.definition
    ∙ ap (λ (p : Option ℕ). started_all (take at ts) ++ cons_option (option_map (λ (column : ℕ). started d there.found.rows) p) []) is

-- none is behind a table without such a column
pub none_started : (ts : List Table) (at : ℕ) (d : TableDef) (cs : List Counter) → slice_get (definitions_of ts) at ≡ Some d → d.auto ≡ None → cs ≡ started_all (take at ts)
    → cs ≡ started_all (take (at + 1) ts)
none_started ts at d cs is none so_far =
    let there = there_at ts at d is in
    so_far ∙ sym (behind_at ts at d there None none ∙ append-nil (started_all (take at ts)))

-- that of a table is
pub one_started : (ts : List Table) (at column greatest : ℕ) (d : TableDef) (rows : List (List Value)) (cs new : List Counter) → slice_get (definitions_of ts) at ≡ Some d → place_of d.name ts ≡ Some at
    → d.auto ≡ Some column → rows ≡ rows_of d.name ts → greatest ≡ greatest_held column rows → cs ≡ started_all (take at ts) → new ≡ cs ++ record { table = d.name; value = greatest + 1 } ∷ []
    → new ≡ started_all (take (at + 1) ts)
one_started ts at column greatest d rows cs new is placed auto read most so_far grown =
    let there = there_at ts at d is in
    let same : rows ≡ there.found.rows = read ∙ rows_found ts at d there placed in
    grown ∙ ap (λ (n : ℕ). cs ++ record { table = d.name; value = n + 1 } ∷ []) most
    ∙ ap (λ (front : List Counter). front ++ record { table = d.name; value = greatest_held column rows + 1 } ∷ []) so_far
    ∙ ap (λ (rs : List (List Value)). started_all (take at ts) ++ record { table = d.name; value = greatest_held column rs + 1 } ∷ []) same
    ∙ ap (λ (n : ℕ). started_all (take at ts) ++ record { table = d.name; value = n } ∷ []) (sym (ap (λ (o : Option ℕ). start_value o there.found.rows) auto))
    ∙ sym (behind_at ts at d there (Some column) auto)

-- ---- no table before has its name

beside : (name : List ℕ) (d : TableDef) (rows : List (List Value)) (o : Option ℕ) (cs : List Counter) → pointwise nat_eq name d.name ≡ false → value_for name cs ≡ None
    → value_for name (cons_option (option_map (λ (column : ℕ). started d rows) o) cs) ≡ None
beside name d rows None cs other none = none
beside name d rows (Some column) cs other none =
    ap (λ (b : Bool). option_map (λ (counter : Counter). counter.value) (cond b (Some (started d rows)) (find (counts_for name) cs))) other ∙ none

module _ (name : List ℕ) (t : Table) (ts : List Table) (at : ℕ) where
  not_yet_by : (here : Bool) → has_name name t ≡ here → (later : Option ℕ) → ((j : ℕ) → later ≡ Some j → value_for name (started_all (take j ts)) ≡ None)
      → cond here (Some 0) (option_map suc later) ≡ Some at → value_for name (started_all (take at (t ∷ ts))) ≡ None
  not_yet_by true is later none e = ap (λ (n : ℕ). value_for name (started_all (take n (t ∷ ts)))) (sym (some_same 0 at e))
  not_yet_by false is None none e = cc
  not_yet_by false is (Some j) none e =
      ap (λ (n : ℕ). value_for name (started_all (take n (t ∷ ts)))) (sym (some_same (suc j) at e))
      ∙ beside name t.definition t.rows t.definition.auto (started_all (take j ts)) is (none j refl)

pub not_yet : (name : List ℕ) (ts : List Table) (at : ℕ) → place_of name ts ≡ Some at → value_for name (started_all (take at ts)) ≡ None
not_yet name [] at e = cc
not_yet name (t ∷ ts) at e = not_yet_by name t ts at (has_name name t) refl (position (has_name name) ts) (λ j placed. not_yet name ts j placed) (sym (place (has_name name) t ts) ∙ e)

pub started_ok : {A E : Type 0} (r : Result A E) (ts : List Table) (at column greatest : ℕ) (d : TableDef) (rows : List (List Value)) (cs new : List Counter) → slice_get (definitions_of ts) at ≡ Some d
    → place_of d.name ts ≡ Some at → d.auto ≡ Some column → rows ≡ rows_of d.name ts → greatest ≡ greatest_held column rows → cs ≡ started_all (take at ts)
    → OnOk r (new ≡ cs ++ record { table = d.name; value = greatest + 1 } ∷ []) → OnOk r (new ≡ started_all (take (at + 1) ts))
started_ok (Ok x) ts at column greatest d rows cs new is placed auto read most so_far grown = one_started ts at column greatest d rows cs new is placed auto read most so_far grown
started_ok (Err e) ts at column greatest d rows cs new is placed auto read most so_far grown = tt

-- ---- all of them

pub enough : (there ts : List Table) (count : ℕ) (catalog : List Object) → there ≡ ts → count ≡ count_of_tables catalog → definitions_of ts ≡ definitions_in catalog → length there ≤ count
enough there ts count catalog same counted theirs =
    omega (arith, ap length same, counted, tables_counted catalog, ap length theirs, length-map ts (λ (t : Table). t.definition))

pub counters_fit : (ts there : List Table) (counters old : List Counter) (catalog : List Object) → counters ≡ started_all there → there ≡ ts → definitions_of ts ≡ definitions_in catalog
    → tables_of old ≡ counted_names (definitions_in catalog) → tables_of counters ≡ tables_of old
counters_fit ts there counters old catalog is same theirs counted =
    ap (λ (cs : List Counter). tables_of cs) (is ∙ ap (λ (us : List Table). started_all us) same) ∙ names_started ts
    ∙ ap (λ (ds : List TableDef). counted_names ds) theirs ∙ sym counted
