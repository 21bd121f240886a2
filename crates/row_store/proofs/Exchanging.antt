-- A row that stands just so, put in the place of and taken out.
use Rattle.std.proofs.Common.{◌≡◌, ℕ, List, get_or, Bool, true, false, cond, Option, Some, Result, Ok, Err, refl, sym, ap, subst, ◌∙◌}
use Rattle.std.specs.Prelude.{slice_set}
use Rattle.val_types.specs.declared.value.Value.{Value}
use Rattle.val_types.specs.declared.change.Change.{Change}
use Rattle.val_types.specs.declared.change.Change.TheVariants.{Update, Delete}
use Rattle.val_types.specs.Fitting.{row_fits}
use Rattle.val_types.specs.Keys.{primary_key}
use Rattle.table_rules.specs.Tables.{Table}
use Rattle.table_rules.specs.Stored.{Obstacle, row_absent, table_named, rows_beside, key_in_way, where_found, unless_taken, replacement, deletion}
use Rattle.table_rules.specs.Stores.{place_of}
use Rattle.table_rules.proofs.Equations.{replacement_by, deletion_by}
use Rattle.row_store.specs.declared.refusal.RowRefusal.{RowRefusal}
use Rattle.row_store.specs.declared.refusal.RowRefusal.TheVariants.{Absent}
use Rattle.row_store.specs.declared.shelf.Shelf.{Shelf}
use Rattle.table_sheet.specs.Pages.{rows_on}
use Rattle.table_sheet.proofs.Exchanged.{row_standing}
use Rattle.row_store.specs.Shelves.{table_on, tables_on, store_of, Replaced, Deleted}
use Rattle.row_store.specs.Stores.{Stores, is_standing, exchange, exchange_in, removal, removal_in}
use Rattle.row_store.proofs.Swapping.{shelf_named, swap, same_name}
use Rattle.row_store.proofs.Storing.{table_found, shelf_same, update_stored}
use Rattle.row_store.proofs.Shelved.{shelf_at, set_at, delete_by}

-- ---- by the table that is found

pub exchange_by : (name : List ℕ) (old new : List Value) (ts : List Table) (o : Option Table) → table_named name ts ≡ o → exchange name old new ts ≡ where_found o (exchange_in name old new)
unfolding exchange
exchange_by name old new ts o e = ap (λ (t : Option Table). where_found t (exchange_in name old new)) e

pub removal_by : (name : List ℕ) (row : List Value) (ts : List Table) (o : Option Table) → table_named name ts ≡ o → removal name row ts ≡ where_found o (removal_in name row)
unfolding removal
removal_by name row ts o e = ap (λ (t : Option Table). where_found t (removal_in name row)) e

abbrev way_of : Table → List Value → List Value → Option ℕ
way_of t old new = key_in_way t.definition new (rows_beside t.definition (primary_key t.definition old) t.rows)

pub exchange_as : (name : List ℕ) (old new : List Value) (ts : List Table) (t : Table) (b : Bool) → table_named name ts ≡ Some t → is_standing t.definition old t.rows ≡ b
    → exchange name old new ts ≡ cond b (unless_taken (way_of t old new) (Update name old new)) (Err row_absent)
exchange_as name old new ts t b e there =
    exchange_by name old new ts (Some t) e ∙ ap (λ (c : Bool). cond c (unless_taken (way_of t old new) (Update name old new)) (Err row_absent)) there

pub removal_as : (name : List ℕ) (row : List Value) (ts : List Table) (t : Table) (b : Bool) → table_named name ts ≡ Some t → is_standing t.definition row t.rows ≡ b
    → removal name row ts ≡ cond b (Ok (Delete name row)) (Err row_absent)
removal_as name row ts t b e there = removal_by name row ts (Some t) e ∙ ap (λ (c : Bool). cond c (Ok (Delete name row)) (Err row_absent)) there

-- where it stands, it is the replacement of the row of its key
exchange_replaces : (name : List ℕ) (old new : List Value) (ts : List Table) (t : Table) → table_named name ts ≡ Some t → is_standing t.definition old t.rows ≡ true
    → replacement name (primary_key t.definition old) new ts ≡ exchange name old new ts
exchange_replaces name old new ts t e there =
    replacement_by name (primary_key t.definition old) new ts (Some t) e
    ∙ ap (λ (r : Option (List Value)). where_found r (λ before. unless_taken (way_of t old new) (Update name before new))) (row_standing t.definition old t.rows there)
    ∙ sym (exchange_as name old new ts t true e there)

-- or its deletion
removal_deletes : (name : List ℕ) (row : List Value) (ts : List Table) (t : Table) → table_named name ts ≡ Some t → is_standing t.definition row t.rows ≡ true
    → deletion name (primary_key t.definition row) ts ≡ removal name row ts
removal_deletes name row ts t e there =
    deletion_by name (primary_key t.definition row) ts (Some t) e
    ∙ ap (λ (r : Option (List Value)). where_found r (λ found. Ok (Delete name found))) (row_standing t.definition row t.rows there)
    ∙ sym (removal_as name row ts t true e there)

-- ---- on the shelf of the table

exchange_case : (b : Bool) (r : Result (Unit {0}) RowRefusal) (name : List ℕ) (old new : List Value) (ss : List Shelf) (s after : Shelf)
    → shelf_named name ss ≡ Some s → same_name s after → row_fits s.sheet.definition.columns new ≡ true → is_standing s.sheet.definition old (rows_on s.sheet) ≡ b
    → (b ≡ true → Replaced r s.sheet.definition (primary_key s.sheet.definition old) new (rows_on s.sheet) (rows_on after.sheet))
    → (b ≡ false → (r ≡ Err Absent) × (rows_on after.sheet ≡ rows_on s.sheet))
    → Stores r (exchange name old new (tables_on ss)) (tables_on ss) (tables_on (swap name after ss))
exchange_case true r name old new ss s after found same fits e there absent =
    subst (λ (step : Result Change Obstacle). Stores r step (tables_on ss) (tables_on (swap name after ss)))
    (exchange_replaces name old new (tables_on ss) (table_on s) (table_found name ss s found) e)
    (update_stored r name (primary_key s.sheet.definition old) new ss s after found same fits (there refl))
exchange_case false r name old new ss s after found same fits e there absent =
    let none = absent refl in
    subst (λ (q : Result (Unit {0}) RowRefusal). Stores q (exchange name old new (tables_on ss)) (tables_on ss) (tables_on (swap name after ss))) (sym none.0)
    (exchange_as name old new (tables_on ss) (table_on s) false (table_found name ss s found) e, shelf_same name ss s after found same none.1)

removal_case : (b : Bool) (r : Result (Unit {0}) RowRefusal) (name : List ℕ) (row : List Value) (ss : List Shelf) (s after : Shelf)
    → shelf_named name ss ≡ Some s → same_name s after → is_standing s.sheet.definition row (rows_on s.sheet) ≡ b
    → (b ≡ true → Deleted r s.sheet.definition (primary_key s.sheet.definition row) (rows_on s.sheet) (rows_on after.sheet))
    → (b ≡ false → (r ≡ Err Absent) × (rows_on after.sheet ≡ rows_on s.sheet))
    → Stores r (removal name row (tables_on ss)) (tables_on ss) (tables_on (swap name after ss))
removal_case true r name row ss s after found same e there absent =
    subst (λ (step : Result Change Obstacle). Stores r step (tables_on ss) (tables_on (swap name after ss)))
    (removal_deletes name row (tables_on ss) (table_on s) (table_found name ss s found) e)
    (delete_by r name (primary_key s.sheet.definition row) ss s after found same (there refl))
removal_case false r name row ss s after found same e there absent =
    let none = absent refl in
    subst (λ (q : Result (Unit {0}) RowRefusal). Stores q (removal name row (tables_on ss)) (tables_on ss) (tables_on (swap name after ss))) (sym none.0)
    (removal_as name row (tables_on ss) (table_on s) false (table_found name ss s found) e, shelf_same name ss s after found same none.1)

-- ---- at a place

pub stored_exchange : (r : Result (Unit {0}) RowRefusal) (old new : List Value) (ss : List Shelf) (at : ℕ) (s after : Shelf)
    → s ≡ get_or ss at s → same_name s after → row_fits s.sheet.definition.columns new ≡ true
    → (is_standing s.sheet.definition old (rows_on s.sheet) ≡ true → Replaced r s.sheet.definition (primary_key s.sheet.definition old) new (rows_on s.sheet) (rows_on after.sheet))
    → (is_standing s.sheet.definition old (rows_on s.sheet) ≡ false → (r ≡ Err Absent) × (rows_on after.sheet ≡ rows_on s.sheet))
    → (name : List ℕ) → place_of name (store_of ss).tables ≡ Some at
    → Stores r (exchange name old new (store_of ss).tables) (store_of ss).tables (store_of (slice_set ss at after)).tables
unfolding store_of
stored_exchange r old new ss at s after is same fits there absent name e =
    subst (λ (shelves : List Shelf). Stores r (exchange name old new (tables_on ss)) (tables_on ss) (tables_on shelves)) (sym (set_at name ss at after e))
    (exchange_case (is_standing s.sheet.definition old (rows_on s.sheet)) r name old new ss s after (shelf_at name ss at s e is) same fits refl there absent)

pub stored_removal : (r : Result (Unit {0}) RowRefusal) (row : List Value) (ss : List Shelf) (at : ℕ) (s after : Shelf)
    → s ≡ get_or ss at s → same_name s after
    → (is_standing s.sheet.definition row (rows_on s.sheet) ≡ true → Deleted r s.sheet.definition (primary_key s.sheet.definition row) (rows_on s.sheet) (rows_on after.sheet))
    → (is_standing s.sheet.definition row (rows_on s.sheet) ≡ false → (r ≡ Err Absent) × (rows_on after.sheet ≡ rows_on s.sheet))
    → (name : List ℕ) → place_of name (store_of ss).tables ≡ Some at
    → Stores r (removal name row (store_of ss).tables) (store_of ss).tables (store_of (slice_set ss at after)).tables
unfolding store_of
stored_removal r row ss at s after is same there absent name e =
    subst (λ (shelves : List Shelf). Stores r (removal name row (tables_on ss)) (tables_on ss) (tables_on shelves)) (sym (set_at name ss at after e))
    (removal_case (is_standing s.sheet.definition row (rows_on s.sheet)) r name row ss s after (shelf_at name ss at s e is) same refl there absent)
