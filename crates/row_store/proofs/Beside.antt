-- The keys of other tables, tables added, and requests that a change can be taken back.
use Rattle.std.proofs.Common.{◌≡◌, ℕ, zero, suc, List, [], ◌∷◌, ◌++◌, get_or, Bool, true, false, cond, Option, Some, None, Result, Ok, Err, refl, sym, ap, ◌∙◌, IfOk, OnOk, OnErr}
use Rattle.std.specs.Prelude.{slice_set, is_some, nat_eq, position}
use Rattle.std.specs.List.{remove}
use Rattle.std.specs.Option.{option_map_or}
use Rattle.std.specs.Cmp.Lexicographic.{pointwise}
use Rattle.std.proofs.lemmas.Bool.{true≢false, false_from_ne_true}
use Rattle.std.proofs.lemmas.List.{map-append}
use Rattle.val_types.specs.declared.value.Value.{Value}
use Rattle.val_types.specs.declared.definitions.TableDef.{TableDef}
use Rattle.val_types.specs.declared.change.Change.{Change}
use Rattle.val_types.specs.declared.change.Change.TheVariants.{Insert, Update, Delete}
use Rattle.val_types.specs.Keys.{primary_key}
use Rattle.val_types.specs.Lookup.{remove_first}
use Rattle.val_types.proofs.Lookup.{removed}
use Rattle.table_rules.specs.Tables.{Table}
use Rattle.table_rules.specs.Changes.{rows_after, applied}
use Rattle.val_types.specs.Changes.{table_of, inverse}
use Rattle.table_rules.proofs.Places.{name_is, name_self}
use Rattle.table_rules.proofs.Storing.{applied_where}
use Rattle.row_store.specs.declared.shelf.Shelf.{Shelf}
use Rattle.table_sheet.specs.Pages.{rows_on, has_entry}
use Rattle.row_store.specs.Shelves.{table_on, tables_on, is_named, has_entry_for}
use Rattle.row_store.proofs.Swapping.{kept_on, shelf_named, swap, same_name, later_kept, named_same, keeps_here}
use Rattle.row_store.proofs.Storing.{table_found, no_table}

-- ---- names

-- a shelf of one name has no other
other_named : (name other : List ℕ) (s : Shelf) → pointwise nat_eq name other ≡ false → is_named name s ≡ true → is_named other s ≡ false
other_named name other s differ e =
    false_from_ne_true (is_named other s) (λ f.
    let same : name ≡ other = name_is name s.sheet.definition.name e ∙ sym (name_is other s.sheet.definition.name f) in
    true≢false (sym (name_self name) ∙ ap (pointwise nat_eq name) same ∙ differ))

beside_step : (here : Bool) (name other : List ℕ) (row : List Value) (s old new : Shelf) (ss : List Shelf) → pointwise nat_eq name other ≡ false → is_named name s ≡ here → same_name old new
    → (shelf_named name ss ≡ Some old → kept_on other row (swap name new ss) ≡ kept_on other row ss)
    → cond here (Some s) (shelf_named name ss) ≡ Some old
    → kept_on other row (cond here (new ∷ ss) (s ∷ swap name new ss)) ≡ kept_on other row (s ∷ ss)
beside_step true name other row s old new ss differ e same later found =
    let first : s ≡ old = cc in
    let not_new : is_named other new ≡ false = named_same other old new same ∙ ap (is_named other) (sym first) ∙ other_named name other s differ e in
    later_kept other row new ss not_new ∙ sym (later_kept other row s ss (other_named name other s differ e))
beside_step false name other row s old new ss differ e same later found =
    ap (λ (b : Bool). cond (is_named other s) (has_entry_for row s) b) (later found)

-- the keys of other tables stay as they were where a shelf is swapped
pub beside_swap : (name other : List ℕ) (row : List Value) (old new : Shelf) (ss : List Shelf) → pointwise nat_eq name other ≡ false → shelf_named name ss ≡ Some old → same_name old new
    → kept_on other row (swap name new ss) ≡ kept_on other row ss
beside_swap name other row old new [] differ found same = cc
beside_swap name other row old new (s ∷ ss) differ found same =
    beside_step (is_named name s) name other row s old new ss differ refl same (λ e. beside_swap name other row old new ss differ e same) found

left_step : (here : Bool) (name other : List ℕ) (row : List Value) (s : Shelf) (ss : List Shelf) → pointwise nat_eq name other ≡ false → is_named name s ≡ here
    → kept_on other row (remove_first (is_named name) ss) ≡ kept_on other row ss
    → kept_on other row (cond here ss (s ∷ remove_first (is_named name) ss)) ≡ kept_on other row (s ∷ ss)
left_step true name other row s ss differ e later = sym (later_kept other row s ss (other_named name other s differ e))
left_step false name other row s ss differ e later = ap (λ (b : Bool). cond (is_named other s) (has_entry_for row s) b) later

left : (name other : List ℕ) (row : List Value) (ss : List Shelf) → pointwise nat_eq name other ≡ false → kept_on other row (remove_first (is_named name) ss) ≡ kept_on other row ss
left name other row [] differ = refl
left name other row (s ∷ ss) differ = left_step (is_named name s) name other row s ss differ refl (left name other row ss differ)

-- and where a shelf is taken out
pub beside_removed : (name other : List ℕ) (row : List Value) (ss : List Shelf) (at : ℕ) → position (is_named name) ss ≡ Some at → pointwise nat_eq name other ≡ false → kept_on other row (remove ss at) ≡ kept_on other row ss
beside_removed name other row ss at e differ = ap (λ (left : List Shelf). kept_on other row left) (removed (is_named name) ss at e) ∙ left name other row ss differ

more_step : (b here : Bool) (c d : Bool) → (c ≡ true → d ≡ true) → cond b here c ≡ true → cond b here d ≡ true
more_step true here c d later e = e
more_step false here c d later e = later e

-- a key that is kept stays so where a shelf is put behind
pub kept_before : (name : List ℕ) (row : List Value) (ss : List Shelf) (last : Shelf) → kept_on name row ss ≡ true → kept_on name row (ss ++ last ∷ []) ≡ true
kept_before name row [] last e = cc
kept_before name row (s ∷ ss) last e =
    more_step (is_named name s) (has_entry_for row s) (kept_on name row ss) (kept_on name row (ss ++ last ∷ [])) (kept_before name row ss last) e

-- a shelf without rows put behind
pub table_added : (ss : List Shelf) (last : Shelf) (d : TableDef) → last.sheet.definition ≡ d → rows_on last.sheet ≡ [] → tables_on (ss ++ last ∷ []) ≡ tables_on ss ++ record { definition = d; rows = [] } ∷ []
table_added ss last d same none =
    map-append table_on ss (last ∷ [])
    ∙ ap (λ (e : TableDef). tables_on ss ++ record { definition = e; rows = rows_on last.sheet } ∷ []) same
    ∙ ap (λ (rows : List (List Value)). tables_on ss ++ record { definition = d; rows = rows } ∷ []) none

set_same_step : (k : ℕ) (s new d : Shelf) (ss : List Shelf) → d ≡ get_or (s ∷ ss) k d → table_on new ≡ table_on d → ((j : ℕ) → d ≡ get_or ss j d → tables_on (slice_set ss j new) ≡ tables_on ss)
    → tables_on (slice_set (s ∷ ss) k new) ≡ tables_on (s ∷ ss)
set_same_step zero s new d ss e same later = ap (λ (t : Table). t ∷ tables_on ss) (same ∙ ap table_on e)
set_same_step (suc k) s new d ss e same later = ap (λ (ts : List Table). table_on s ∷ ts) (later k e)

-- another shelf of the same table
pub set_same : (ss : List Shelf) (k : ℕ) (new d : Shelf) → d ≡ get_or ss k d → table_on new ≡ table_on d → tables_on (slice_set ss k new) ≡ tables_on ss
set_same [] k new d e same = refl
set_same (s ∷ ss) k new d e same = set_same_step k s new d ss e same (λ j f. set_same ss j new d f same)

-- ---- keys kept here

pub here_kept : (name : List ℕ) (row : List Value) (old new : Shelf) (ss : List Shelf) → shelf_named name ss ≡ Some old → same_name old new → has_entry (primary_key old.sheet.definition row) new.sheet ≡ true
    → kept_on name row (swap name new ss) ≡ true
here_kept name row old new ss found same slot =
    keeps_here name row old new ss found same ∙ ap (λ (d : TableDef). has_entry (primary_key d row) new.sheet) same ∙ slot

pub on_ok : {A E : Type 0} (r : Result A E) (P Q : Type 0) → (P → Q) → OnOk r P → OnOk r Q
on_ok (Ok a) P Q f p = f p
on_ok (Err e) P Q f p = p

pub if_ok : {A E : Type 0} (r : Result A E) (P Q : A → Type 0) → ((a : A) → P a → Q a) → IfOk r P → IfOk r Q
if_ok (Ok a) P Q f p = f a p
if_ok (Err e) P Q f p = p

pub on_err : {A E : Type 0} (r : Result A E) (P : Type 0) → P → OnErr r P
on_err (Ok a) P p = tt
on_err (Err e) P p = p

-- ---- taking back

pub inverse_name : (change : Change) → table_of (inverse change) ≡ table_of change
inverse_name (Insert name row) = refl
inverse_name (Update name before after) = refl
inverse_name (Delete name row) = refl

-- a change that can be made to the tables can be made to the rows on its shelf
pub step_here : (change : Change) (ss : List Shelf) (s : Shelf) → shelf_named (table_of change) ss ≡ Some s → is_some (applied change (tables_on ss)) ≡ true
    → is_some (rows_after s.sheet.definition change (rows_on s.sheet)) ≡ true
step_here change ss s found e =
    sym (ap (λ (o : Option Table). option_map_or (λ (t : Table). is_some (rows_after t.definition change t.rows)) o false) (table_found (table_of change) ss s found))
    ∙ sym (applied_where change (tables_on ss)) ∙ e

pub no_step : (change : Change) (ss : List Shelf) → shelf_named (table_of change) ss ≡ None → is_some (applied change (tables_on ss)) ≡ true → ⊥
no_step change ss none e =
    true≢false (sym e ∙ applied_where change (tables_on ss)
    ∙ ap (λ (o : Option Table). option_map_or (λ (t : Table). is_some (rows_after t.definition change t.rows)) o false) (no_table (table_of change) ss none))
