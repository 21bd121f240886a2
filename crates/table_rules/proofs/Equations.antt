-- What storing a row comes to by the table that is there, and changes one after the other, one equation a case.
use Rattle.std.proofs.Common.{◌≡◌, ℕ, List, [], ◌∷◌, ◌++◌, Option, Some, None, Ok, Err, refl, sym, ap, ◌∙◌}
use Rattle.std.specs.Option.{option_and_then}
use Rattle.val_types.specs.declared.value.Value.{Value}
use Rattle.val_types.specs.declared.change.Change.{Change}
use Rattle.val_types.specs.declared.change.Change.TheVariants.{Update, Delete}
use Rattle.table_rules.specs.Tables.{Table}
use Rattle.table_rules.specs.Changes.{applied}
use Rattle.table_rules.specs.Stored.{table_named, row_of_key, row_at, rows_beside, key_in_way, row_absent, where_found, unless_taken, insertion_in, replacement_in, deletion_in, insertion, replacement, deletion, all_applied}

-- ---- storing a row

-- by the table that is found, or that none is
pub insertion_by : (name : List ℕ) (row : List Value) (ts : List Table) (o : Option Table) → table_named name ts ≡ o → insertion name row ts ≡ where_found o (insertion_in name row)
unfolding insertion
insertion_by name row ts o e = ap (λ (t : Option Table). where_found t (insertion_in name row)) e

pub replacement_by : (name : List ℕ) (key row : List Value) (ts : List Table) (o : Option Table) → table_named name ts ≡ o → replacement name key row ts ≡ where_found o (replacement_in name key row)
unfolding replacement
replacement_by name key row ts o e = ap (λ (t : Option Table). where_found t (replacement_in name key row)) e

pub deletion_by : (name : List ℕ) (key : List Value) (ts : List Table) (o : Option Table) → table_named name ts ≡ o → deletion name key ts ≡ where_found o (deletion_in name key)
unfolding deletion
deletion_by name key ts o e = ap (λ (t : Option Table). where_found t (deletion_in name key)) e

-- where there is no table of the name
pub none_inserted : (name : List ℕ) (row : List Value) (ts : List Table) → table_named name ts ≡ None → insertion name row ts ≡ Err row_absent
none_inserted name row ts e = insertion_by name row ts None e

pub none_replaced : (name : List ℕ) (key row : List Value) (ts : List Table) → table_named name ts ≡ None → replacement name key row ts ≡ Err row_absent
none_replaced name key row ts e = replacement_by name key row ts None e

pub none_deleted : (name : List ℕ) (key : List Value) (ts : List Table) → table_named name ts ≡ None → deletion name key ts ≡ Err row_absent
none_deleted name key ts e = deletion_by name key ts None e

-- by the row of the key that is found, or that none is
deleted_in : (o : Option Table) (name : List ℕ) (key : List Value) (r : Option (List Value)) → option_and_then (λ (t : Table). row_of_key t.definition key t.rows) o ≡ r
    → where_found o (deletion_in name key) ≡ where_found r (λ row. Ok (Delete name row))
deleted_in None name key r e = ap (λ (s : Option (List Value)). where_found s (λ row. Ok (Delete name row))) e
deleted_in (Some t) name key r e = ap (λ (s : Option (List Value)). where_found s (λ row. Ok (Delete name row))) e

pub deletion_by_row : (name : List ℕ) (key : List Value) (ts : List Table) (r : Option (List Value)) → row_at name key ts ≡ r → deletion name key ts ≡ where_found r (λ row. Ok (Delete name row))
deletion_by_row name key ts r e = deletion_by name key ts (table_named name ts) refl ∙ deleted_in (table_named name ts) name key r e

not_replaced_in : (o : Option Table) (name : List ℕ) (key row : List Value) → option_and_then (λ (t : Table). row_of_key t.definition key t.rows) o ≡ None
    → where_found o (replacement_in name key row) ≡ Err row_absent
not_replaced_in None name key row e = refl
not_replaced_in (Some t) name key row e =
    ap (λ (r : Option (List Value)). where_found r (λ before. unless_taken (key_in_way t.definition row (rows_beside t.definition key t.rows)) (Update name before row))) e

-- where there is no row of the key
pub not_replaced : (name : List ℕ) (key row : List Value) (ts : List Table) → row_at name key ts ≡ None → replacement name key row ts ≡ Err row_absent
not_replaced name key row ts e = replacement_by name key row ts (table_named name ts) refl ∙ not_replaced_in (table_named name ts) name key row e

pub not_deleted : (name : List ℕ) (key : List Value) (ts : List Table) → row_at name key ts ≡ None → deletion name key ts ≡ Err row_absent
not_deleted name key ts e = deletion_by_row name key ts None e

-- ---- changes one after the other

-- no change leaves the tables
pub applied_none : (ts : List Table) → all_applied [] ts ≡ Some ts
unfolding all_applied
applied_none ts = refl

-- a change in front of others is made first
pub applied_front : (x : Change) (xs : List Change) (ts : List Table) → all_applied (x ∷ xs) ts ≡ option_and_then (all_applied xs) (applied x ts)
unfolding all_applied
applied_front x xs ts = refl

applied_one_by : (o : Option (List Table)) → option_and_then (all_applied []) o ≡ o
applied_one_by None = refl
applied_one_by (Some ts) = applied_none ts

-- one change alone
pub applied_one : (x : Change) (ts : List Table) → all_applied (x ∷ []) ts ≡ applied x ts
applied_one x ts = applied_front x [] ts ∙ applied_one_by (applied x ts)

behind_step : (xs ys : List Change) (o : Option (List Table))
    → ((ts : List Table) → all_applied (xs ++ ys) ts ≡ option_and_then (all_applied ys) (all_applied xs ts))
    → option_and_then (all_applied (xs ++ ys)) o ≡ option_and_then (all_applied ys) (option_and_then (all_applied xs) o)
behind_step xs ys None later = refl
behind_step xs ys (Some ts) later = later ts

-- changes behind others are made to what the others leave
pub all_applied_behind : (xs ys : List Change) (ts : List Table) → all_applied (xs ++ ys) ts ≡ option_and_then (all_applied ys) (all_applied xs ts)
all_applied_behind [] ys ts = sym (ap (option_and_then (all_applied ys)) (applied_none ts))
all_applied_behind (x ∷ xs) ys ts =
    applied_front x (xs ++ ys) ts
    ∙ behind_step xs ys (applied x ts) (all_applied_behind xs ys)
    ∙ sym (ap (option_and_then (all_applied ys)) (applied_front x xs ts))

-- the equations, for those who speak of all this without its bodies
pub ruleset storing = (insertion_by, replacement_by, deletion_by, none_inserted, none_replaced, none_deleted, deletion_by_row, not_replaced, not_deleted, applied_none, applied_front, applied_one, all_applied_behind)
