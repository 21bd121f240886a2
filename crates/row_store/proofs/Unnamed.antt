-- What is done by the place of a table, where it is asked for by its name.
use Rattle.std.proofs.Common.{◌≡◌, ℕ, List, true, false, Option, Some, None, sym, ap, ◌∙◌}
use Rattle.std.specs.Prelude.{is_some}
use Rattle.std.specs.Option.{option_map_or}
use Rattle.std.proofs.lemmas.Bool.{true≢false}
use Rattle.val_types.specs.declared.value.Value.{Value}
use Rattle.val_types.specs.declared.change.Change.{Change}
use Rattle.val_types.specs.Changes.{table_of, inverse}
use Rattle.table_rules.specs.Tables.{Table}
use Rattle.table_rules.specs.Changes.{rows_after, applied}
use Rattle.table_rules.specs.Stored.{table_named, fits_table}
use Rattle.table_rules.specs.Stores.{place_of, fits_at}
use Rattle.table_rules.proofs.Places.{fits_by_place, none_named}
use Rattle.table_rules.proofs.Storing.{applied_where}
use Rattle.row_store.proofs.Beside.{inverse_name}

pub fits_place : (name : List ℕ) (row : List Value) (ts : List Table) (at : ℕ) → place_of name ts ≡ Some at → fits_table name row ts ≡ true → fits_at at row ts ≡ true
fits_place name row ts at e fits = fits_by_place name row ts at e ∙ fits

-- a change can be made to no table
pub none_applied : (change : Change) (ts : List Table) → place_of (table_of change) ts ≡ None → is_some (applied (inverse change) ts) ≡ true → ⊥
none_applied change ts e step =
    true≢false (sym step ∙ applied_where (inverse change) ts
    ∙ ap (λ (o : Option Table). option_map_or (λ (t : Table). is_some (rows_after t.definition (inverse change) t.rows)) o false)
    (ap (λ (n : List ℕ). table_named n ts) (inverse_name change) ∙ none_named (table_of change) ts e))
