-- The index of a unique key where the slots of its rows change at one key, and the number there is taken out or put.
use Rattle.std.proofs.Common.{◌≡◌, ℕ, List, [], Option, Some, None, sym, ap, subst, ◌∙◌}
use Rattle.std.specs.Option.{option_and_then}
use Rattle.val_types.specs.declared.value.Value.{Value}
use Rattle.val_types.specs.declared.definitions.KeyDef.{KeyDef}
use Rattle.row_index.specs.block_list.Layouts.{Layout, flat, holds}
use Rattle.row_index.specs.row_sheets.Slots.{Slot, held, rows_in}
use Rattle.row_index.specs.row_sheets.Claims.{row_under}
use Rattle.row_index.specs.row_indexes.Indexes.{IsIndexOf}
use Rattle.row_index.specs.row_indexes.IndexLaws.{DifferAt}
use Rattle.row_index.specs.Numbers.{number_slots}
use Rattle.row_index.proofs.Changing.{values_free, row_put, row_taken, none_moved}
use Rattle.table_sheet.specs.Indexed.{IsLeft, IsEntered}

under_some : (o : Option (Option (List Value))) (row : List Value) → option_and_then (λ (r : Option (List Value)). r) o ≡ Some row → o ≡ Some (Some row)
under_some None row e = cc
under_some (Some None) row e = cc
under_some (Some (Some other)) row e = let same : other ≡ row = cc in ap (λ (r : List Value). Some (Some r)) same

-- the row that a key has
pub has_row_under : (key row : List Value) (ss : List Slot) → row_under key ss ≡ Some row → held key ss ≡ Some (Some row)
has_row_under key row ss e = under_some (held key ss) row e

-- a key without one
pub none_under : (key : List Value) (ss : List Slot) → row_under key ss ≡ None → (other : List Value) → held key ss ≡ Some (Some other) → ⊥
none_under key ss none other has = let never : None ≡ Some other = sym none ∙ ap (option_and_then (λ (r : Option (List Value)). r)) has in cc

module _ (u : KeyDef) (row_at : ℕ → Option (List Value)) (key : List Value) (old new : List Slot) (l m : Layout) (differ : DifferAt u key old new) where
  pub left_index : (was : Option (List Value)) → IsLeft u row_at was l m → row_under key old ≡ was → row_under key new ≡ None
      → IsIndexOf u (number_slots u row_at (flat l.blocks)) (rows_in old) → IsIndexOf u (number_slots u row_at (flat m.blocks)) (rows_in new)
  left_index None left has gone are =
      subst (λ (x : Layout). IsIndexOf u (number_slots u row_at (flat x.blocks)) (rows_in new)) (sym left)
      (none_moved u key [] old new (number_slots u row_at (flat l.blocks)) differ (none_under key old has) (none_under key new gone) are)
  left_index (Some row) left has gone are =
      subst (λ (x : List Slot). IsIndexOf u x (rows_in new)) (sym left.slots)
      (row_taken u key row old new (number_slots u row_at (flat l.blocks)) differ (has_row_under key row old has) (none_under key new gone) are)

  pub entered_index : (p : Option (List Value)) → IsEntered u row_at p l m → row_under key old ≡ None → row_under key new ≡ p
      → IsIndexOf u (number_slots u row_at (flat l.blocks)) (rows_in old) → IsIndexOf u (number_slots u row_at (flat m.blocks)) (rows_in new)
  entered_index None entered free has are =
      subst (λ (x : Layout). IsIndexOf u (number_slots u row_at (flat x.blocks)) (rows_in new)) (sym entered)
      (none_moved u key [] old new (number_slots u row_at (flat l.blocks)) differ (none_under key old free) (none_under key new has) are)
  entered_index (Some row) entered free has are =
      subst (λ (x : List Slot). IsIndexOf u x (rows_in new))
      (sym (entered.slots (values_free u key row old new (number_slots u row_at (flat l.blocks)) differ (none_under key old free) (has_row_under key row new has) are)))
      (row_put u key row old new (number_slots u row_at (flat l.blocks)) differ (none_under key old free) (has_row_under key row new has) are)

pub left_holds : (u : KeyDef) (row_at : ℕ → Option (List Value)) (was : Option (List Value)) (l m : Layout) → IsLeft u row_at was l m → holds m ≡ holds l
left_holds u row_at None l m left = ap holds left
left_holds u row_at (Some row) l m left = left.holds

pub entered_holds : (u : KeyDef) (row_at : ℕ → Option (List Value)) (p : Option (List Value)) (l m : Layout) → IsEntered u row_at p l m → holds m ≡ holds l
entered_holds u row_at None l m entered = ap holds entered
entered_holds u row_at (Some row) l m entered = entered.holds
