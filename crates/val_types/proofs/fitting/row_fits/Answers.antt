use Rattle.std.proofs.Common.{◌≡◌, suc, List, [], ◌∷◌, length, false, refl, sym, ap, ◌∙◌}
use Rattle.std.proofs.lemmas.Bool.{and_right}
use Rattle.val_types.specs.declared.value.Value.{Value}
use Rattle.val_types.specs.declared.definitions.ColumnDef.{ColumnDef}
use Rattle.val_types.specs.Fitting.{may_hold, row_fits}
use Rattle.val_types.proofs.fitting.row_fits.Goals as goal

-- a row that fits has as many values as there are columns
as_many : (columns : List ColumnDef) (row : List Value) → (length columns ≡ length row → ⊥) → row_fits columns row ≡ false
as_many [] [] differ = absurd (differ refl)
as_many [] (v ∷ vs) differ = refl
as_many (column ∷ columns) [] differ = refl
as_many (column ∷ columns) (v ∷ vs) differ =
    and_right (may_hold column v) (row_fits columns vs) (as_many columns vs (λ same. differ (ap suc same)))

pub returns-then-len : goal.returns-then-len
returns-then-len c =
    sym (as_many c.args.columns.now c.args.row.now (λ same. c.if-len.true (c.len.ensures ∙ same ∙ sym c.len-2.ensures)))
