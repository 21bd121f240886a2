-- Types of columns, one after the other.
use Rattle.std.proofs.Common.{◌≡◌, ℕ, ◌<◌, List, [], ◌∷◌, map, drop, length, get_or, Bool, false, refl, sym, ap, ◌∙◌, arith}
use Rattle.val_types.specs.declared.definitions.ColType.{ColType}
use Rattle.val_types.specs.declared.definitions.ColumnDef.{ColumnDef}
use Rattle.apply_model.specs.log_model.Images.{types_of as types_in}
use Rattle.apply_model.proofs.of_row_image.Columns.{types_step}
use Rattle.apply_model.specs.Rows.{are_same_types}

abbrev pub kinds_of : List ColumnDef → List ColType
kinds_of columns = map (λ (c : ColumnDef). c.kind) columns

no_kinds : (columns : List ColumnDef) → length columns < 1 → kinds_of columns ≡ []
no_kinds [] few = refl
no_kinds (c ∷ cs) few = absurd (omega arith)

-- the map has a column more
pub none_left : (kinds metadata : List ℕ) (i : ℕ) (columns : List ColumnDef) (whole : Bool) → i < length kinds → length columns < 1
    → are_same_types (types_in (drop i kinds) metadata) (kinds_of columns) ≡ whole → false ≡ whole
none_left kinds metadata i columns whole low few same =
    sym (ap (are_same_types (types_in (drop i kinds) metadata)) (no_kinds columns few)
    ∙ ap (λ (ks : List ColType). are_same_types ks []) (types_step kinds metadata i (get_or kinds i 0) low refl))
    ∙ same
