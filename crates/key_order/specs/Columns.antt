-- Expressions that are columns of the primary key, and what is read at a table's ends for them.
use Rattle.std.specs.Prelude.{ℕ, ◌-◌, ◌^◌, Bool, true, false, ◌&&◌, ◌==◌, if◌then◌else◌, nat_le, List, [], ◌∷◌, length, Option, Some, None, pos, slice_get, slice_index_or}
use Rattle.std.specs.Option.{option_map, option_and_then}
use Rattle.std.specs.Bool.{beq}
use Rattle.val_types.specs.declared.value.Value.{Value}
use Rattle.val_types.specs.declared.value.Value.TheVariants.{Null, Int}
use Rattle.val_types.specs.declared.definitions.ColumnDef.{ColumnDef}
use Rattle.val_types.specs.declared.definitions.TableDef.{TableDef}
use Rattle.val_types.specs.declared.ops.Agg.{Agg}
use Rattle.val_types.specs.declared.ops.Agg.TheVariants.{Count, Sum, Min, Max}
use Rattle.sql_tree.specs.Tree.{Tree, name, column}
use Rattle.sql_locals.specs.Locals.{find_local}
use Rattle.where_candidates.specs.session_ctx.sql_meaning.catalog_rules.Names.{same_name, place_among}
use Rattle.where_candidates.specs.session_ctx.sql_meaning.catalog_rules.Objects.{columns_of}
use Rattle.where_candidates.specs.where_keys.declared.outside.Outside.{Outside}

-- ---- columns

-- whether a place that may be none is that one
abbrev pub is_place : ℕ → Option ℕ → Bool
is_place place None = false
is_place place (Some found) = found == place

-- whether the column at a place has a name
abbrev pub is_named : TableDef → ℕ → List ℕ → Bool
is_named d place n = is_place place (place_among (columns_of d) n)

-- whether an expression is the column at a place: by its name, where no local has it, or with its table's before it
abbrev pub is_column : Outside → TableDef → ℕ → Tree → Bool
is_column outside d place (name n) = elim (find_local outside.locals.now n) [ None ↦ is_named d place n | Some l ↦ false ]
is_column outside d place (column t c) = same_name t d.name && is_named d place c
is_column outside d place t = false

-- whether the items of ORDER BY are just the columns at some places, in this order, all falling or all rising
abbrev pub are_columns : Outside → TableDef → Bool → List (Tree × Bool) → List ℕ → Bool
are_columns outside d down [] [] = true
are_columns outside d down [] (place ∷ places) = false
are_columns outside d down (x ∷ xs) [] = false
are_columns outside d down (x ∷ xs) (place ∷ places) = beq x.1 down && is_column outside d place x.0 && are_columns outside d down xs places

-- ---- the ends of a table

-- how many, where that is a number of 64 bits
abbrev pub count_in : ℕ → Option Value
count_in n = if nat_le n (2 ^ 63 - 1) then Some (Int (pos n)) else None

-- the only one of some places
abbrev pub only_of : List ℕ → Option ℕ
only_of [] = None
only_of (place ∷ []) = Some place
only_of (place ∷ (more ∷ places)) = None

-- a place whose column is never NULL
abbrev pub sure_place : ℕ → Option ColumnDef → Option ℕ
sure_place place None = None
sure_place place (Some c) = if c.nullable then None else Some place

-- the place of the primary key's column, where it has just one, which is never NULL
abbrev pub key_column : TableDef → Option ℕ
key_column d = option_and_then (λ (place : ℕ). sure_place place (slice_get d.columns place)) (only_of d.primary)

-- the value at a place of a row that may be none
abbrev pub edge_value : ℕ → Option (List Value) → Value
edge_value place None = Null
edge_value place (Some row) = slice_index_or row place Null

-- an aggregate of the key's column
abbrev pub end_of : Agg → ℕ → List (List Value) → Option Value
end_of Count place rows = count_in (length rows)
end_of Sum place rows = None
end_of Min place rows = Some (edge_value place (slice_get rows 0))
end_of Max place rows = Some (edge_value place (slice_get rows (length rows - 1)))

-- an aggregate that is read at the ends, None where it is not
abbrev pub end_in : Outside → TableDef → List (List Value) → Option (Agg × Tree) → Option Value
end_in outside d rows None = count_in (length rows)
end_in outside d rows (Some one) = option_and_then (λ (place : ℕ). if is_column outside d place one.1 then end_of one.0 place rows else None) (key_column d)

-- each of some aggregates
abbrev pub ends_in : Outside → TableDef → List (List Value) → List (Option (Agg × Tree)) → Option (List Value)
ends_in outside d rows [] = Some []
ends_in outside d rows (one ∷ more) = option_and_then (λ v. option_map (λ (vs : List Value). v ∷ vs) (ends_in outside d rows more)) (end_in outside d rows one)
