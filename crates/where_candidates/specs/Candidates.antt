-- What the rows are that a WHERE has to look at.
use Rattle.std.specs.Prelude.{◌≡◌, ℕ, suc, List, [], ◌∷◌, filter, Option, Some, None, option_to_list, Result, Ok, Err}
use Rattle.std.specs.Option.{option_map, option_or}
use Rattle.std.specs.Borrow.{Bor}
use Rattle.val_types.specs.declared.value.Value.{Value}
use Rattle.val_types.specs.declared.refusal.SqlRefusal.{SqlRefusal}
use Rattle.val_types.specs.declared.refusal.SqlRefusal.TheVariants.{Sql, NoMemory}
use Rattle.val_types.specs.declared.definitions.KeyDef.{KeyDef}
use Rattle.val_types.specs.declared.definitions.TableDef.{TableDef}
use Rattle.table_rules.specs.Tables.{Table}
use Rattle.table_rules.specs.Stored.{row_at, table_named}
use Rattle.row_store.specs.Found.{found_with}
use Rattle.value_ranges.specs.Ranges.{Range, everything}
use Rattle.value_ranges.specs.Keys.{row_is_in}
use Rattle.sql_tree.specs.Tree.{Tree, Part, no_part, part}
use Rattle.sql_tree.specs.View.{view_tree}
use Rattle.sql_tree.specs.declared.expressions.Expr.{Expr}
use Rattle.where_ranges.specs.where_keys.sql_meaning.Scenes.{Scene, kept_by}
use Rattle.where_ranges.specs.where_keys.sql_meaning.Frames.{World, Frame}
use Rattle.where_ranges.specs.where_keys.where_laws.Laws.{kept_where}
use Rattle.where_ranges.specs.where_keys.declared.outside.Outside.{Outside}
use Rattle.where_ranges.specs.where_keys.Sides.{IsRound}
use Rattle.where_ranges.specs.where_keys.Keys.{key_in}
use Rattle.where_ranges.specs.Saying.{key_range}
use Rattle.where_candidates.specs.declared.seeing.Named.{Named}
use Rattle.where_candidates.specs.declared.seeing.SeenTable.{SeenTable}

-- a condition that may be none
abbrev pub part_if : Option (Bor Expr) → Part
part_if None = no_part
part_if (Some e) = part (view_tree e.now)

-- the primary key that a WHERE names
abbrev pub key_of_part : Outside → TableDef → Part → Option (List Value)
key_of_part outside d no_part = None
key_of_part outside d (part t) = key_in outside d t d.primary

-- the first of some unique keys of which a condition names each value, by its number, with the values
abbrev pub first_named : Outside → TableDef → Tree → ℕ → List KeyDef → Option Named
first_named outside d t which [] = None
first_named outside d t which (key ∷ keys) = option_or (option_map (λ (values : List Value). record { which = which; values = values }) (key_in outside d t key.columns)) (first_named outside d t (suc which) keys)

-- the first unique key that a WHERE names, counted from 1, with its values
abbrev pub unique_of_part : Outside → TableDef → Part → Option Named
unique_of_part outside d no_part = None
unique_of_part outside d (part t) = first_named outside d t 1 d.uniques

-- the range that a WHERE says of the first column of the primary key
abbrev pub range_of_part : Outside → TableDef → Part → Range
range_of_part outside d no_part = everything
range_of_part outside d (part t) = key_range outside d t

-- Rows that are all that a WHERE over the table of a name has to look at: of them it keeps the same ones as of all rows, with the same
-- scene or error behind it, in whatever scene, and whatever else is round it. Where it names a primary key, they are the row of that key
-- alone; else where it names each value of a unique key, they are the row that has these; else they are the rows within the range that it
-- says of the first column of the primary key.
pub record AreCandidates (outside : Outside) (name : List ℕ) (d : TableDef) (p : Part) (tables : List Table) (rows : List (List Value)) : Type 0 where
  pub all : List (List Value)
  pub there : table_named name tables ≡ Some (record { definition = d; rows = all })
  pub enough :
      (world : World) (frame : Frame) → IsRound outside world frame → (scene : Scene)
      → kept_by (kept_where world frame d p) all scene ≡ kept_by (kept_where world frame d p) rows scene
  pub alone : (key : List Value) → key_of_part outside d p ≡ Some key → rows ≡ option_to_list (row_at name key tables)
  pub lone :
      (named : Named) → key_of_part outside d p ≡ None → unique_of_part outside d p ≡ Some named
      → rows ≡ option_to_list (found_with name named.which named.values tables)
  pub within : key_of_part outside d p ≡ None → unique_of_part outside d p ≡ None → rows ≡ filter (row_is_in d (range_of_part outside d p)) all

-- a table with its candidates, or 1146 where there is none of the name; or memory is short
abbrev pub Sees : Outside → List ℕ → Part → List Table → Result SeenTable SqlRefusal → Type 0
Sees outside name p tables (Ok t) = AreCandidates outside name t.definition p tables t.rows
Sees outside name p tables (Err (Sql code)) = (code ≡ 1146) × (table_named name tables ≡ None)
Sees outside name p tables (Err NoMemory) = Unit {0}
