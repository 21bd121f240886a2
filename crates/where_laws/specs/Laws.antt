-- What conditions say first, and which rows need not be looked at for them.
use Rattle.std.specs.Prelude.{◌≡◌, ℕ, Bool, true, false, List, [], ◌++◌, filter, Option, Some, Ok, option_to_list, slice_get}
use Rattle.std.specs.List.{list_all}
use Rattle.val_types.specs.declared.value.Value.{Value}
use Rattle.val_types.specs.declared.definitions.KeyDef.{KeyDef}
use Rattle.val_types.specs.declared.definitions.TableDef.{TableDef}
use Rattle.val_types.specs.declared.ops.BinOp.TheVariants.{And}
use Rattle.val_types.specs.Fitting.{row_fits}
use Rattle.value_rules.specs.Operators.{truth_value, truth_of}
use Rattle.value_rules.specs.Functions.{is_known_true}
use Rattle.table_rules.specs.Tables.{Table, IsKept}
use Rattle.table_rules.specs.Stored.{row_of_key, row_of_values}
use Rattle.sql_tree.specs.Tree.{Tree, binary, Part}
use Rattle.sql_meaning.specs.Scenes.{Scene, Ending, Action, done, kept_by}
use Rattle.sql_meaning.specs.Frames.{World, Frame, sees}
use Rattle.sql_meaning.specs.Values.{value, is_kept}
use Rattle.where_laws.specs.Facts.{Fact, agrees}
use Rattle.where_laws.specs.Known.{Known, known, facts_of}
use Rattle.where_laws.specs.Keys.{key_named, has_values, facts_at}

-- ---- what a condition says first

-- a value that is a truth, known or not, and a scene that stays
pub record GivesTruth (scene : Scene) (truth : Option Bool) (e : Ending Value) : Type 0 where
  pub given : Value
  pub ends : e ≡ done given scene
  pub is : truth_of given ≡ Ok truth

-- A condition says first of each row that fits whether some facts are so: where they are not, it is false, and nothing changes. Where
-- that is all that it says (whole), it is just that.
pub record Guards (world : World) (frame : Frame) (d : TableDef) (whole : Bool) (facts : List Fact) (t : Tree) : Type 0 where
  pub all : whole ≡ true → (row : List Value) (scene : Scene) → row_fits d.columns row ≡ true → value world (sees d row frame) t scene ≡ done (truth_value (agrees facts row)) scene
  pub first : (row : List Value) (scene : Scene) → row_fits d.columns row ≡ true → agrees facts row ≡ false → value world (sees d row frame) t scene ≡ done (truth_value false) scene

-- on each row that fits it gives a truth, known or not, and changes nothing
pub record IsQuiet (world : World) (frame : Frame) (d : TableDef) (t : Tree) : Type 0 where
  pub gives : (row : List Value) (scene : Scene) → row_fits d.columns row ≡ true → (truth : Option Bool) × GivesTruth scene truth (value world (sees d row frame) t scene)

-- where some facts are not so of a row that fits, it is false or unknown, and nothing changes
pub record KeepsOnly (world : World) (frame : Frame) (d : TableDef) (facts : List Fact) (t : Tree) : Type 0 where
  pub gives : (row : List Value) (scene : Scene) → row_fits d.columns row ≡ true → agrees facts row ≡ false
      → (truth : Option Bool) × (is_known_true truth ≡ false) × GivesTruth scene truth (value world (sees d row frame) t scene)

-- what is known of a condition is so of it
pub record IsAsKnown (world : World) (frame : Frame) (d : TableDef) (k : Known) (t : Tree) : Type 0 where
  pub guards : Guards world frame d k.whole k.facts t
  pub calm : k.whole ≡ true → k.quiet ≡ true
  pub quiet : k.quiet ≡ true → IsQuiet world frame d t
  pub keeps : KeepsOnly world frame d k.kept t

abbrev pub KnownIsSo : Type 0
KnownIsSo = (world : World) (frame : Frame) (d : TableDef) (t : Tree) → IsAsKnown world frame d (known world frame d t) t

-- ---- how conditions are made of others

-- any condition says nothing first
abbrev pub NothingGuards : Type 0
NothingGuards = (world : World) (frame : Frame) (d : TableDef) (t : Tree) → Guards world frame d false [] t

-- AND behind one that says no more than its facts
abbrev pub WholesGuard : Type 0
WholesGuard =
    (world : World) (frame : Frame) (d : TableDef) (whole : Bool) (xs ys : List Fact) (a b : Tree)
    → Guards world frame d true xs a → Guards world frame d whole ys b → Guards world frame d whole (xs ++ ys) (binary And a b)

-- AND behind one that changes nothing, whatever it says besides
abbrev pub QuietsGuard : Type 0
QuietsGuard =
    (world : World) (frame : Frame) (d : TableDef) (whole other : Bool) (xs ys : List Fact) (a b : Tree)
    → IsQuiet world frame d a → Guards world frame d whole xs a → Guards world frame d other ys b → Guards world frame d false (xs ++ ys) (binary And a b)

-- AND behind one that may do more
abbrev pub FrontsGuard : Type 0
FrontsGuard =
    (world : World) (frame : Frame) (d : TableDef) (whole : Bool) (xs : List Fact) (a b : Tree)
    → Guards world frame d whole xs a → Guards world frame d false xs (binary And a b)

-- ---- rows that are left out

-- the test of a WHERE
abbrev pub kept_where : World → Frame → TableDef → Part → List Value → Action Bool
kept_where world frame d condition row = is_kept world (sees d row frame) condition

-- rows of which the facts are not so may be left out
abbrev pub FactsAreEnough : Type 0
FactsAreEnough =
    (world : World) (frame : Frame) (d : TableDef) (condition : Part) (stays : List Value → Bool) (rows : List (List Value)) (scene : Scene)
    → ((row : List Value) → agrees (facts_of world frame d condition) row ≡ true → stays row ≡ true)
    → list_all (row_fits d.columns) rows ≡ true
    → kept_by (kept_where world frame d condition) rows scene ≡ kept_by (kept_where world frame d condition) (filter stays rows) scene

-- so may, of the rows that are outside the range that they tell of one column
abbrev pub RangesAreEnough : Type 0
RangesAreEnough =
    (world : World) (frame : Frame) (d : TableDef) (condition : Part) (place : ℕ) (rows : List (List Value)) (scene : Scene)
    → list_all (row_fits d.columns) rows ≡ true
    → kept_by (kept_where world frame d condition) rows scene
    ≡ kept_by (kept_where world frame d condition) (filter (agrees (facts_at place (facts_of world frame d condition))) rows) scene

-- and those that have other values in columns for which the facts name them
abbrev pub ValuesAreEnough : Type 0
ValuesAreEnough =
    (world : World) (frame : Frame) (d : TableDef) (condition : Part) (places : List ℕ) (key : List Value) (rows : List (List Value)) (scene : Scene)
    → key_named (facts_of world frame d condition) places ≡ Some key → list_all (row_fits d.columns) rows ≡ true
    → kept_by (kept_where world frame d condition) rows scene ≡ kept_by (kept_where world frame d condition) (filter (has_values places key) rows) scene

-- where they name the primary key, only the row of that key need be looked at
abbrev pub KeysAreEnough : Type 0
KeysAreEnough =
    (world : World) (frame : Frame) (table : Table) (condition : Part) (key : List Value) (scene : Scene)
    → key_named (facts_of world frame table.definition condition) table.definition.primary ≡ Some key → IsKept table
    → kept_by (kept_where world frame table.definition condition) table.rows scene
    ≡ kept_by (kept_where world frame table.definition condition) (option_to_list (row_of_key table.definition key table.rows)) scene

-- where they name the columns of a unique key, only the row of these values
abbrev pub UniqueKeysAreEnough : Type 0
UniqueKeysAreEnough =
    (world : World) (frame : Frame) (table : Table) (condition : Part) (place : ℕ) (key : KeyDef) (values : List Value) (scene : Scene)
    → slice_get table.definition.uniques place ≡ Some key → key_named (facts_of world frame table.definition condition) key.columns ≡ Some values → IsKept table
    → kept_by (kept_where world frame table.definition condition) table.rows scene
    ≡ kept_by (kept_where world frame table.definition condition) (option_to_list (row_of_values key values table.rows)) scene
