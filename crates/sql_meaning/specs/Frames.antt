-- What an expression sees and does not change: the context of the session, the programs, rows in view and locals.
use Rattle.std.specs.Prelude.{ℕ, List, [], ◌∷◌, find, Option, Some, None, ℤ, pos, negsuc, slice_get, unwrap_or}
use Rattle.std.specs.Option.{option_map_or, option_and_then}
use Rattle.val_types.specs.declared.value.Value.{Value}
use Rattle.val_types.specs.declared.value.Value.TheVariants.{Null, Int, Text}
use Rattle.val_types.specs.declared.definitions.TableDef.{TableDef}
use Rattle.sql_tree.specs.declared.expressions.Count.{Count}
use Rattle.sql_tree.specs.declared.expressions.Count.TheVariants as counts
use Rattle.sql_tree.specs.declared.expressions.Limit.{Limit}
use Rattle.sql_locals.specs.declared.locals.Local.{Local}
use Rattle.sql_tree.specs.declared.statements.Time.{Time}
use Rattle.sql_tree.specs.declared.statements.Cause.{Cause}
use Rattle.sql_locals.specs.Locals.{find_local}
use Rattle.value_rules.specs.Functions.{text_value}
use Rattle.value_rules.specs.Selecting.{cut}
use Rattle.log_entries.specs.catalog_rules.Names.{same_name, place_among, first_made}
use Rattle.log_entries.specs.catalog_rules.Objects.{Object, columns_of}
use Rattle.sql_meaning.specs.Scenes.{Action, pure, answered}

-- ---- the session

-- The context in which a session's statement runs: the moments of NOW() and SYSDATE(), the session's number, who the node
-- is, LAST_INSERT_ID(), a forced INSERT_ID, the seeds, user variables, the two AUTO_INCREMENT variables, ROW_COUNT().
pub record Context : Type 0 where
  pub stamp : ℕ
  pub sys : ℕ
  pub connection : ℕ
  pub user : List ℕ
  pub server_id : ℕ
  pub last_id : ℤ
  pub forced : Option ℤ
  pub seeds : ℕ × ℕ
  pub variables : List (List ℕ × Value)
  pub increment : ℕ
  pub offset : ℕ
  pub row_count : ℤ

-- what a whole statement has round it: the catalog, the context, and the number from which UUID() counts
pub record Setting : Type 0 where
  pub catalog : List Object
  pub context : Context
  pub uuid : ℕ

-- ---- programs

-- What is running: the tables that the statements and expressions under way name, and the functions.
pub record Running : Type 0 where
  pub tables : List (List ℕ)
  pub functions : List (List ℕ)

-- What the bodies of functions and triggers do one level of nesting further down: a call gives the function's value, an event
-- the row that is to be stored, as a trigger has left it.
pub record Below : Type 0 where
  pub call : Running → List ℕ → List Value → Action Value
  pub fire : Running → Time → Cause → TableDef → Option (List Value) → Option (List Value) → Action (Option (List Value))

-- all that is round an expression but rows and locals
pub record World : Type 0 where
  pub setting : Setting
  pub below : Below
  pub running : Running

-- ---- rows and locals

-- a row with the definition of its table
pub record View : Type 0 where
  pub definition : TableDef
  pub row : List Value

-- What an expression sees of rows: those in view, the innermost first, and in a trigger NEW and OLD; the row that was to be
-- inserted, behind ON DUPLICATE KEY UPDATE; and the locals in scope.
pub record Frame : Type 0 where
  pub locals : List Local
  pub views : List View
  pub new_row : Option View
  pub old_row : Option View
  pub inserted : Option View

-- no row in view
abbrev pub only_locals : List Local → Frame
only_locals locals = record { locals = locals; views = []; new_row = None; old_row = None; inserted = None }

-- one more row in view
abbrev pub sees : TableDef → List Value → Frame → Frame
sees definition row frame = record frame { views = record { definition = definition; row = row } ∷ frame.views }

-- the value of a column of a row
abbrev pub column_in : List ℕ → View → Option Value
column_in c view = option_and_then (slice_get view.row) (place_among (columns_of view.definition) c)

abbrev pub column_if : List ℕ → Option View → Option Value
column_if c view = option_and_then (column_in c) view

-- a name: the last local of that name, else the column of the innermost row in view that has it
abbrev pub column_in_view : List ℕ → List View → Option Value
column_in_view n views = first_made (column_in n) views

abbrev pub named_value : Frame → List ℕ → Option Value
named_value frame n = elim (find_local frame.locals n) [ None ↦ column_in_view n frame.views | Some l ↦ Some l.value ]

-- `t.c`: the column of the innermost row of that table
abbrev pub qualified_value : Frame → List ℕ → List ℕ → Option Value
qualified_value frame t c = column_if c (find (λ (view : View). same_name t view.definition.name) frame.views)

-- ---- LIMIT

-- the number of a LIMIT; that of a local was seen to be one
abbrev pub number_or_none : Value → Option ℕ
number_or_none Null = None
number_or_none (Int (pos n)) = Some n
number_or_none (Int (negsuc n)) = None
number_or_none (Text t) = None

abbrev pub count_value : List Local → Count → ℕ
count_value locals (counts.Number n) = n
count_value locals (counts.Name n) = unwrap_or (option_and_then (λ (l : Local). number_or_none l.value) (find_local locals n)) 0

-- the rows that LIMIT leaves
abbrev pub limited : {A : Type 0} → List Local → Option Limit → List A → List A
limited locals None rows = rows
limited locals (Some l) rows = cut (option_map_or (count_value locals) l.offset 0) (count_value locals l.count) rows

-- the same of a change, which has no offset
abbrev pub limited_to : {A : Type 0} → List Local → Option Count → List A → List A
limited_to locals None rows = rows
limited_to locals (Some c) rows = cut 0 (count_value locals c) rows

-- ---- texts

-- a value as an expression gives it: a text has at most 65,535 bytes, else 1153
abbrev pub capped : Value → Action Value
capped Null = pure Null
capped (Int n) = pure (Int n)
capped (Text t) = answered (text_value t)
