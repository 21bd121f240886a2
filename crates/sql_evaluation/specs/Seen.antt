-- What the code's surroundings and rows in view stand for, and what evaluating in them gives.
use Rattle.std.specs.Prelude.{◌≡◌, ℕ, List, [], ◌∷◌, map, length, nat_le, Option, Some, None, Result, Ok, Err, Bool, true, suc, pos, slice_index_or}
use Rattle.val_types.specs.declared.value.Value.TheVariants.{Null, Int, Text}
use Rattle.std.specs.Option.{option_map}
use Rattle.std.specs.Borrow.{Bor, MutBor}
use Rattle.val_types.specs.declared.value.Value.{Value}
use Rattle.val_types.specs.declared.refusal.SqlRefusal.{SqlRefusal}
use Rattle.val_types.specs.declared.definitions.TableDef.{TableDef}
use Rattle.sql_tree.specs.Tree.{Tree, name, column, new_column, old_column, values_of, Trees, Query, query, Orders, Aggregates, Selected, Origin, Part, no_part, part}
use Rattle.sql_tree.specs.declared.expressions.Expr.{Expr}
use Rattle.sql_tree.specs.View.{view_tree}
use Rattle.std.specs.declared.cmp.Ordering.{Ordering}
use Rattle.key_order.specs.where_candidates.session_ctx.sql_meaning.Scenes.{Scene, Action, done, answered, pure, each, kept_by, ◌>>=◌}
use Rattle.val_types.specs.declared.ops.BinOp.{BinOp}
use Rattle.val_types.specs.Fitting.{row_fits}
use Rattle.table_rules.specs.Tables.{rise}
use Rattle.std.specs.List.{list_all}
use Rattle.value_rules.specs.Operators.{decided, binary_value, comparison, with_value, truth_of}
use Rattle.key_order.specs.where_candidates.session_ctx.sql_meaning.Frames.{World, Frame, View, Running, Setting, named_value, qualified_value, column_if}
use Rattle.key_order.specs.where_candidates.session_ctx.sql_meaning.Values.{value, values, unless_known, holds, found_among, rows_of_query, order_values, sorted, directions, argument_values, formed, functions_of, shown_rows, value_of_part, row_alone}
use Rattle.value_rules.specs.Functions.{is_known_true}
use Rattle.value_rules.specs.Selecting.{by_items, aggregate_value}
use Rattle.std.specs.Ordering.{is_lt}
use Rattle.val_types.specs.declared.ops.Agg.{Agg}
use Rattle.key_order.specs.where_candidates.session_ctx.sql_meaning.Running.{level_of}
use Rattle.exec_state.specs.declared.stage.Stage.{Stage}
use Rattle.exec_state.specs.declared.running.Running.{Running as UnderWay}
use Rattle.exec_state.specs.UnderWay.{under_way}
use Rattle.catalog_objects.specs.Keys.{objects_of}
use Rattle.exec_state.specs.Stage.{scene_of, EndsAs, LeadsOn}
use Rattle.key_order.specs.where_candidates.where_keys.declared.outside.Outside.{Outside}
use Rattle.key_order.specs.where_candidates.where_keys.Sides.{IsRound}
use Rattle.sql_evaluation.specs.declared.world.View.{View as Shown}
use Rattle.sql_evaluation.specs.declared.world.Around.{Around}

-- a row with its definition
abbrev pub view_of : Shown → View
view_of v = record { definition = v.definition; row = v.row }

abbrev pub view_if : Option (Bor Shown) → Option View
view_if v = option_map (λ (v : Bor Shown). view_of v.now) v

abbrev pub views_of : List Shown → List View
views_of vs = map view_of vs

-- what is under way
abbrev pub running_of : UnderWay → Running
running_of r = under_way r

-- what a whole statement has round it
abbrev pub setting_of : Around → Setting
setting_of a = record { catalog = objects_of a.catalog.now; context = a.context.now; uuid = a.uuid }

-- all that is round an expression but rows and locals
unfoldable pub world_of : Around → World
world_of a = record { setting = setting_of a; below = level_of (setting_of a) a.nesting; running = running_of a.running.now }

-- what an expression sees of rows and locals
unfoldable pub frame_of : Around → List Shown → Frame
frame_of a vs = record {
  locals = a.locals.now;
  views = views_of vs;
  new_row = view_if a.new_row;
  old_row = view_if a.old_row;
  inserted = view_if a.inserted;
}

-- that a WHERE has this outside of its table, whatever rows are in view
pub record IsOutside (a : Around) (o : Outside) : Type 0 where
  pub round : (vs : List Shown) → IsRound o (world_of a) (frame_of a vs)

-- the value of a tree there
abbrev pub value_in : Around → List Shown → Tree → Action Value
value_in a vs t = value (world_of a) (frame_of a vs) t

-- what evaluating by a closure gives, and that it leads on
abbrev pub Evaluates : (MutBor Stage → Bor Expr → Bor (List Shown) → Result Value SqlRefusal → MutBor Stage → Type 0) → Around → Type 0
Evaluates post a =
    (s : MutBor Stage) (e : Bor Expr) (vs : Bor (List Shown)) (r : Result Value SqlRefusal) (s' : MutBor Stage) → post s e vs r s'
    → EndsAs r (scene_of s'.now) (value_in a vs.now (view_tree e.now) (scene_of s.now))

abbrev pub LeadsAlways : (MutBor Stage → Bor Expr → Bor (List Shown) → Result Value SqlRefusal → MutBor Stage → Type 0) → Type 0
LeadsAlways post =
    (s : MutBor Stage) (e : Bor Expr) (vs : Bor (List Shown)) (r : Result Value SqlRefusal) (s' : MutBor Stage) → post s e vs r s'
    → LeadsOn s.now s'.now

-- a value that stands already: evaluating gives it and changes nothing
pub record Stands (a : Around) (vs : List Shown) (t : Tree) (v : Value) : Type 0 where
  pub stands : (scene : Scene) → value_in a vs t scene ≡ done v scene

abbrev pub StandsIf : Around → List Shown → Tree → Option (Bor Value) → Type 0
StandsIf a vs t None = Unit {0}
StandsIf a vs t (Some v) = Stands a vs t v.now

-- an operator where the value of its left operand is known
abbrev pub behind_left : Around → List Shown → BinOp → Value → Tree → Action Value
behind_left a vs op x t =
    answered (decided op x) >>= λ known. unless_known known (value_in a vs t >>= λ y. answered (binary_value op x y))

-- ---- what names mean

-- the value of a name of a column or a local, None for any other tree
abbrev pub meant : Around → List Shown → Tree → Option Value
meant a vs (name n) = named_value (frame_of a vs) n
meant a vs (column t c) = qualified_value (frame_of a vs) t c
meant a vs (new_column c) = column_if c (frame_of a vs).new_row
meant a vs (old_column c) = column_if c (frame_of a vs).old_row
meant a vs (values_of c) = column_if c (frame_of a vs).inserted
meant a vs t = None

-- an answer that is that of an action in any scene, which it leaves
pub record Anywhere {A : Type 0} (r : Result A SqlRefusal) (m : Action A) : Type 0 where
  pub ends : (scene : Scene) → EndsAs r scene (m scene)

-- ---- one more row in view

abbrev pub seen : TableDef → List Value → List Shown → List Shown
seen definition row vs = record { definition = definition; row = row } ∷ vs

-- another row of its table in the place of the innermost one
abbrev pub with_row : List Shown → List Value → List Shown
with_row [] row = []
with_row (v ∷ vs) row = record v { row = row } ∷ vs

-- rows in view behind one of a table
pub record Inside (definition : TableDef) (outer inner : List Shown) : Type 0 where
  pub next : (row : List Value) → with_row inner row ≡ seen definition row outer

-- ---- parts of expressions and SELECTs there

abbrev pub values_in : Around → List Shown → Trees → Action (List Value)
values_in a vs ts = values (world_of a) (frame_of a vs) ts

abbrev pub holds_in : Around → List Shown → Tree → Action Bool
holds_in a vs t = value_in a vs t >>= holds

-- how a value stands to that of an expression
abbrev pub compared_in : Around → List Shown → Value → Tree → Action (Option Ordering)
compared_in a vs x t = value_in a vs t >>= λ y. answered (comparison x y)

abbrev pub found_in : Around → List Shown → Value → Option Bool → Trees → Action (Option Bool)
found_in a vs x so_far ts = found_among (world_of a) (frame_of a vs) x so_far ts

abbrev pub rows_in : Around → List Shown → Query → Action (List (List Value))
rows_in a vs q = rows_of_query (world_of a) (frame_of a vs) q

-- the rows that WHERE keeps
abbrev pub kept_in : Around → List Shown → TableDef → Tree → List (List Value) → Action (List (List Value))
kept_in a vs d t rows = kept_by (λ row. holds_in a (seen d row vs) t) rows

abbrev pub order_in : Around → List Shown → Orders → Action (List Value)
order_in a vs os = order_values (world_of a) (frame_of a vs) os

-- rows with the values by which they are sorted
abbrev pub keyed_in : Around → List Shown → TableDef → Orders → List (List Value) → Action (List (List Value × List Value))
keyed_in a vs d os rows = each (λ row. order_in a (seen d row vs) os >>= λ by. pure (by, row)) rows

abbrev pub ordered_in : Around → List Shown → TableDef → Orders → List (List Value) → Action (List (List Value))
ordered_in a vs d os rows = keyed_in a vs d os rows >>= λ keyed. pure (sorted (directions os) keyed)

-- rows as a table has them: they fit, and rise by its primary key
pub record AreTabled (d : TableDef) (rows : List (List Value)) : Type 0 where
  pub fit : list_all (row_fits d.columns) rows ≡ true
  pub rising : rise d rows ≡ true

abbrev pub items_in : Around → List Shown → TableDef → Trees → List (List Value) → Action (List (List Value))
items_in a vs d ts rows = each (λ row. values_in a (seen d row vs) ts) rows

abbrev pub arguments_in : Around → List Shown → Aggregates → Action (List Value)
arguments_in a vs as' = argument_values (world_of a) (frame_of a vs) as'

abbrev pub aggregated_in : Around → List Shown → TableDef → Aggregates → List (List Value) → Action (List (List Value))
aggregated_in a vs d as' rows =
    each (λ row. arguments_in a (seen d row vs) as') rows >>= λ arguments. formed (functions_of as') arguments >>= λ row. pure (row ∷ [])

abbrev pub shown_in : Around → List Shown → TableDef → Selected → List (List Value) → Action (List (List Value))
shown_in a vs d what rows = shown_rows (world_of a) (frame_of a vs) d what rows

-- whether a value is one of an expression
abbrev pub is_capped : Value → Bool
is_capped Null = true
is_capped (Int n) = true
is_capped (Text t) = nat_le (length t) 65535

-- ---- conditions

-- whether a value is true as a condition; unknown is not
abbrev pub is_true : Value → Result Bool ℕ
is_true v = with_value is_known_true (truth_of v)

-- ELSE, NULL where there is none
abbrev pub part_in : Around → List Shown → Part → Action Value
part_in a vs p = value_of_part (world_of a) (frame_of a vs) p

-- ---- calls of stored functions

-- what a call by a closure gives, and that it leads on
abbrev pub Calls : (MutBor Stage → Bor UnderWay → Bor (List ℕ) → List Value → Result Value SqlRefusal → MutBor Stage → Type 0) → Around → Type 0
Calls post a =
    (s : MutBor Stage) (g : Bor UnderWay) (n : Bor (List ℕ)) (vs : List Value) (r : Result Value SqlRefusal) (s' : MutBor Stage) → post s g n vs r s'
    → EndsAs r (scene_of s'.now) ((world_of a).below.call (running_of g.now) n.now vs (scene_of s.now))

abbrev pub CallsLead : (MutBor Stage → Bor UnderWay → Bor (List ℕ) → List Value → Result Value SqlRefusal → MutBor Stage → Type 0) → Type 0
CallsLead post =
    (s : MutBor Stage) (g : Bor UnderWay) (n : Bor (List ℕ)) (vs : List Value) (r : Result Value SqlRefusal) (s' : MutBor Stage) → post s g n vs r s'
    → LeadsOn s.now s'.now

-- ---- parts of SELECTs that the code takes one by one

-- without a table
abbrev pub alone_in : Around → List Shown → Selected → Action (List (List Value))
alone_in a vs what = row_alone (world_of a) (frame_of a vs) what

-- with one
unfoldable pub from_in : Around → List Shown → Selected → Origin → Action (List (List Value))
from_in a vs what o = rows_in a vs (query what o)

-- WHERE that may be left out
abbrev pub where_in : Around → List Shown → TableDef → Part → List (List Value) → Action (List (List Value))
where_in a vs d no_part rows = pure rows
where_in a vs d (part t) rows = kept_in a vs d t rows

-- whether a row comes before another by what they are sorted by
abbrev pub comes_before : List Bool → List Value × List Value → List Value × List Value → Bool
comes_before downs a b = is_lt (by_items downs a.0 b.0)

-- the argument of an aggregate; a row counts as 1 for COUNT(*)
abbrev pub argument_in : Around → List Shown → Option (Agg × Tree) → Action Value
argument_in a vs None = pure (Int (pos 1))
argument_in a vs (Some one) = value_in a vs one.1

abbrev pub function_in : Option (Agg × Tree) → Agg
function_in None = Agg.Count
function_in (Some one) = one.0

abbrev pub argument_rows_in : Around → List Shown → TableDef → Aggregates → List (List Value) → Action (List (List Value))
argument_rows_in a vs d as' rows = each (λ row. arguments_in a (seen d row vs) as') rows

-- the values at a place of some rows
abbrev pub column_at : List (List Value) → ℕ → List Value
column_at rows place = map (λ row. slice_index_or row place Null) rows

-- an answer put before others
abbrev pub put_before : Result Value ℕ → Result (List Value) ℕ → Result (List Value) ℕ
put_before (Ok v) (Ok vs) = Ok (v ∷ vs)
put_before (Ok v) (Err e) = Err e
put_before (Err e) rest = Err e

-- each aggregate of the values at its place, from a place on
abbrev pub formed_values : List Agg → ℕ → List (List Value) → Result (List Value) ℕ
formed_values [] place rows = Ok []
formed_values (f ∷ fs) place rows = put_before (aggregate_value f (column_at rows place)) (formed_values fs (suc place) rows)
