-- Which values sides have on rows that fit, and that they compare.
use Rattle.std.proofs.Common.{◌≡◌, ℕ, Bool, true, false, not, ◌&&◌, ◌||◌, cond, Option, Some, None, Result, Ok, List, refl, subst}
use Rattle.std.specs.Prelude.{slice_get, slice_index_or}
use Rattle.std.specs.Option.{option_map}
use Rattle.std.specs.Result.{is_ok}
use Rattle.val_types.specs.declared.value.Value.{Value}
use Rattle.val_types.specs.declared.value.Value.TheVariants.{Null, Int, Text}
use Rattle.val_types.specs.declared.definitions.ColType.{ColType}
use Rattle.val_types.specs.declared.definitions.ColType.TheVariants.{Int as IntType, BigInt, Varchar}
use Rattle.val_types.specs.declared.definitions.ColumnDef.{ColumnDef}
use Rattle.val_types.specs.declared.definitions.TableDef.{TableDef}
use Rattle.val_types.specs.Fitting.{row_fits, fitting, is_null}
use Rattle.value_rules.specs.Operators.{truth_of, comparison, unary_value}
use Rattle.sql_tree.specs.Tree.{Tree, literal, name, column, new_column, old_column, user_variable, system_variable, unary, binary, is_in, choice, subquery, exists, call, built_in, values_of, name_const, floor_rand}
use Rattle.sql_locals.specs.Locals.{find_local}
use Rattle.sql_locals.specs.declared.locals.Local.{Local}
use Rattle.sql_meaning.specs.catalog_rules.Names.{same_name, place_among}
use Rattle.sql_meaning.specs.catalog_rules.Objects.{columns_of}
use Rattle.sql_meaning.specs.log_entries.Variables.{variable_value}
use Rattle.sql_meaning.specs.Frames.{World, Frame, column_if, column_in_view, qualified_value}
use Rattle.where_laws.specs.Sides.{Side, of_column, standing, side_value, stands, short, if_given, column_side, name_side, operated, side_of, Kind, nothing_else, a_number, a_text, kind_of_value, kind_of_type, kind_of, do_compare, is_condition}
use Rattle.where_laws.proofs.Sides.{some_is, fits_at}
use Rattle.where_laws.proofs.Truths.{order_between}

-- ---- columns that sides name are there

abbrev pub IsThere : TableDef → Side → Type 0
IsThere d (of_column place c) = slice_get d.columns place ≡ Some c
IsThere d (standing v) = Unit {0}

standing_there : (d : TableDef) (o : Option Value) (side : Side) → stands o ≡ Some side → IsThere d side
standing_there d None side e = cc
standing_there d (Some v) side e = subst (IsThere d) (some_is (standing v) side e) tt

column_there : (d : TableDef) (place : ℕ) (found : Option ColumnDef) (side : Side) → slice_get d.columns place ≡ found → option_map (of_column place) found ≡ Some side → IsThere d side
column_there d place None side at e = cc
column_there d place (Some c) side at e = subst (IsThere d) (some_is (of_column place c) side e) at

placed_there : (d : TableDef) (place : Option ℕ) (side : Side) → column_side d place ≡ Some side → IsThere d side
placed_there d None side e = cc
placed_there d (Some place) side e = column_there d place (slice_get d.columns place) side refl e

named_there : (frame : Frame) (d : TableDef) (n : List ℕ) (place : Option ℕ) (side : Side) → name_side frame d n place ≡ Some side → IsThere d side
named_there frame d n None side e = standing_there d (column_in_view n frame.views) side e
named_there frame d n (Some place) side e = placed_there d (Some place) side e

local_there : (frame : Frame) (d : TableDef) (n : List ℕ) (found : Option Local) (side : Side)
    → elim found as (λ _. Option Side) [ None ↦ name_side frame d n (place_among (columns_of d) n) | Some l ↦ Some (standing l.value) ] ≡ Some side → IsThere d side
local_there frame d n None side e = named_there frame d n (place_among (columns_of d) n) side e
local_there frame d n (Some l) side e = standing_there d (Some l.value) side e

qualified_there : (frame : Frame) (d : TableDef) (t c : List ℕ) (here : Bool) (side : Side)
    → cond here (column_side d (place_among (columns_of d) c)) (stands (qualified_value frame t c)) ≡ Some side → IsThere d side
qualified_there frame d t c true side e = placed_there d (place_among (columns_of d) c) side e
qualified_there frame d t c false side e = standing_there d (qualified_value frame t c) side e

operated_there : (d : TableDef) (inner : Option Side) (op : Value → Result Value ℕ) (side : Side) → operated inner op ≡ Some side → IsThere d side
operated_there d None op side e = cc
operated_there d (Some (of_column place c)) op side e = cc
operated_there d (Some (standing v)) op side e = standing_there d (if_given (op v)) side e

pub sides_there : (world : World) (frame : Frame) (d : TableDef) (t : Tree) (side : Side) → side_of world frame d t ≡ Some side → IsThere d side
sides_there world frame d (literal v) side e = standing_there d (short v) side e
sides_there world frame d (name n) side e = local_there frame d n (find_local frame.locals n) side e
sides_there world frame d (column t c) side e = qualified_there frame d t c (same_name t d.name) side e
sides_there world frame d (new_column c) side e = standing_there d (column_if c frame.new_row) side e
sides_there world frame d (old_column c) side e = standing_there d (column_if c frame.old_row) side e
sides_there world frame d (user_variable n) side e = standing_there d (short (variable_value world.setting.context.variables n)) side e
sides_there world frame d (system_variable n) side e = cc
sides_there world frame d (unary op a) side e = operated_there d (side_of world frame d a) (unary_value op) side e
sides_there world frame d (binary op a b) side e = cc
sides_there world frame d (is_in negated a ts) side e = cc
sides_there world frame d (choice arms o) side e = cc
sides_there world frame d (subquery q) side e = cc
sides_there world frame d (exists q) side e = cc
sides_there world frame d (call n ts) side e = cc
sides_there world frame d (values_of c) side e = standing_there d (column_if c frame.inserted) side e
sides_there world frame d (name_const n v) side e = standing_there d (short v) side e
sides_there world frame d (floor_rand a) side e = cc
sides_there world frame d (built_in f ts) side e = cc

-- ---- kinds of values

-- whether a value is NULL or of a kind
abbrev pub may_be : Kind → Value → Bool
may_be k Null = true
may_be nothing_else (Int n) = false
may_be nothing_else (Text t) = false
may_be a_number (Int n) = true
may_be a_number (Text t) = false
may_be a_text (Int n) = false
may_be a_text (Text t) = true

of_type : (kind : ColType) (v : Value) → is_ok (fitting kind v) ≡ true → may_be (kind_of_type kind) v ≡ true
of_type kind Null fits = refl
of_type IntType (Int n) fits = refl
of_type IntType (Text t) fits = cc
of_type BigInt (Int n) fits = refl
of_type BigInt (Text t) fits = cc
of_type (Varchar most) (Int n) fits = cc
of_type (Varchar most) (Text t) fits = refl

of_itself : (v : Value) → may_be (kind_of_value v) v ≡ true
of_itself Null = refl
of_itself (Int n) = refl
of_itself (Text t) = refl

first_part : (a b : Bool) → a && b ≡ true → a ≡ true
first_part true b e = refl
first_part false b e = cc

pub side_may_be : (d : TableDef) (side : Side) (row : List Value) → IsThere d side → row_fits d.columns row ≡ true → may_be (kind_of side) (side_value side row) ≡ true
side_may_be d (of_column place c) row there fits =
    of_type c.kind (slice_index_or row place Null) (first_part (is_ok (fitting c.kind (slice_index_or row place Null))) (c.nullable || not (is_null (slice_index_or row place Null))) (fits_at d.columns row place c fits there).1)
side_may_be d (standing v) row there fits = of_itself v

apart : (k l : Kind) (n : _) (t : List ℕ) → may_be k (Int n) ≡ true → may_be l (Text t) ≡ true → do_compare k l ≡ true → ⊥
apart nothing_else l n t e f g = cc
apart a_number nothing_else n t e f g = cc
apart a_number a_number n t e f g = cc
apart a_number a_text n t e f g = cc
apart a_text l n t e f g = cc

apart_too : (k l : Kind) (n : _) (t : List ℕ) → may_be k (Text t) ≡ true → may_be l (Int n) ≡ true → do_compare k l ≡ true → ⊥
apart_too nothing_else l n t e f g = cc
apart_too a_number l n t e f g = cc
apart_too a_text nothing_else n t e f g = cc
apart_too a_text a_number n t e f g = cc
apart_too a_text a_text n t e f g = cc

pub compared_by : (k l : Kind) (x y : Value) → may_be k x ≡ true → may_be l y ≡ true → do_compare k l ≡ true → comparison x y ≡ Ok (order_between x y)
compared_by k l Null Null e f g = refl
compared_by k l Null (Int n) e f g = refl
compared_by k l Null (Text t) e f g = refl
compared_by k l (Int m) Null e f g = refl
compared_by k l (Int m) (Int n) e f g = refl
compared_by k l (Int m) (Text t) e f g = absurd (apart k l m t e f g)
compared_by k l (Text s) Null e f g = refl
compared_by k l (Text s) (Int n) e f g = absurd (apart_too k l n s e f g)
compared_by k l (Text s) (Text t) e f g = refl

-- a value that may be a condition is a truth
pub condition_truth : (k : Kind) (v : Value) → may_be k v ≡ true → is_condition k ≡ true → (p : Option Bool) × (truth_of v ≡ Ok p)
condition_truth k Null e f = (None, refl)
condition_truth k (Int n) e f = (_, refl)
condition_truth nothing_else (Text t) e f = cc
condition_truth a_number (Text t) e f = cc
condition_truth a_text (Text t) e f = cc
