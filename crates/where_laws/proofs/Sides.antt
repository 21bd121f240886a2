-- Sides are what they are said to be.
use Rattle.std.proofs.Common.{◌≡◌, ℕ, zero, suc, List, [], ◌∷◌, Bool, true, false, cond, Option, Some, None, Result, Ok, Err, refl, ap, subst, ◌∙◌}
use Rattle.std.specs.Prelude.{length, nat_le, slice_get, slice_index_or}
use Rattle.std.specs.Option.{option_map, option_and_then}
use Rattle.std.specs.Result.{is_ok}
use Rattle.std.specs.List.{find}
use Rattle.std.proofs.lemmas.Bool.{and_parts}
use Rattle.val_types.specs.declared.value.Value.{Value}
use Rattle.val_types.specs.declared.value.Value.TheVariants.{Null, Int, Text}
use Rattle.val_types.specs.declared.definitions.ColumnDef.{ColumnDef}
use Rattle.val_types.specs.declared.definitions.TableDef.{TableDef}
use Rattle.val_types.specs.Errors.{text_too_long}
use Rattle.val_types.specs.Fitting.{row_fits, may_hold}
use Rattle.value_rules.specs.Operators.{unary_value}
use Rattle.sql_tree.specs.Tree.{literal, name, column, new_column, old_column, user_variable, system_variable, unary, binary, is_in, choice, subquery, exists, call, built_in, values_of, name_const, floor_rand}
use Rattle.sql_locals.specs.Locals.{find_local}
use Rattle.sql_locals.specs.declared.locals.Local.{Local}
use Rattle.sql_meaning.specs.catalog_rules.Names.{same_name, place_among, first_made}
use Rattle.sql_meaning.specs.catalog_rules.Objects.{columns_of}
use Rattle.sql_meaning.specs.log_entries.Variables.{variable_value}
use Rattle.sql_meaning.specs.Scenes.{Scene, Ending, done, then_do, answered, needed}
use Rattle.sql_meaning.specs.Frames.{World, Frame, View, sees, column_in, column_if, column_in_view, qualified_value, capped}
use Rattle.sql_meaning.specs.Values.{value}
use Rattle.where_laws.specs.Sides.{Side, of_column, standing, side_value, stands, short, if_given, column_side, name_side, operated, side_of, SidesAreSo}

-- ---- values that stand

pub some_is : {A : Type 0} (a b : A) → Some a ≡ Some b → a ≡ b
some_is a b h = cc

stood : (o : Option Value) (side : Side) (row : List Value) → stands o ≡ Some side → o ≡ Some (side_value side row)
stood None side row e = cc
stood (Some v) side row e = ap (λ (s : Side). Some (side_value s row)) (some_is (standing v) side e)

needed_is : (code : ℕ) (o : Option Value) (side : Side) (row : List Value) (scene : Scene) → stands o ≡ Some side → needed code o scene ≡ done (side_value side row) scene
needed_is code o side row scene e = ap (λ (o : Option Value). needed code o scene) (stood o side row e)

capped_text : (fits : Bool) (t : List ℕ) (side : Side) (row : List Value) (scene : Scene) → stands (cond (is_ok (cond fits (Ok (Text t)) (Err text_too_long))) (Some (Text t)) None) ≡ Some side
    → answered (cond fits (Ok (Text t)) (Err text_too_long)) scene ≡ done (side_value side row) scene
capped_text true t side row scene e = ap (λ (v : Value). done v scene) (some_is (Text t) (side_value side row) (stood (Some (Text t)) side row e))
capped_text false t side row scene e = cc

pub capped_is : (v : Value) (side : Side) (row : List Value) (scene : Scene) → stands (short v) ≡ Some side → capped v scene ≡ done (side_value side row) scene
capped_is Null side row scene e = ap (λ (v : Value). done v scene) (some_is Null (side_value side row) (stood (Some Null) side row e))
capped_is (Int n) side row scene e = ap (λ (v : Value). done v scene) (some_is (Int n) (side_value side row) (stood (Some (Int n)) side row e))
capped_is (Text t) side row scene e = capped_text (nat_le (length t) 65535) t side row scene e

-- ---- columns of a row that fits

pub fits_at : (columns : List ColumnDef) (row : List Value) (place : ℕ) (found : ColumnDef) → row_fits columns row ≡ true → slice_get columns place ≡ Some found
    → (slice_get row place ≡ Some (slice_index_or row place Null)) × (may_hold found (slice_index_or row place Null) ≡ true)
fits_at [] row place found fits e = cc
fits_at (c ∷ cs) [] place found fits e = cc
fits_at (c ∷ cs) (v ∷ vs) zero found fits e = (refl, subst (λ (o : ColumnDef). may_hold o v ≡ true) (some_is c found e) (and_parts (may_hold c v) (row_fits cs vs) fits).0)
fits_at (c ∷ cs) (v ∷ vs) (suc place) found fits e = fits_at cs vs place found (and_parts (may_hold c v) (row_fits cs vs) fits).1 e

-- the column at a place that is known is there
column_there : (d : TableDef) (place : ℕ) (found : Option ColumnDef) (side : Side) (row : List Value) → slice_get d.columns place ≡ found → option_map (of_column place) found ≡ Some side
    → row_fits d.columns row ≡ true → slice_get row place ≡ Some (side_value side row)
column_there d place None side row at e fits = cc
column_there d place (Some c) side row at e fits =
    (fits_at d.columns row place c fits at).0 ∙ ap (λ (s : Side). Some (side_value s row)) (some_is (of_column place c) side e)

column_found : (d : TableDef) (place : Option ℕ) (side : Side) (row : List Value) → column_side d place ≡ Some side → row_fits d.columns row ≡ true
    → option_and_then (slice_get row) place ≡ Some (side_value side row)
column_found d None side row e fits = cc
column_found d (Some place) side row e fits = column_there d place (slice_get d.columns place) side row refl e fits

-- ---- names

named : (world : World) (frame : Frame) (d : TableDef) (n : List ℕ) (place : Option ℕ) (side : Side) (row : List Value) (scene : Scene)
    → name_side frame d n place ≡ Some side → row_fits d.columns row ≡ true
    → needed 1054 (elim (option_and_then (slice_get row) place) as (λ _. Option Value) [ None ↦ first_made (column_in n) frame.views | Some b ↦ Some b ]) scene ≡ done (side_value side row) scene
named world frame d n None side row scene e fits = needed_is 1054 (column_in_view n frame.views) side row scene e
named world frame d n (Some place) side row scene e fits =
    ap (λ (o : Option Value). needed 1054 (elim o as (λ _. Option Value) [ None ↦ first_made (column_in n) frame.views | Some b ↦ Some b ]) scene) (column_found d (Some place) side row e fits)

local_or : (world : World) (frame : Frame) (d : TableDef) (n : List ℕ) (found : Option Local) (side : Side) (row : List Value) (scene : Scene)
    → elim found as (λ _. Option Side) [ None ↦ name_side frame d n (place_among (columns_of d) n) | Some l ↦ Some (standing l.value) ] ≡ Some side → row_fits d.columns row ≡ true
    → needed 1054 (elim found as (λ _. Option Value) [ None ↦ column_in_view n (record { definition = d; row = row } ∷ frame.views) | Some l ↦ Some l.value ]) scene ≡ done (side_value side row) scene
local_or world frame d n None side row scene e fits = named world frame d n (place_among (columns_of d) n) side row scene e fits
local_or world frame d n (Some l) side row scene e fits = needed_is 1054 (Some l.value) side row scene e

qualified : (frame : Frame) (d : TableDef) (t c : List ℕ) (here : Bool) (side : Side) (row : List Value) (scene : Scene)
    → cond here (column_side d (place_among (columns_of d) c)) (stands (qualified_value frame t c)) ≡ Some side → row_fits d.columns row ≡ true
    → needed 1054 (column_if c (cond here (Some (record { definition = d; row = row })) (find (λ (view : View). same_name t view.definition.name) frame.views))) scene ≡ done (side_value side row) scene
qualified frame d t c true side row scene e fits = ap (λ (o : Option Value). needed 1054 o scene) (column_found d (place_among (columns_of d) c) side row e fits)
qualified frame d t c false side row scene e fits = needed_is 1054 (qualified_value frame t c) side row scene e

-- ---- operators on values that stand

given : (r : Result Value ℕ) (side : Side) (row : List Value) (scene : Scene) → stands (if_given r) ≡ Some side → answered r scene ≡ done (side_value side row) scene
given (Ok v) side row scene e = ap (λ (v : Value). done v scene) (some_is v (side_value side row) (stood (Some v) side row e))
given (Err code) side row scene e = cc

operates : (op : Value → Result Value ℕ) (of_tree : Ending Value) (inner : Option Side) (side : Side) (row : List Value) (scene : Scene)
    → ((s : Side) → inner ≡ Some s → of_tree ≡ done (side_value s row) scene) → operated inner op ≡ Some side
    → then_do of_tree (λ x. answered (op x)) ≡ done (side_value side row) scene
operates op of_tree None side row scene so e = cc
operates op of_tree (Some (of_column place c)) side row scene so e = cc
operates op of_tree (Some (standing v)) side row scene so e =
    ap (λ (m : Ending Value). then_do m (λ x. answered (op x))) (so (standing v) refl) ∙ given (op v) side row scene e

pub sides_are_so : SidesAreSo
sides_are_so world frame d (literal v) side e row scene fits = capped_is v side row scene e
sides_are_so world frame d (name n) side e row scene fits = local_or world frame d n (find_local frame.locals n) side row scene e fits
sides_are_so world frame d (column t c) side e row scene fits = qualified frame d t c (same_name t d.name) side row scene e fits
sides_are_so world frame d (new_column c) side e row scene fits = needed_is 1054 (column_if c frame.new_row) side row scene e
sides_are_so world frame d (old_column c) side e row scene fits = needed_is 1054 (column_if c frame.old_row) side row scene e
sides_are_so world frame d (user_variable n) side e row scene fits = capped_is (variable_value world.setting.context.variables n) side row scene e
sides_are_so world frame d (system_variable n) side e row scene fits = cc
sides_are_so world frame d (unary op a) side e row scene fits =
    operates (unary_value op) (value world (sees d row frame) a scene) (side_of world frame d a) side row scene (λ s is. sides_are_so world frame d a s is row scene fits) e
sides_are_so world frame d (binary op a b) side e row scene fits = cc
sides_are_so world frame d (is_in negated a ts) side e row scene fits = cc
sides_are_so world frame d (choice arms o) side e row scene fits = cc
sides_are_so world frame d (subquery q) side e row scene fits = cc
sides_are_so world frame d (exists q) side e row scene fits = cc
sides_are_so world frame d (call n ts) side e row scene fits = cc
sides_are_so world frame d (values_of c) side e row scene fits = needed_is 1054 (column_if c frame.inserted) side row scene e
sides_are_so world frame d (name_const n v) side e row scene fits = capped_is v side row scene e
sides_are_so world frame d (floor_rand a) side e row scene fits = cc
sides_are_so world frame d (built_in f ts) side e row scene fits = cc
