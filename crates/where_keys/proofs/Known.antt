-- Sides that the code knows are those of the definitions, and so are conditions that change nothing.
use Rattle.std.proofs.Common.{◌≡◌, ℕ, List, Bool, true, false, ◌&&◌, cond, Option, Some, None, refl, ap, ◌∙◌}
use Rattle.std.specs.Prelude.{nat_eq, unwrap_or, is_some}
use Rattle.std.specs.Map.{lookup}
use Rattle.std.specs.Option.{option_and_then}
use Rattle.std.specs.Cmp.Lexicographic.{pointwise}
use Rattle.std.proofs.lemmas.Bool.{and_parts}
use Rattle.val_types.specs.declared.value.Value.{Value}
use Rattle.val_types.specs.declared.value.Value.TheVariants.{Null, Int, Text}
use Rattle.val_types.specs.declared.definitions.ColumnDef.{ColumnDef}
use Rattle.val_types.specs.declared.definitions.TableDef.{TableDef}
use Rattle.val_types.specs.declared.ops.BinOp.{BinOp}
use Rattle.val_types.specs.declared.ops.BinOp.TheVariants.{Or, And, Equal, NullSafeEqual, NotEqual, Less, LessOrEqual, Greater, GreaterOrEqual, Add, Subtract, Multiply, Divide, Modulo}
use Rattle.val_types.specs.declared.ops.UnOp.{UnOp}
use Rattle.val_types.specs.declared.ops.UnOp.TheVariants.{Negate, Not, IsNull, IsNotNull}
use Rattle.sql_tree.specs.Tree.{Tree, literal, name, column, new_column, old_column, user_variable, system_variable, unary, binary, is_in, choice, subquery, exists, call, built_in, values_of, name_const, floor_rand}
use Rattle.sql_locals.specs.declared.locals.Local.{Local}
use Rattle.sql_locals.specs.Locals.{find_local}
use Rattle.session_ctx.specs.sql_meaning.catalog_rules.Names.{same_name, place_among}
use Rattle.session_ctx.specs.sql_meaning.catalog_rules.Objects.{columns_of}
use Rattle.session_ctx.specs.sql_meaning.Frames.{Context, World, Frame, View, column_if}
use Rattle.where_laws.specs.Facts.{Way, way_of, turned, Fact}
use Rattle.where_laws.specs.Sides.{Side, of_column, standing, stands, short, column_side, name_side, side_of}
use Rattle.where_laws.specs.Known.{Known, nothing_known, says, is_sure, column_beside, sides_compared, compared_sides, compared, operator_known, side_known, is_side, unary_known, known}
use Rattle.where_keys.specs.declared.outside.Outside.{Outside}
use Rattle.where_keys.specs.Sides.{IsRound, local_or_column, side_in, sides_compare}
use Rattle.where_keys.specs.Keys.{are_compared, is_plain, operator_quiet, unary_quiet, quiet_in}

-- ---- sides

variable_set : (found : Option Value) (s : Side) → option_and_then (λ (v : Value). stands (short v)) found ≡ Some s → stands (short (unwrap_or found Null)) ≡ Some s
variable_set None s e = cc
variable_set (Some v) s e = e

column_first : (f : Frame) (d : TableDef) (n : List ℕ) (place : Option ℕ) (s : Side) → column_side d place ≡ Some s → name_side f d n place ≡ Some s
column_first f d n None s e = cc
column_first f d n (Some place) s e = e

local_first : (f : Frame) (d : TableDef) (n : List ℕ) (found : Option Local) (s : Side) → local_or_column d n found ≡ Some s
    → elim found [ None ↦ name_side f d n (place_among (columns_of d) n) | Some l ↦ Some (standing l.value) ] ≡ Some s
local_first f d n None s e = column_first f d n (place_among (columns_of d) n) s e
local_first f d n (Some l) s e = e

this_table : (own : Bool) (c : Option Side) (other : Option Side) (s : Side) → cond own c None ≡ Some s → cond own c other ≡ Some s
this_table true c other s e = e
this_table false c other s e = cc

-- what the code knows of a side is so, whatever else is round a WHERE
pub side_so : (o : Outside) (w : World) (f : Frame) (d : TableDef) (t : Tree) (s : Side) → IsRound o w f → side_in o d t ≡ Some s → side_of w f d t ≡ Some s
side_so o w f d (literal v) s round e = e
side_so o w f d (name_const n v) s round e = e
side_so o w f d (user_variable n) s round e =
    ap (λ (x : Context). stands (short (unwrap_or (lookup (pointwise nat_eq n) x.variables) Null))) round.context
    ∙ variable_set (lookup (pointwise nat_eq n) o.context.now.variables) s e
side_so o w f d (name n) s round e =
    ap (λ (ls : List Local). elim (find_local ls n) [ None ↦ name_side f d n (place_among (columns_of d) n) | Some l ↦ Some (standing l.value) ]) round.locals
    ∙ local_first f d n (find_local o.locals.now n) s e
side_so o w f d (column t c) s round e = this_table (same_name t d.name) (column_side d (place_among (columns_of d) c)) _ s e
side_so o w f d (new_column c) s round e = ap (λ (r : Option View). stands (column_if c r)) round.new_row ∙ e
side_so o w f d (old_column c) s round e = ap (λ (r : Option View). stands (column_if c r)) round.old_row ∙ e
side_so o w f d (values_of c) s round e = cc
side_so o w f d (unary op a) s round e = cc
side_so o w f d (binary op a b) s round e = cc
side_so o w f d (system_variable n) s round e = cc
side_so o w f d (is_in negated a ts) s round e = cc
side_so o w f d (choice arms p) s round e = cc
side_so o w f d (subquery q) s round e = cc
side_so o w f d (exists q) s round e = cc
side_so o w f d (call n ts) s round e = cc
side_so o w f d (floor_rand a) s round e = cc
side_so o w f d (built_in g ts) s round e = cc

-- ---- conditions that change nothing

said_quiet : (sure : Bool) (fact : Fact) → (says sure fact).quiet ≡ true
said_quiet true fact = refl
said_quiet false fact = refl

pub beside_quiet : (op : BinOp) (way : Way) (at : ℕ) (c : ColumnDef) (v : Value) → (column_beside op way at c v).quiet ≡ true
beside_quiet op way at c Null = refl
beside_quiet op way at c (Int n) = said_quiet (is_sure op c) (record { place = at; way = way; value = Int n })
beside_quiet op way at c (Text t) = said_quiet (is_sure op c) (record { place = at; way = way; value = Text t })

pub sides_quiet : (op : BinOp) (way : Way) (a b : Side) → (sides_compared op way a b).quiet ≡ true
sides_quiet op way (of_column at c) (of_column other d) = refl
sides_quiet op way (of_column at c) (standing v) = beside_quiet op way at c v
sides_quiet op way (standing v) (of_column at c) = beside_quiet op (turned way) at c v
sides_quiet op way (standing v) (standing w) = refl

-- two sides that are known to be two others
pub both_known_sides : (op : BinOp) (way : Way) (a b : Option Side) (x y : Side) → a ≡ Some x → b ≡ Some y → sides_compare x y ≡ true → compared_sides op way a b ≡ sides_compared op way x y
both_known_sides op way a b x y left right compares =
    ap (λ (s : Option Side). compared_sides op way s b) left ∙ ap (λ (s : Option Side). compared_sides op way (Some x) s) right
    ∙ ap (λ (c : Bool). cond c (sides_compared op way x y) nothing_known) compares

compared_quiet : (op : BinOp) (way : Way) (a b a' b' : Option Side) → ((s : Side) → a ≡ Some s → a' ≡ Some s) → ((s : Side) → b ≡ Some s → b' ≡ Some s)
    → are_compared a b ≡ true → (compared_sides op way a' b').quiet ≡ true
compared_quiet op way None b a' b' left right e = cc
compared_quiet op way (Some x) None a' b' left right e = cc
compared_quiet op way (Some x) (Some y) a' b' left right e =
    ap (λ (k : Known). k.quiet) (both_known_sides op way a' b' x y (left x refl) (right y refl) e) ∙ sides_quiet op way x y

both_true : (a b c d : Bool) → (a ≡ true → c ≡ true) → (b ≡ true → d ≡ true) → a && b ≡ true → c && d ≡ true
both_true a b c d left right e =
    let both = and_parts a b e in ap (λ (x : Bool). x && d) (left both.0) ∙ right both.1

operator_so : (op : BinOp) (qa qb : Bool) (a b a' b' : Option Side) (k l : Known) → (qa ≡ true → k.quiet ≡ true) → (qb ≡ true → l.quiet ≡ true)
    → ((s : Side) → a ≡ Some s → a' ≡ Some s) → ((s : Side) → b ≡ Some s → b' ≡ Some s)
    → operator_quiet op qa qb (are_compared a b) ≡ true → (operator_known op k l (compared op (way_of op) a' b')).quiet ≡ true
operator_so Or qa qb a b a' b' k l left right one two e = both_true qa qb k.quiet l.quiet left right e
operator_so And qa qb a b a' b' k l left right one two e = both_true qa qb k.quiet l.quiet left right e
operator_so Equal qa qb a b a' b' k l left right one two e = compared_quiet Equal _ a b a' b' one two e
operator_so NullSafeEqual qa qb a b a' b' k l left right one two e = compared_quiet NullSafeEqual _ a b a' b' one two e
operator_so NotEqual qa qb a b a' b' k l left right one two e = compared_quiet NotEqual _ a b a' b' one two e
operator_so Less qa qb a b a' b' k l left right one two e = compared_quiet Less _ a b a' b' one two e
operator_so LessOrEqual qa qb a b a' b' k l left right one two e = compared_quiet LessOrEqual _ a b a' b' one two e
operator_so Greater qa qb a b a' b' k l left right one two e = compared_quiet Greater _ a b a' b' one two e
operator_so GreaterOrEqual qa qb a b a' b' k l left right one two e = compared_quiet GreaterOrEqual _ a b a' b' one two e
operator_so Add qa qb a b a' b' k l left right one two e = cc
operator_so Subtract qa qb a b a' b' k l left right one two e = cc
operator_so Multiply qa qb a b a' b' k l left right one two e = cc
operator_so Divide qa qb a b a' b' k l left right one two e = cc
operator_so Modulo qa qb a b a' b' k l left right one two e = cc

plain_so : (a a' : Option Side) → ((s : Side) → a ≡ Some s → a' ≡ Some s) → is_plain a ≡ true → (side_known a').quiet ≡ true
plain_so None a' one e = cc
plain_so (Some s) a' one e = ap (λ (x : Option Side). (side_known x).quiet) (one s refl) ∙ e

side_there : (a a' : Option Side) → ((s : Side) → a ≡ Some s → a' ≡ Some s) → is_some a ≡ true → is_side a' ≡ true
side_there None a' one e = cc
side_there (Some s) a' one e = ap is_side (one s refl)

unary_so : (op : UnOp) (q : Bool) (a a' whole : Option Side) (k : Known) → (q ≡ true → k.quiet ≡ true) → ((s : Side) → a ≡ Some s → a' ≡ Some s)
    → unary_quiet op q (is_some a) ≡ true → (unary_known op k a' whole).quiet ≡ true
unary_so Negate q a a' whole k own one e = cc
unary_so Not q a a' whole k own one e = own e
unary_so IsNull q a a' whole k own one e = side_there a a' one e
unary_so IsNotNull q a a' whole k own one e = side_there a a' one e

pub quiet_so : (o : Outside) (w : World) (f : Frame) (d : TableDef) (t : Tree) → IsRound o w f → quiet_in o d t ≡ true → (known w f d t).quiet ≡ true
quiet_so o w f d (binary op a b) round e =
    operator_so op (quiet_in o d a) (quiet_in o d b) (side_in o d a) (side_in o d b) (side_of w f d a) (side_of w f d b) (known w f d a) (known w f d b)
    (λ h. quiet_so o w f d a round h) (λ h. quiet_so o w f d b round h) (λ s h. side_so o w f d a s round h) (λ s h. side_so o w f d b s round h) e
quiet_so o w f d (unary op a) round e =
    unary_so op (quiet_in o d a) (side_in o d a) (side_of w f d a) (side_of w f d (unary op a)) (known w f d a)
    (λ h. quiet_so o w f d a round h) (λ s h. side_so o w f d a s round h) e
quiet_so o w f d (literal v) round e = plain_so (side_in o d (literal v)) (side_of w f d (literal v)) (λ s h. side_so o w f d (literal v) s round h) e
quiet_so o w f d (name n) round e = plain_so (side_in o d (name n)) (side_of w f d (name n)) (λ s h. side_so o w f d (name n) s round h) e
quiet_so o w f d (column t c) round e = plain_so (side_in o d (column t c)) (side_of w f d (column t c)) (λ s h. side_so o w f d (column t c) s round h) e
quiet_so o w f d (new_column c) round e = plain_so (side_in o d (new_column c)) (side_of w f d (new_column c)) (λ s h. side_so o w f d (new_column c) s round h) e
quiet_so o w f d (old_column c) round e = plain_so (side_in o d (old_column c)) (side_of w f d (old_column c)) (λ s h. side_so o w f d (old_column c) s round h) e
quiet_so o w f d (user_variable n) round e = plain_so (side_in o d (user_variable n)) (side_of w f d (user_variable n)) (λ s h. side_so o w f d (user_variable n) s round h) e
quiet_so o w f d (name_const n v) round e = plain_so (side_in o d (name_const n v)) (side_of w f d (name_const n v)) (λ s h. side_so o w f d (name_const n v) s round h) e
quiet_so o w f d (values_of c) round e = cc
quiet_so o w f d (system_variable n) round e = cc
quiet_so o w f d (is_in negated a ts) round e = cc
quiet_so o w f d (choice arms p) round e = cc
quiet_so o w f d (subquery q) round e = cc
quiet_so o w f d (exists q) round e = cc
quiet_so o w f d (call n ts) round e = cc
quiet_so o w f d (floor_rand a) round e = cc
quiet_so o w f d (built_in g ts) round e = cc
