-- Where a condition says a range, only the rows within it need be looked at.
use Rattle.std.proofs.Common.{◌≡◌, ℕ, List, [], ◌∷◌, ◌++◌, Bool, true, false, not, ◌&&◌, ◌||◌, cond, Option, Some, None, Ordering, Less, Equal, Greater, refl, sym, subst, ◌∙◌, arith}
use Rattle.std.specs.Prelude.{◌==◌, slice_index_or, slice_get}
use Rattle.std.specs.Option.{option_map_or}
use Rattle.std.specs.Ordering.{is_eq, is_le, is_gt, is_ge}
use Rattle.std.proofs.lemmas.Bool.{and_parts, and_from}
use Rattle.std.proofs.lemmas.Bool.Decides.{nat_tests}
use Rattle.val_types.specs.declared.value.Value.{Value}
use Rattle.val_types.specs.declared.value.Value.TheVariants.{Null, Int, Text}
use Rattle.val_types.specs.declared.definitions.ColumnDef.{ColumnDef}
use Rattle.val_types.specs.declared.definitions.TableDef.{TableDef}
use Rattle.val_types.specs.declared.ops.BinOp.{BinOp}
use Rattle.val_types.specs.declared.ops.BinOp.TheVariants.{Or, And, Equal as EqualOp, NullSafeEqual, NotEqual, Less as LessOp, LessOrEqual, Greater as GreaterOp, GreaterOrEqual, Add, Subtract, Multiply, Divide, Modulo}
use Rattle.val_types.specs.Fitting.{is_null}
use Rattle.val_types.specs.Keys.{values_at}
use Rattle.val_types.specs.Order.{value_order}
use Rattle.sql_tree.specs.Tree.{Tree, literal, name, column, new_column, old_column, user_variable, system_variable, unary, binary, is_in as is_among, choice, subquery, exists, call, built_in, values_of, name_const, floor_rand, part}
use Rattle.value_ranges.specs.Ranges.{Range, everything, is_in, met}
use Rattle.value_ranges.specs.Keys.{first_of, row_is_in}
use Rattle.value_ranges.proofs.Meeting.{ranges_meet}
use Rattle.where_keys.specs.sql_meaning.Frames.{World, Frame}
use Rattle.where_keys.specs.where_laws.Facts.{Way, equal, unequal, below, at_most, above, at_least, stands_so, turned, way_of, Fact, agrees}
use Rattle.where_keys.specs.where_laws.Sides.{Side, of_column, standing, side_of}
use Rattle.where_keys.specs.where_laws.Known.{Known, says, is_null_safe, is_sure, column_beside, sides_compared, compared_sides, compared, both_known, operator_known, known}
use Rattle.where_keys.proofs.of_where_laws.Facts.{agrees_both}
use Rattle.where_keys.proofs.of_where_laws.Enough.{facts_are_enough}
use Rattle.where_keys.specs.declared.outside.Outside.{Outside}
use Rattle.where_keys.specs.Sides.{IsRound, side_in, sides_compare}
use Rattle.where_keys.specs.Keys.{quiet_in}
use Rattle.where_keys.proofs.Known.{side_so, beside_quiet, both_known_sides, quiet_so}
use Rattle.where_ranges.specs.Saying.{Said, nothing_said, range_by, is_asked, column_range, sides_range, compared_said, followed, operator_said, said_in, key_range}
use Rattle.where_ranges.specs.Laws.{NamedRangesAreEnough}

-- ---- what is said of a column

-- rows of which some facts are so have a value in a range in a column
abbrev Within : ℕ → Range → List Fact → Type 0
Within place range facts = (row : List Value) → agrees facts row ≡ true → is_in range (slice_index_or row place Null) ≡ true

-- what a condition was seen to say of a column is so of what is known of it
record SaidIsSo (place : ℕ) (s : Said) (k : Known) : Type 0 where
  first : Within place s.range k.facts
  kept : Within place s.range k.kept
  calm : s.calm ≡ true → k.quiet ≡ true

nothing_so : (place : ℕ) (quiet : Bool) (k : Known) → (quiet ≡ true → k.quiet ≡ true) → SaidIsSo place (nothing_said quiet) k
nothing_so place quiet k own = record { first = λ row agree. refl; kept = λ row agree. refl; calm = own }

none_so : (place : ℕ) (k : Known) → SaidIsSo place (nothing_said false) k
none_so place k = nothing_so place false k (λ e. cc)

-- ---- AND

within_left : (place : ℕ) (range : Range) (xs ys : List Fact) → Within place range xs → Within place range (xs ++ ys)
within_left place range xs ys left row agree = left row (and_parts (agrees xs row) (agrees ys row) (sym (agrees_both xs ys row) ∙ agree)).0

within_either : (place : ℕ) (range : Range) (test : Bool) (xs ys : List Fact) → Within place range xs → Within place range ys → Within place range (cond test xs ys)
within_either place range true xs ys left right = left
within_either place range false xs ys left right = right

within_where : (place : ℕ) (range : Range) (test : Bool) (xs : List Fact) → test ≡ true → Within place range xs → Within place range (cond test xs [])
within_where place range true xs e own = own
within_where place range false xs e own = cc

within_both : (place : ℕ) (one other : Range) (xs ys : List Fact) → Within place one xs → Within place other ys → Within place (met one other) (xs ++ ys)
within_both place one other xs ys left right row agree =
    let both = and_parts (agrees xs row) (agrees ys row) (sym (agrees_both xs ys row) ∙ agree) in
    ranges_meet one other (slice_index_or row place Null)
    ∙ and_from (is_in one (slice_index_or row place Null)) (is_in other (slice_index_or row place Null)) (left row both.0) (right row both.1)

followed_so : (place : ℕ) (a b : Said) (k l : Known) → SaidIsSo place a k → SaidIsSo place b l → SaidIsSo place (followed a b) (both_known k l)
followed_so place a b k l left right = step a.calm refl
  where
    step : (calm : Bool) → a.calm ≡ calm → SaidIsSo place (cond calm (record { range = met a.range b.range; calm = b.calm }) a) (both_known k l)
    step true e =
        let quiet : k.quiet ≡ true = left.calm e in
        record {
          first = within_both place a.range b.range k.facts (cond k.quiet l.facts []) left.first (within_where place b.range k.quiet l.facts quiet right.first);
          kept = within_both place a.range b.range (cond l.quiet k.kept k.facts) (cond k.quiet l.kept []) (within_either place a.range l.quiet k.kept k.facts left.kept left.first)
              (within_where place b.range k.quiet l.kept quiet right.kept);
          calm = λ h. and_from k.quiet l.quiet quiet (right.calm h);
        }
    step false e = record {
      first = within_left place a.range k.facts (cond k.quiet l.facts []) left.first;
      kept = within_left place a.range (cond l.quiet k.kept k.facts) (cond k.quiet l.kept []) (within_either place a.range l.quiet k.kept k.facts left.kept left.first);
      calm = λ h. let never : true ≡ false = sym h ∙ e in cc;
    }

-- ---- comparisons

just_low : (x : Bool) → x ≡ true → (x && true) ≡ true
just_low x e = and_from x true e refl

equal_ends : (o : Ordering) → is_eq o ≡ true → (is_ge o && is_le o) ≡ true
equal_ends Less e = cc
equal_ends Equal e = refl
equal_ends Greater e = cc

-- a value that stands so to another is in the range of these
by_way : (way : Way) (v x : Value) → stands_so way (value_order x v) ≡ true → is_in (range_by (Some way) v) x ≡ true
by_way equal v x e = equal_ends (value_order x v) e
by_way unequal v x e = refl
by_way below v x e = e
by_way at_most v x e = e
by_way above v x e = just_low (is_gt (value_order x v)) e
by_way at_least v x e = just_low (is_ge (value_order x v)) e

one_fact : (at : ℕ) (way : Way) (v : Value) → Within at (range_by (Some way) v) (record { place = at; way = way; value = v } ∷ [])
one_fact at way v row agree =
    by_way way v (slice_index_or row at Null) (and_parts (stands_so way (value_order (slice_index_or row at Null) v)) true agree).0

fact_so : (sure : Bool) (at : ℕ) (way : Way) (v : Value) → sure ≡ true
    → SaidIsSo at (record { range = range_by (Some way) v; calm = true }) (says sure (record { place = at; way = way; value = v }))
fact_so true at way v e = record { first = one_fact at way v; kept = one_fact at way v; calm = λ h. refl }
fact_so false at way v e = cc

or_true : (a b : Bool) → b ≡ true → a || b ≡ true
or_true true b e = refl
or_true false b e = e

there_so : (op : BinOp) (way : Way) (at : ℕ) (c : ColumnDef) (v : Value) → not c.nullable ≡ true → not (is_null v) ≡ true
    → SaidIsSo at (record { range = range_by (Some way) v; calm = true }) (column_beside op way at c v)
there_so op way at c Null sure there = cc
there_so op way at c (Int n) sure there = fact_so (is_sure op c) at way (Int n) (or_true (is_null_safe op) (not c.nullable) sure)
there_so op way at c (Text t) sure there = fact_so (is_sure op c) at way (Text t) (or_true (is_null_safe op) (not c.nullable) sure)

column_so : (op : BinOp) (way : Way) (place at : ℕ) (c : ColumnDef) (v : Value)
    → SaidIsSo place (record { range = column_range place at c (Some way) v; calm = true }) (column_beside op way at c v)
column_so op way place at c v = step (is_asked place at c v) refl
  where
    place_is : (m n : ℕ) → (m == n) ≡ true → m ≡ n
    place_is m n h = grind (arith, nat_tests)

    step : (here : Bool) → is_asked place at c v ≡ here
        → SaidIsSo place (record { range = cond here (range_by (Some way) v) everything; calm = true }) (column_beside op way at c v)
    step true e =
        let both = and_parts (at == place && not c.nullable) (not (is_null v)) e in
        let first = and_parts (at == place) (not c.nullable) both.0 in
        subst (λ (p : ℕ). SaidIsSo p (record { range = range_by (Some way) v; calm = true }) (column_beside op way at c v)) (place_is at place first.0)
        (there_so op way at c v first.1 both.1)
    step false e = nothing_so place true (column_beside op way at c v) (λ h. beside_quiet op way at c v)

sides_so : (op : BinOp) (way : Way) (place : ℕ) (a b : Side) → SaidIsSo place (record { range = sides_range place (Some way) a b; calm = true }) (sides_compared op way a b)
sides_so op way place (of_column at c) (of_column other d) = nothing_so place true (sides_compared op way (of_column at c) (of_column other d)) (λ h. refl)
sides_so op way place (of_column at c) (standing v) = column_so op way place at c v
sides_so op way place (standing v) (of_column at c) = column_so op (turned way) place at c v
sides_so op way place (standing v) (standing w) = nothing_so place true (sides_compared op way (standing v) (standing w)) (λ h. refl)

compared_so : (op : BinOp) (way : Way) (place : ℕ) (a b a' b' : Option Side) → ((s : Side) → a ≡ Some s → a' ≡ Some s) → ((s : Side) → b ≡ Some s → b' ≡ Some s)
    → SaidIsSo place (compared_said place (Some way) a b) (compared_sides op way a' b')
compared_so op way place None b a' b' left right = none_so place (compared_sides op way a' b')
compared_so op way place (Some x) None a' b' left right = none_so place (compared_sides op way a' b')
compared_so op way place (Some x) (Some y) a' b' left right = step (sides_compare x y) refl
  where
    step : (compares : Bool) → sides_compare x y ≡ compares
        → SaidIsSo place (cond compares (record { range = sides_range place (Some way) x y; calm = true }) (nothing_said false)) (compared_sides op way a' b')
    step true e =
        subst (λ (k : Known). SaidIsSo place (record { range = sides_range place (Some way) x y; calm = true }) k)
        (sym (both_known_sides op way a' b' x y (left x refl) (right y refl) e)) (sides_so op way place x y)
    step false e = none_so place (compared_sides op way a' b')

-- ---- conditions

operator_so : (op : BinOp) (place : ℕ) (a b : Said) (quiet : Bool) (k l : Known) (x y x' y' : Option Side) → SaidIsSo place a k → SaidIsSo place b l
    → ((s : Side) → x ≡ Some s → x' ≡ Some s) → ((s : Side) → y ≡ Some s → y' ≡ Some s)
    → (quiet ≡ true → (operator_known op k l (compared op (way_of op) x' y')).quiet ≡ true)
    → SaidIsSo place (operator_said op a b (compared_said place (way_of op) x y) quiet) (operator_known op k l (compared op (way_of op) x' y'))
operator_so And place a b quiet k l x y x' y' left right one two own = followed_so place a b k l left right
operator_so Or place a b quiet k l x y x' y' left right one two own = nothing_so place quiet _ own
operator_so EqualOp place a b quiet k l x y x' y' left right one two own = compared_so EqualOp equal place x y x' y' one two
operator_so NullSafeEqual place a b quiet k l x y x' y' left right one two own = compared_so NullSafeEqual equal place x y x' y' one two
operator_so NotEqual place a b quiet k l x y x' y' left right one two own = compared_so NotEqual unequal place x y x' y' one two
operator_so LessOp place a b quiet k l x y x' y' left right one two own = compared_so LessOp below place x y x' y' one two
operator_so LessOrEqual place a b quiet k l x y x' y' left right one two own = compared_so LessOrEqual at_most place x y x' y' one two
operator_so GreaterOp place a b quiet k l x y x' y' left right one two own = compared_so GreaterOp above place x y x' y' one two
operator_so GreaterOrEqual place a b quiet k l x y x' y' left right one two own = compared_so GreaterOrEqual at_least place x y x' y' one two
operator_so Add place a b quiet k l x y x' y' left right one two own = nothing_so place quiet _ own
operator_so Subtract place a b quiet k l x y x' y' left right one two own = nothing_so place quiet _ own
operator_so Multiply place a b quiet k l x y x' y' left right one two own = nothing_so place quiet _ own
operator_so Divide place a b quiet k l x y x' y' left right one two own = nothing_so place quiet _ own
operator_so Modulo place a b quiet k l x y x' y' left right one two own = nothing_so place quiet _ own

other_so : (o : Outside) (w : World) (f : Frame) (d : TableDef) (place : ℕ) (t : Tree) → IsRound o w f → SaidIsSo place (nothing_said (quiet_in o d t)) (known w f d t)
other_so o w f d place t round = nothing_so place (quiet_in o d t) (known w f d t) (λ e. quiet_so o w f d t round e)

said_so : (o : Outside) (w : World) (f : Frame) (d : TableDef) (place : ℕ) (t : Tree) → IsRound o w f → SaidIsSo place (said_in o d place t) (known w f d t)
said_so o w f d place (binary op a b) round =
    operator_so op place (said_in o d place a) (said_in o d place b) (quiet_in o d (binary op a b)) (known w f d a) (known w f d b)
    (side_in o d a) (side_in o d b) (side_of w f d a) (side_of w f d b) (said_so o w f d place a round) (said_so o w f d place b round)
    (λ s h. side_so o w f d a s round h) (λ s h. side_so o w f d b s round h) (λ e. quiet_so o w f d (binary op a b) round e)
said_so o w f d place (unary op a) round = other_so o w f d place (unary op a) round
said_so o w f d place (literal v) round = other_so o w f d place (literal v) round
said_so o w f d place (name n) round = other_so o w f d place (name n) round
said_so o w f d place (column t c) round = other_so o w f d place (column t c) round
said_so o w f d place (new_column c) round = other_so o w f d place (new_column c) round
said_so o w f d place (old_column c) round = other_so o w f d place (old_column c) round
said_so o w f d place (user_variable n) round = other_so o w f d place (user_variable n) round
said_so o w f d place (name_const n v) round = other_so o w f d place (name_const n v) round
said_so o w f d place (values_of c) round = other_so o w f d place (values_of c) round
said_so o w f d place (system_variable n) round = other_so o w f d place (system_variable n) round
said_so o w f d place (is_among negated a ts) round = other_so o w f d place (is_among negated a ts) round
said_so o w f d place (choice arms p) round = other_so o w f d place (choice arms p) round
said_so o w f d place (subquery q) round = other_so o w f d place (subquery q) round
said_so o w f d place (exists q) round = other_so o w f d place (exists q) round
said_so o w f d place (call n ts) round = other_so o w f d place (call n ts) round
said_so o w f d place (floor_rand a) round = other_so o w f d place (floor_rand a) round
said_so o w f d place (built_in g ts) round = other_so o w f d place (built_in g ts) round

-- ---- the first column of the primary key

leading_so : (range : ℕ → Range) (row : List Value) → ((place : ℕ) → is_in (range place) (slice_index_or row place Null) ≡ true) → (places : List ℕ)
    → is_in (option_map_or range (slice_get places 0) everything) (first_of (values_at places row)) ≡ true
leading_so range row within [] = refl
leading_so range row within (place ∷ places) = within place

pub named_ranges_are_enough : NamedRangesAreEnough
named_ranges_are_enough o d t = record {
  gives = λ w f round rows kept scene.
      facts_are_enough w f d (part t) (row_is_in d (key_range o d t)) rows scene
      (λ row agree. leading_so (λ (place : ℕ). (said_in o d place t).range) row (λ place. (said_so o w f d place t round).kept row agree) d.primary) kept.fit;
}
