-- What is known of conditions is so of them.
use Rattle.std.proofs.Common.{◌≡◌, ℕ, List, [], ◌∷◌, ◌++◌, Bool, true, false, not, ◌&&◌, ◌||◌, cond, Option, Some, None, refl, sym, ap, subst, ◌∙◌, append-nil}
use Rattle.std.specs.Prelude.{slice_get, slice_index_or}
use Rattle.std.specs.Option.{option_map}
use Rattle.std.proofs.lemmas.Bool.{and_parts, true≢false}
use Rattle.val_types.specs.declared.value.Value.{Value}
use Rattle.val_types.specs.declared.value.Value.TheVariants.{Null, Int, Text}
use Rattle.val_types.specs.declared.definitions.ColumnDef.{ColumnDef}
use Rattle.val_types.specs.declared.definitions.TableDef.{TableDef}
use Rattle.val_types.specs.declared.ops.BinOp.{BinOp}
use Rattle.val_types.specs.declared.ops.BinOp.TheVariants.{Or, And, Equal, NullSafeEqual, NotEqual, Less, LessOrEqual, Greater, GreaterOrEqual, Add, Subtract, Multiply, Divide, Modulo}
use Rattle.val_types.specs.declared.ops.UnOp.{UnOp}
use Rattle.val_types.specs.declared.ops.UnOp.TheVariants.{Negate, Not, IsNull, IsNotNull}
use Rattle.val_types.specs.Fitting.{row_fits, is_null}
use Rattle.value_rules.specs.Operators.{truth_value, value_of_truth, both, either, false_decides, unary_value}
use Rattle.value_rules.specs.Functions.{is_known_true}
use Rattle.sql_tree.specs.Tree.{Tree, literal, name, column, new_column, old_column, user_variable, system_variable, unary, binary, is_in, choice, subquery, exists, call, built_in, values_of, name_const, floor_rand}
use Rattle.sql_meaning.specs.Scenes.{Scene, Ending, done, then_do, answered}
use Rattle.sql_meaning.specs.Frames.{World, Frame, sees}
use Rattle.sql_meaning.specs.Values.{value}
use Rattle.where_laws.specs.Facts.{Way, turned, way_of, Fact, is_so, agrees}
use Rattle.where_laws.specs.Sides.{Side, of_column, standing, side_value, side_of, kind_of, do_compare, is_condition}
use Rattle.where_laws.specs.Known.{Known, nothing_known, just_quiet, says, is_null_safe, is_sure, column_beside, sides_compared, compared_sides, compared, both_known, operator_known, side_known, is_side, unary_known, known}
use Rattle.where_laws.specs.Laws.{GivesTruth, Guards, IsQuiet, IsAsKnown, KnownIsSo, NothingGuards, WholesGuard, QuietsGuard, FrontsGuard}
use Rattle.where_laws.proofs.Facts.{agrees_both, turned_way}
use Rattle.where_laws.proofs.Sides.{fits_at, sides_are_so}
use Rattle.where_laws.proofs.Comparing.{IsThere, sides_there, side_may_be, compared_by, condition_truth}
use Rattle.where_laws.proofs.Truths.{just, and_gives, or_gives, not_gives, both_some, both_false, left_not_true, right_not_true, truth_by, comparison_gives, known_left, known_right, not_so}

-- ---- AND

right_false : (p q : Bool) → p && q ≡ false → p ≡ true → q ≡ false
right_false true q e h = e
right_false false q e h = cc

whole_decides : (p : Bool) → false_decides (Some p) ≡ None → p ≡ true
whole_decides true e = refl
whole_decides false e = cc

pub nothing_guards : NothingGuards
nothing_guards world frame d t = record { all = λ e. cc; first = λ row scene fits e. cc }

pub wholes_guard : WholesGuard
wholes_guard world frame d whole xs ys a b left right = record {
  all = λ e row scene fits.
      and_gives world (sees d row frame) a b scene (Some (agrees xs row)) (Some (agrees ys row)) (just scene (Some (agrees xs row)) (value world (sees d row frame) a scene) (left.all refl row scene fits))
      (λ h. just scene (Some (agrees ys row)) (value world (sees d row frame) b scene) (right.all e row scene fits))
      ∙ ap (λ (v : Value). done v scene) (both_some (agrees xs row) (agrees ys row))
      ∙ ap (λ (b : Bool). done (truth_value b) scene) (sym (agrees_both xs ys row));
  first = λ row scene fits other.
      let none : agrees xs row && agrees ys row ≡ false = sym (agrees_both xs ys row) ∙ other in
      and_gives world (sees d row frame) a b scene (Some (agrees xs row)) (Some false) (just scene (Some (agrees xs row)) (value world (sees d row frame) a scene) (left.all refl row scene fits))
      (λ h. just scene (Some false) (value world (sees d row frame) b scene) (right.first row scene fits (right_false (agrees xs row) (agrees ys row) none (whole_decides (agrees xs row) h))))
      ∙ ap (λ (p : Option Bool). done (value_of_truth p) scene) (both_false (Some (agrees xs row)));
}

-- what the front of AND makes false is false
front_false : (world : World) (frame : Frame) (d : TableDef) (whole : Bool) (xs : List Fact) (a b : Tree) (row : List Value) (scene : Scene) → Guards world frame d whole xs a
    → row_fits d.columns row ≡ true → agrees xs row ≡ false → value world (sees d row frame) (binary And a b) scene ≡ done (truth_value false) scene
front_false world frame d whole xs a b row scene left fits other =
    and_gives world (sees d row frame) a b scene (Some false) (Some false) (just scene (Some false) (value world (sees d row frame) a scene) (left.first row scene fits other)) (λ h. cc)

pub quiets_guard : QuietsGuard
quiets_guard world frame d whole other xs ys a b quiet left right = record {
  all = λ e. cc;
  first = λ row scene fits none. step row scene fits (agrees xs row) refl (sym (agrees_both xs ys row) ∙ none);
}
  where
    step : (row : List Value) (scene : Scene) → row_fits d.columns row ≡ true → (p : Bool) → agrees xs row ≡ p → p && agrees ys row ≡ false
        → value world (sees d row frame) (binary And a b) scene ≡ done (truth_value false) scene
    step row scene fits false is none = front_false world frame d whole xs a b row scene left fits is
    step row scene fits true is none =
        let front = quiet.gives row scene fits in
        and_gives world (sees d row frame) a b scene front.0 (Some false) front.1 (λ h. just scene (Some false) (value world (sees d row frame) b scene) (right.first row scene fits none))
        ∙ ap (λ (p : Option Bool). done (value_of_truth p) scene) (both_false front.0)

pub fronts_guard : FrontsGuard
fronts_guard world frame d whole xs a b left = record { all = λ e. cc; first = λ row scene fits other. front_false world frame d whole xs a b row scene left fits other }

-- ---- from what is known of both sides of AND

both_guard : (world : World) (frame : Frame) (d : TableDef) (a b : Tree) (whole quiet other : Bool) (xs ys : List Fact) → Guards world frame d whole xs a → (whole ≡ true → quiet ≡ true)
    → (quiet ≡ true → IsQuiet world frame d a) → Guards world frame d other ys b → Guards world frame d (whole && other) (xs ++ cond quiet ys []) (binary And a b)
both_guard world frame d a b true true other xs ys left calm quiet right = wholes_guard world frame d other xs ys a b left right
both_guard world frame d a b true false other xs ys left calm quiet right = absurd (true≢false (sym (calm refl)))
both_guard world frame d a b false true other xs ys left calm quiet right = quiets_guard world frame d false other xs ys a b (quiet refl) left right
both_guard world frame d a b false false other xs ys left calm quiet right =
    subst (λ (facts : List Fact). Guards world frame d false facts (binary And a b)) (sym (append-nil xs)) (fronts_guard world frame d false xs a b left)

both_calm : (p q r s : Bool) → (p ≡ true → q ≡ true) → (r ≡ true → s ≡ true) → p && r ≡ true → q && s ≡ true
both_calm true q true s left right e = ap (λ (b : Bool). b && s) (left refl) ∙ right refl
both_calm true q false s left right e = cc
both_calm false q r s left right e = cc

both_quiet : (world : World) (frame : Frame) (d : TableDef) (a b : Tree) → IsQuiet world frame d a → IsQuiet world frame d b → IsQuiet world frame d (binary And a b)
both_quiet world frame d a b left right = record {
  gives = λ row scene fits.
      let p = left.gives row scene fits in let q = right.gives row scene fits in
      (both p.0 q.0, just scene (both p.0 q.0) (value world (sees d row frame) (binary And a b) scene) (and_gives world (sees d row frame) a b scene p.0 q.0 p.1 (λ h. q.1)));
}

-- on a row, where AND is not true because its left side is not
abbrev IsNotTrue : World → Frame → TableDef → Tree → List Value → Scene → Type 0
IsNotTrue world frame d t row scene = (truth : Option Bool) × (is_known_true truth ≡ false) × GivesTruth scene truth (value world (sees d row frame) t scene)

left_keeps : (world : World) (frame : Frame) (d : TableDef) (a b : Tree) (k l : Known) → IsAsKnown world frame d k a → IsAsKnown world frame d l b → (row : List Value) (scene : Scene)
    → row_fits d.columns row ≡ true → (quiet : Bool) → l.quiet ≡ quiet → agrees (cond quiet k.kept k.facts) row ≡ false → IsNotTrue world frame d (binary And a b) row scene
left_keeps world frame d a b k l left right row scene fits true is other =
    let p = left.keeps.gives row scene fits other in let q = (right.quiet is).gives row scene fits in
    (both p.0 q.0, left_not_true p.0 q.0 p.1, just scene (both p.0 q.0) (value world (sees d row frame) (binary And a b) scene) (and_gives world (sees d row frame) a b scene p.0 q.0 p.2 (λ h. q.1)))
left_keeps world frame d a b k l left right row scene fits false is other =
    (Some false, refl, just scene (Some false) (value world (sees d row frame) (binary And a b) scene) (front_false world frame d k.whole k.facts a b row scene left.guards fits other))

right_keeps : (world : World) (frame : Frame) (d : TableDef) (a b : Tree) (k l : Known) → IsAsKnown world frame d k a → IsAsKnown world frame d l b → (row : List Value) (scene : Scene)
    → row_fits d.columns row ≡ true → (quiet : Bool) → k.quiet ≡ quiet → agrees (cond quiet l.kept []) row ≡ false → IsNotTrue world frame d (binary And a b) row scene
right_keeps world frame d a b k l left right row scene fits true is other =
    let p = (left.quiet is).gives row scene fits in let q = right.keeps.gives row scene fits other in
    (both p.0 q.0, right_not_true p.0 q.0 q.1, just scene (both p.0 q.0) (value world (sees d row frame) (binary And a b) scene) (and_gives world (sees d row frame) a b scene p.0 q.0 p.1 (λ h. q.2)))
right_keeps world frame d a b k l left right row scene fits false is other = cc

both_keep : (world : World) (frame : Frame) (d : TableDef) (a b : Tree) (k l : Known) → IsAsKnown world frame d k a → IsAsKnown world frame d l b → (row : List Value) (scene : Scene)
    → row_fits d.columns row ≡ true → (p : Bool) → agrees (cond l.quiet k.kept k.facts) row ≡ p → p && agrees (cond k.quiet l.kept []) row ≡ false → IsNotTrue world frame d (binary And a b) row scene
both_keep world frame d a b k l left right row scene fits false is none = left_keeps world frame d a b k l left right row scene fits l.quiet refl is
both_keep world frame d a b k l left right row scene fits true is none = right_keeps world frame d a b k l left right row scene fits k.quiet refl none

both_so : (world : World) (frame : Frame) (d : TableDef) (a b : Tree) (k l : Known) → IsAsKnown world frame d k a → IsAsKnown world frame d l b → IsAsKnown world frame d (both_known k l) (binary And a b)
both_so world frame d a b k l left right = record {
  guards = both_guard world frame d a b k.whole k.quiet l.whole k.facts l.facts left.guards left.calm left.quiet right.guards;
  calm = both_calm k.whole k.quiet l.whole l.quiet left.calm right.calm;
  quiet = λ e. let parts = and_parts k.quiet l.quiet e in both_quiet world frame d a b (left.quiet parts.0) (right.quiet parts.1);
  keeps = record {
    gives = λ row scene fits other.
        both_keep world frame d a b k l left right row scene fits (agrees (cond l.quiet k.kept k.facts) row) refl
        (sym (agrees_both (cond l.quiet k.kept k.facts) (cond k.quiet l.kept []) row) ∙ other);
  };
}

-- ---- conditions of which nothing is known but that they change nothing

quiet_so : (world : World) (frame : Frame) (d : TableDef) (t : Tree) (quiet : Bool) → (quiet ≡ true → IsQuiet world frame d t) → IsAsKnown world frame d (just_quiet quiet) t
quiet_so world frame d t quiet is = record {
  guards = nothing_guards world frame d t;
  calm = λ e. cc;
  quiet = is;
  keeps = record { gives = λ row scene fits other. cc };
}

nothing_so : (world : World) (frame : Frame) (d : TableDef) (t : Tree) → IsAsKnown world frame d nothing_known t
nothing_so world frame d t = quiet_so world frame d t false (λ e. cc)

either_so : (world : World) (frame : Frame) (d : TableDef) (a b : Tree) (k l : Known) → IsAsKnown world frame d k a → IsAsKnown world frame d l b
    → IsAsKnown world frame d (just_quiet (k.quiet && l.quiet)) (binary Or a b)
either_so world frame d a b k l left right = quiet_so world frame d (binary Or a b) (k.quiet && l.quiet) (λ e.
    let parts = and_parts k.quiet l.quiet e in
    record {
      gives = λ row scene fits.
          let p = (left.quiet parts.0).gives row scene fits in let q = (right.quiet parts.1).gives row scene fits in
          (either p.0 q.0, just scene (either p.0 q.0) (value world (sees d row frame) (binary Or a b) scene) (or_gives world (sees d row frame) a b scene p.0 q.0 p.1 q.1));
    })

not_so_known : (world : World) (frame : Frame) (d : TableDef) (a : Tree) (k : Known) → IsAsKnown world frame d k a → IsAsKnown world frame d (just_quiet k.quiet) (unary Not a)
not_so_known world frame d a k inner = quiet_so world frame d (unary Not a) k.quiet (λ e. record {
  gives = λ row scene fits.
      let p = (inner.quiet e).gives row scene fits in
      (option_map not p.0, just scene (option_map not p.0) (value world (sees d row frame) (unary Not a) scene) (not_gives world (sees d row frame) a scene p.0 p.1));
})

-- a side alone
side_so : (world : World) (frame : Frame) (d : TableDef) (t : Tree) (side : Option Side) → side_of world frame d t ≡ side → IsAsKnown world frame d (side_known side) t
side_so world frame d t None is = nothing_so world frame d t
side_so world frame d t (Some side) is = quiet_so world frame d t (is_condition (kind_of side)) (λ e. record {
  gives = λ row scene fits.
      let truth = condition_truth (kind_of side) (side_value side row) (side_may_be d side row (sides_there world frame d t side is) fits) e in
      (truth.0, record { given = side_value side row; ends = sides_are_so world frame d t side is row scene fits; is = truth.1 });
})

null_so : (world : World) (frame : Frame) (d : TableDef) (a : Tree) (side : Option Side) → side_of world frame d a ≡ side → IsAsKnown world frame d (just_quiet (is_side side)) (unary IsNull a)
null_so world frame d a None is = nothing_so world frame d (unary IsNull a)
null_so world frame d a (Some side) is = quiet_so world frame d (unary IsNull a) true (λ e. record {
  gives = λ row scene fits. (
    Some (is_null (side_value side row)),
    just scene (Some (is_null (side_value side row))) (value world (sees d row frame) (unary IsNull a) scene)
        (ap (λ (m : Ending Value). then_do m (λ x. answered (unary_value IsNull x))) (sides_are_so world frame d a side is row scene fits)),
  );
})

not_null_so : (world : World) (frame : Frame) (d : TableDef) (a : Tree) (side : Option Side) → side_of world frame d a ≡ side → IsAsKnown world frame d (just_quiet (is_side side)) (unary IsNotNull a)
not_null_so world frame d a None is = nothing_so world frame d (unary IsNotNull a)
not_null_so world frame d a (Some side) is = quiet_so world frame d (unary IsNotNull a) true (λ e. record {
  gives = λ row scene fits. (
    Some (not (is_null (side_value side row))),
    just scene (Some (not (is_null (side_value side row)))) (value world (sees d row frame) (unary IsNotNull a) scene)
        (ap (λ (m : Ending Value). then_do m (λ x. answered (unary_value IsNotNull x))) (sides_are_so world frame d a side is row scene fits)),
  );
})

-- ---- comparisons

-- what the comparison of two sides gives on each row that fits
abbrev Gives : World → Frame → TableDef → Tree → (List Value → Option Bool) → Type 0
Gives world frame d t truth = (row : List Value) (scene : Scene) → row_fits d.columns row ≡ true → value world (sees d row frame) t scene ≡ done (value_of_truth (truth row)) scene

given_quiet : (world : World) (frame : Frame) (d : TableDef) (t : Tree) (truth : List Value → Option Bool) → Gives world frame d t truth → IsQuiet world frame d t
given_quiet world frame d t truth gives = record { gives = λ row scene fits. (truth row, just scene (truth row) (value world (sees d row frame) t scene) (gives row scene fits)) }

one_fact : (fact : Fact) (row : List Value) → agrees (fact ∷ []) row ≡ is_so fact row
one_fact fact row = and_true (is_so fact row)
  where
    and_true : (b : Bool) → b && true ≡ b
    and_true true = refl
    and_true false = refl

said : (world : World) (frame : Frame) (d : TableDef) (t : Tree) (fact : Fact) (truth : List Value → Option Bool) (sure : Bool) → Gives world frame d t truth
    → (sure ≡ true → (row : List Value) → row_fits d.columns row ≡ true → truth row ≡ Some (is_so fact row))
    → ((row : List Value) → is_so fact row ≡ false → is_known_true (truth row) ≡ false)
    → IsAsKnown world frame d (says sure fact) t
said world frame d t fact truth true gives knows other = record {
  guards = record {
    all = λ e row scene fits. gives row scene fits ∙ ap (λ (p : Option Bool). done (value_of_truth p) scene) (knows refl row fits) ∙ ap (λ (b : Bool). done (truth_value b) scene) (sym (one_fact fact row));
    first = λ row scene fits none. gives row scene fits ∙ ap (λ (p : Option Bool). done (value_of_truth p) scene) (knows refl row fits)
        ∙ ap (λ (b : Bool). done (truth_value b) scene) (sym (one_fact fact row) ∙ none);
  };
  calm = λ e. refl;
  quiet = λ e. given_quiet world frame d t truth gives;
  keeps = record {
    gives = λ row scene fits none. (truth row, other row (sym (one_fact fact row) ∙ none), just scene (truth row) (value world (sees d row frame) t scene) (gives row scene fits));
  };
}
said world frame d t fact truth false gives knows other = record {
  guards = nothing_guards world frame d t;
  calm = λ e. cc;
  quiet = λ e. given_quiet world frame d t truth gives;
  keeps = record {
    gives = λ row scene fits none. (truth row, other row (sym (one_fact fact row) ∙ none), just scene (truth row) (value world (sees d row frame) t scene) (gives row scene fits));
  };
}

-- where a comparison is sure, the column is not NULL or `<=>` asks
surely : (safe nullable ok null : Bool) → safe || not nullable ≡ true → ok && (nullable || not null) ≡ true → safe || not null ≡ true
surely true nullable ok null sure holds = refl
surely false true ok null sure holds = cc
surely false false true null sure holds = holds
surely false false false null sure holds = cc

module _ (world : World) (frame : Frame) (d : TableDef) (t : Tree) (op : BinOp) (way : Way) (place : ℕ) (c : ColumnDef) (at : slice_get d.columns place ≡ Some c) where
  sure_at : (row : List Value) → row_fits d.columns row ≡ true → is_sure op c ≡ true → is_null_safe op || not (is_null (slice_index_or row place Null)) ≡ true
  sure_at row fits sure = surely (is_null_safe op) c.nullable _ (is_null (slice_index_or row place Null)) sure (fits_at d.columns row place c fits at).1

  left_said : (v : Value) → is_null v ≡ false → Gives world frame d t (λ row. truth_by (is_null_safe op) way (slice_index_or row place Null) v)
      → IsAsKnown world frame d (says (is_sure op c) (record { place = place; way = way; value = v })) t
  left_said v there gives = said world frame d t (record { place = place; way = way; value = v }) (λ row. truth_by (is_null_safe op) way (slice_index_or row place Null) v) (is_sure op c) gives
      (λ sure row fits. known_left (is_null_safe op) way (slice_index_or row place Null) v (sure_at row fits sure) there)
      (λ row other. not_so (is_null_safe op) way (slice_index_or row place Null) v other)

  left_beside : (v : Value) → Gives world frame d t (λ row. truth_by (is_null_safe op) way (slice_index_or row place Null) v) → IsAsKnown world frame d (column_beside op way place c v) t
  left_beside Null gives = quiet_so world frame d t true (λ e. given_quiet world frame d t _ gives)
  left_beside (Int n) gives = left_said (Int n) refl gives
  left_beside (Text s) gives = left_said (Text s) refl gives

  right_said : (v : Value) → is_null v ≡ false → Gives world frame d t (λ row. truth_by (is_null_safe op) way v (slice_index_or row place Null))
      → IsAsKnown world frame d (says (is_sure op c) (record { place = place; way = turned way; value = v })) t
  right_said v there gives = said world frame d t (record { place = place; way = turned way; value = v }) (λ row. truth_by (is_null_safe op) way v (slice_index_or row place Null)) (is_sure op c) gives
      (λ sure row fits. known_right (is_null_safe op) way (slice_index_or row place Null) v (sure_at row fits sure) there ∙ ap Some (turned_way way v (slice_index_or row place Null)))
      (λ row other. not_so (is_null_safe op) way v (slice_index_or row place Null) (turned_way way v (slice_index_or row place Null) ∙ other))

  right_beside : (v : Value) → Gives world frame d t (λ row. truth_by (is_null_safe op) way v (slice_index_or row place Null)) → IsAsKnown world frame d (column_beside op (turned way) place c v) t
  right_beside Null gives = quiet_so world frame d t true (λ e. given_quiet world frame d t _ gives)
  right_beside (Int n) gives = right_said (Int n) refl gives
  right_beside (Text s) gives = right_said (Text s) refl gives

sides_said : (world : World) (frame : Frame) (d : TableDef) (t : Tree) (op : BinOp) (way : Way) (a b : Side) → IsThere d a → IsThere d b
    → Gives world frame d t (λ row. truth_by (is_null_safe op) way (side_value a row) (side_value b row)) → IsAsKnown world frame d (sides_compared op way a b) t
sides_said world frame d t op way (of_column place c) (of_column other e) here there gives = quiet_so world frame d t true (λ e. given_quiet world frame d t _ gives)
sides_said world frame d t op way (of_column place c) (standing v) here there gives = left_beside world frame d t op way place c here v gives
sides_said world frame d t op way (standing v) (of_column place c) here there gives = right_beside world frame d t op way place c there v gives
sides_said world frame d t op way (standing v) (standing w) here there gives = quiet_so world frame d t true (λ e. given_quiet world frame d t _ gives)

compared_when : (world : World) (frame : Frame) (d : TableDef) (a b : Tree) (op : BinOp) (way : Way) (sa sb : Side) → way_of op ≡ Some way → side_of world frame d a ≡ Some sa → side_of world frame d b ≡ Some sb
    → (compares : Bool) → do_compare (kind_of sa) (kind_of sb) ≡ compares → IsAsKnown world frame d (cond compares (sides_compared op way sa sb) nothing_known) (binary op a b)
compared_when world frame d a b op way sa sb e left right false is = nothing_so world frame d (binary op a b)
compared_when world frame d a b op way sa sb e left right true is =
    let here = sides_there world frame d a sa left in let there = sides_there world frame d b sb right in
    sides_said world frame d (binary op a b) op way sa sb here there (λ row scene fits.
    comparison_gives world (sees d row frame) op way a b scene (side_value sa row) (side_value sb row) e
    (compared_by (kind_of sa) (kind_of sb) (side_value sa row) (side_value sb row) (side_may_be d sa row here fits) (side_may_be d sb row there fits) is)
    (sides_are_so world frame d a sa left row scene fits) (sides_are_so world frame d b sb right row scene fits))

compared_sides_so : (world : World) (frame : Frame) (d : TableDef) (a b : Tree) (op : BinOp) (way : Way) (sa sb : Option Side) → way_of op ≡ Some way → side_of world frame d a ≡ sa → side_of world frame d b ≡ sb
    → IsAsKnown world frame d (compared_sides op way sa sb) (binary op a b)
compared_sides_so world frame d a b op way None sb e left right = nothing_so world frame d (binary op a b)
compared_sides_so world frame d a b op way (Some sa) None e left right = nothing_so world frame d (binary op a b)
compared_sides_so world frame d a b op way (Some sa) (Some sb) e left right = compared_when world frame d a b op way sa sb e left right (do_compare (kind_of sa) (kind_of sb)) refl

compared_so : (world : World) (frame : Frame) (d : TableDef) (a b : Tree) (op : BinOp) (way : Option Way) → way_of op ≡ way
    → IsAsKnown world frame d (compared op way (side_of world frame d a) (side_of world frame d b)) (binary op a b)
compared_so world frame d a b op None e = nothing_so world frame d (binary op a b)
compared_so world frame d a b op (Some way) e = compared_sides_so world frame d a b op way (side_of world frame d a) (side_of world frame d b) e refl refl

-- ---- all conditions

operator_so : (world : World) (frame : Frame) (d : TableDef) (a b : Tree) (k l : Known) (op : BinOp) → IsAsKnown world frame d k a → IsAsKnown world frame d l b
    → IsAsKnown world frame d (operator_known op k l (compared op (way_of op) (side_of world frame d a) (side_of world frame d b))) (binary op a b)
operator_so world frame d a b k l Or left right = either_so world frame d a b k l left right
operator_so world frame d a b k l And left right = both_so world frame d a b k l left right
operator_so world frame d a b k l Equal left right = compared_so world frame d a b Equal (way_of Equal) refl
operator_so world frame d a b k l NullSafeEqual left right = compared_so world frame d a b NullSafeEqual (way_of NullSafeEqual) refl
operator_so world frame d a b k l NotEqual left right = compared_so world frame d a b NotEqual (way_of NotEqual) refl
operator_so world frame d a b k l Less left right = compared_so world frame d a b Less (way_of Less) refl
operator_so world frame d a b k l LessOrEqual left right = compared_so world frame d a b LessOrEqual (way_of LessOrEqual) refl
operator_so world frame d a b k l Greater left right = compared_so world frame d a b Greater (way_of Greater) refl
operator_so world frame d a b k l GreaterOrEqual left right = compared_so world frame d a b GreaterOrEqual (way_of GreaterOrEqual) refl
operator_so world frame d a b k l Add left right = nothing_so world frame d (binary Add a b)
operator_so world frame d a b k l Subtract left right = nothing_so world frame d (binary Subtract a b)
operator_so world frame d a b k l Multiply left right = nothing_so world frame d (binary Multiply a b)
operator_so world frame d a b k l Divide left right = nothing_so world frame d (binary Divide a b)
operator_so world frame d a b k l Modulo left right = nothing_so world frame d (binary Modulo a b)

unary_so : (world : World) (frame : Frame) (d : TableDef) (a : Tree) (k : Known) (op : UnOp) → IsAsKnown world frame d k a
    → IsAsKnown world frame d (unary_known op k (side_of world frame d a) (side_of world frame d (unary op a))) (unary op a)
unary_so world frame d a k Negate inner = side_so world frame d (unary Negate a) (side_of world frame d (unary Negate a)) refl
unary_so world frame d a k Not inner = not_so_known world frame d a k inner
unary_so world frame d a k IsNull inner = null_so world frame d a (side_of world frame d a) refl
unary_so world frame d a k IsNotNull inner = not_null_so world frame d a (side_of world frame d a) refl

pub known_is_so : KnownIsSo
known_is_so world frame d (unary op a) = unary_so world frame d a (known world frame d a) op (known_is_so world frame d a)
known_is_so world frame d (binary op a b) = operator_so world frame d a b (known world frame d a) (known world frame d b) op (known_is_so world frame d a) (known_is_so world frame d b)
known_is_so world frame d (literal v) = side_so world frame d (literal v) (side_of world frame d (literal v)) refl
known_is_so world frame d (name n) = side_so world frame d (name n) (side_of world frame d (name n)) refl
known_is_so world frame d (column t c) = side_so world frame d (column t c) (side_of world frame d (column t c)) refl
known_is_so world frame d (new_column c) = side_so world frame d (new_column c) (side_of world frame d (new_column c)) refl
known_is_so world frame d (old_column c) = side_so world frame d (old_column c) (side_of world frame d (old_column c)) refl
known_is_so world frame d (user_variable n) = side_so world frame d (user_variable n) (side_of world frame d (user_variable n)) refl
known_is_so world frame d (values_of c) = side_so world frame d (values_of c) (side_of world frame d (values_of c)) refl
known_is_so world frame d (name_const n v) = side_so world frame d (name_const n v) (side_of world frame d (name_const n v)) refl
known_is_so world frame d (system_variable n) = nothing_so world frame d (system_variable n)
known_is_so world frame d (is_in negated a ts) = nothing_so world frame d (is_in negated a ts)
known_is_so world frame d (choice arms o) = nothing_so world frame d (choice arms o)
known_is_so world frame d (subquery q) = nothing_so world frame d (subquery q)
known_is_so world frame d (exists q) = nothing_so world frame d (exists q)
known_is_so world frame d (call n ts) = nothing_so world frame d (call n ts)
known_is_so world frame d (floor_rand a) = nothing_so world frame d (floor_rand a)
known_is_so world frame d (built_in f ts) = nothing_so world frame d (built_in f ts)
