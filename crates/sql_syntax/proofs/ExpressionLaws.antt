-- Expressions and SELECTs are read exactly.
use Rattle.std.proofs.Common.{◌≡◌, ℕ, zero, suc, pred, pos, Bool, true, false, inl, inr, List, [], ◌∷◌, ◌++◌, None, Some, unwrap_or, refl, ap}
use Rattle.val_types.specs.declared.value.Value.TheVariants.{Int}
use Rattle.val_types.specs.declared.ops.UnOp.TheVariants.{Negate, Not, IsNull, IsNotNull}
use Rattle.val_types.specs.declared.ops.Func.{Func}
use Rattle.val_types.specs.declared.ops.Func0.{Func0}
use Rattle.val_types.specs.declared.ops.Func1.{Func1}
use Rattle.val_types.specs.declared.ops.Func2.{Func2}
use Rattle.val_types.specs.declared.ops.Func3.{Func3}
use Rattle.val_types.specs.declared.ops.FuncN.{FuncN}
use Rattle.val_types.specs.declared.ops.BinOp.TheVariants as ops
use Rattle.sql_lex.specs.declared.keyword.Keyword.TheVariants as words
use Rattle.sql_lex.specs.declared.token.Symbol.TheVariants as signs
use Rattle.sql_tree.specs.Tree.{Tree, literal, name, unary, binary, user_variable, system_variable, values_of, name_const, floor_rand, subquery, exists, choice, no_part, part}
use Rattle.sql_tree.specs.BuiltIns.{on_three}
use Rattle.sql_tree.specs.View.{arms_of}
use Rattle.sql_grammar.specs.Grammar.{first}
use Rattle.sql_grammar.specs.Rule.{Rule, token, of_kinds, both, either, pure, mapped, chain, paired, behind, alone as single_one, then_one}
use Rattle.sql_grammar.specs.Sets.{member, apart, next_in}
use Rattle.sql_grammar.specs.Whole.{IsExact}
use Rattle.sql_grammar.proofs.Lists.{within_member}
use Rattle.sql_grammar.proofs.Lawful.{shape, Lawful, GoesOn}
use Rattle.sql_grammar.proofs.Single.{Takes, takes_kinds, kinds_taken, expect_lawful, pure_lawful, mapped_lawful, widened}
use Rattle.sql_grammar.proofs.Levels.{same_lawful, by_levels}
use Rattle.sql_grammar.proofs.Sequence.{both_shape, both_lawful, opened_lawful}
use Rattle.sql_grammar.proofs.Choice.{either_lawful, Never}
use Rattle.sql_grammar.proofs.Chains.{chain_lawful}
use Rattle.sql_grammar.proofs.Alive.{one_alive, pure_alive, both_alive, other_alive, mapped_alive, chain_alive}
use Rattle.sql_grammar.proofs.TwoTokens.{Starts, starts_one, starts_both, starts_mapped, starts_opened, starts_either, never_first, never_pair, never_either, never_wider, never_chain}
use Rattle.sql_grammar.proofs.Top.{is_exact}
use Rattle.sql_syntax.specs.Tokens.{Tok, quoted_name, mark, tight_minus, kind, code, sign_code, number_code, text_code, tight_code, none_code, one_code, two_code, three_code, many_code, names, own_names, name_said, keyword, sign}
use Rattle.sql_syntax.specs.Parts.{system_name, a_name, exprs, arguments, closed, in_parentheses, a_text, plain_value, negative_value, a_value}
use Rattle.sql_syntax.specs.Selects.{aggregate_words, select_by, single_by}
use Rattle.sql_syntax.specs.Expressions.{Nested, alone, of_column, called, named, column_tail, name_tail, uncalled_names, with_tail, with_arguments, built, built_or_named, as_three, call_none, call_one, call_two, call_three, call_many, two_arguments, three_arguments, constant, random, built_in_names, built_ins, when_arm, else_part, case_body, grouped, primary, prefix_by, applied, is_percent, product_ops, product, sum_ops, sum_op, sum, comparison_ops, comparison_op, compared, null_test, among, tested, membership, nullness, test_kinds, test, comparison, negation_by, conjunction, disjunction, whole_by, nested_by, nested, expression, select}
use Rattle.sql_syntax.proofs.Words.{spelled, takes_keyword, takes_function, takes_sign, keyword_lawful, sign_lawful, keyword_alive, sign_alive}
use Rattle.sql_syntax.proofs.Shapes.{primaries, operands, starts, behind_operands, behind_sums, behind_comparisons, behind_expressions, wholes, negations, prefixes, selects}
use Rattle.sql_syntax.proofs.PartLaws.{takes_name, name_lawful, but_lawful, word_name_lawful, takes_number, takes_text, text_lawful, plain_value_lawful, negative_value_lawful, value_lawful, keyword_then, sign_then, closed_lawful, one_closed_lawful, exprs_closed_lawful, arguments_lawful, in_parentheses_lawful, closed_alive, keyword_then_alive, sign_then_alive, exprs_closed_alive, arguments_alive}
use Rattle.sql_syntax.proofs.SelectLaws.{select_lawful, single_lawful, select_alive, single_alive}

-- ---- words with a value
takes_own : Takes kind (of_kinds kind own_names (λ t. Some t)) own_names
unfolding kind
takes_own = takes_kinds kind own_names (λ t. Some t) (quoted_name []) (quoted_name []) refl refl

takes_uncalled : Takes kind (of_kinds kind uncalled_names (λ t. Some t)) uncalled_names
unfolding kind
takes_uncalled = let t = spelled words.Count in takes_kinds kind uncalled_names (λ u. Some u) t t refl refl

takes_constant : Takes kind (of_kinds kind (code words.NameConst ∷ []) (λ t. Some t)) (code words.NameConst ∷ [])
unfolding kind
takes_constant = let t = spelled words.NameConst in takes_kinds kind (code words.NameConst ∷ []) (λ u. Some u) t t refl refl

takes_floor : Takes kind (of_kinds kind (code words.Floor ∷ []) (λ t. Some t)) (code words.Floor ∷ [])
unfolding kind
takes_floor = let t = spelled words.Floor in takes_kinds kind (code words.Floor ∷ []) (λ u. Some u) t t refl refl

-- ---- parts without SELECT
column_tail_lawful : (d : ℕ) → Lawful kind (shape (sign_code signs.Dot ∷ []) true (sign_code signs.Dot ∷ []) true) (λ e. column_tail) d
column_tail_lawful d = either_lawful (sign_code signs.Dot ∷ []) (mapped_lawful of_column (sign_then (name_lawful d) refl signs.Dot)) (pure_lawful alone d) refl refl refl

module _ (W : ℕ → Rule Tok Tree) (alive : GoesOn W []) where
  comma_closed_alive : GoesOn (λ e. behind (sign signs.Comma) (closed (W e))) []
  comma_closed_alive = sign_then_alive (λ e. closed (W e)) (closed_alive W alive) signs.Comma

  two_alive : {A : Type 0} (f : Tree → Tree → A) → GoesOn (λ e. two_arguments f (W e)) []
  two_alive f = both_alive f W (λ e. behind (sign signs.Comma) (closed (W e))) alive comma_closed_alive

  three_alive : {A : Type 0} (f : Tree → Tree → Tree → A) → GoesOn (λ e. three_arguments f (W e)) []
  three_alive f =
      both_alive (λ a bc. f a bc.0 bc.1) W (λ e. behind (sign signs.Comma) (both paired (W e) (behind (sign signs.Comma) (closed (W e))))) alive
      (sign_then_alive (λ e. both paired (W e) (behind (sign signs.Comma) (closed (W e))))
      (both_alive paired W (λ e. behind (sign signs.Comma) (closed (W e))) alive comma_closed_alive) signs.Comma)

  when_alive : GoesOn (λ e. when_arm (W e)) []
  when_alive =
      keyword_then_alive (λ e. both paired (W e) (behind (keyword words.Then) (W e)))
      (both_alive paired W (λ e. behind (keyword words.Then) (W e)) alive (keyword_then_alive W alive words.Then)) words.When

  case_alive : GoesOn (λ e. case_body (W e)) []
  case_alive =
      both_alive (λ a u. a) (λ e. both (λ as' o. choice (arms_of as') o) (chain kind then_one (code words.When ∷ []) (mapped single_one (when_arm (W e))) (when_arm (W e))) (else_part (W e))) (λ e. keyword words.End)
      (both_alive (λ as' o. choice (arms_of as') o) (λ e. chain kind then_one (code words.When ∷ []) (mapped single_one (when_arm (W e))) (when_arm (W e))) (λ e. else_part (W e))
      (chain_alive kind then_one (code words.When ∷ []) (λ e. mapped single_one (when_arm (W e))) (λ e a. when_arm (W e)) (mapped_alive single_one (λ e. when_arm (W e)) when_alive))
      (other_alive (next_in kind (code words.Else ∷ [])) (λ e. mapped part (behind (keyword words.Else) (W e))) (λ e. pure no_part) (pure_alive no_part))) (keyword_alive words.End)

module _ {R : ℕ → Rule Tok Tree} {d : ℕ} (l : Lawful kind wholes R d) where
  two_lawful : {A : Type 0} (f : Tree → Tree → A) → Lawful kind (shape starts false [] true) (λ e. two_arguments f (R e)) d
  two_lawful f = both_lawful f l (sign_then (one_closed_lawful l) refl signs.Comma) refl refl

  three_lawful : {A : Type 0} (f : Tree → Tree → Tree → A) → Lawful kind (shape starts false [] true) (λ e. three_arguments f (R e)) d
  three_lawful f =
      both_lawful (λ a bc. f a bc.0 bc.1) l (sign_then (both_lawful paired l (sign_then (one_closed_lawful l) refl signs.Comma) refl refl) refl signs.Comma) refl refl

  when_lawful : Lawful kind (shape (code words.When ∷ []) false behind_expressions true) (λ e. when_arm (R e)) d
  when_lawful =
      widened (keyword_then (both_lawful paired l (keyword_then l refl words.Then) refl refl) refl words.When) (shape (code words.When ∷ []) false behind_expressions true) refl

  case_lawful : Lawful kind (shape (code words.When ∷ []) false [] true) (λ e. case_body (R e)) d
  case_lawful =
      let arms = widened (chain_lawful then_one (code words.When ∷ []) (mapped_lawful single_one when_lawful) when_lawful refl refl refl refl) (shape (code words.When ∷ []) false (code words.When ∷ behind_expressions) true) refl in
      let other = widened (either_lawful (code words.Else ∷ []) (mapped_lawful part (keyword_then l refl words.Else)) (pure_lawful no_part d) refl refl refl) (shape (code words.Else ∷ []) true (code words.Else ∷ behind_expressions) true) refl in
      widened (both_lawful (λ a u. a) (both_lawful (λ as' o. choice (arms_of as') o) arms other refl refl) (keyword_lawful words.End d) refl refl) (shape (code words.When ∷ []) false [] true) refl

-- a built-in, by the rule for what stands up to its closing parenthesis
built_lawful : {A : Type 0} {set first : List ℕ} (make : Tok → A → Tree) → Takes kind (of_kinds kind set (λ t. Some t)) set → (R : ℕ → Rule Tok A) → GoesOn R [] → (d : ℕ)
    → ((k : ℕ) → d ≡ suc k → Lawful kind (shape first false [] true) R k)
    → Lawful kind (both_shape (shape set false [] true) (shape behind_operands true (sign_code signs.Dot ∷ sign_code signs.Open ∷ []) true)) (λ e. built_or_named set make e (R (pred e))) d
built_lawful make t R alive d l =
    both_lawful (built make) (expect_lawful t d) (either_lawful (sign_code signs.Open ∷ []) (mapped_lawful with_arguments (in_parentheses_lawful R alive d l refl)) (mapped_lawful with_tail (column_tail_lawful d)) refl refl refl) refl refl

constant_lawful : (d : ℕ) → Lawful kind (shape (text_code ∷ []) false [] true) (λ e. constant) d
constant_lawful d = both_lawful name_const (text_lawful d) (sign_then (closed_lawful (value_lawful d) refl) refl signs.Comma) refl refl

no_arguments_lawful : (d : ℕ) → Lawful kind (shape (sign_code signs.Open ∷ []) false [] true) (λ e. in_parentheses e (sign signs.Close)) d
no_arguments_lawful d = in_parentheses_lawful (λ e. sign signs.Close) (sign_alive signs.Close) d (λ k e. sign_lawful signs.Close k) refl

pub system_name_lawful : (d : ℕ) → Lawful kind (shape names false (sign_code signs.Dot ∷ []) true) (λ e. system_name) d
system_name_lawful d =
    let dot = either_lawful (sign_code signs.Dot ∷ []) (mapped_lawful Some (sign_then (name_lawful d) refl signs.Dot)) (pure_lawful None d) refl refl refl in
    widened (either_lawful (code words.Session ∷ []) (both_lawful (λ s o. unwrap_or o s) (word_name_lawful words.Session d) dot refl refl) (but_lawful (code words.Session ∷ []) refl d) refl refl refl)
    (shape names false (sign_code signs.Dot ∷ []) true) refl

-- ---- what the rules for one construct less are to keep
-- they have texts
abbrev Going : (ℕ → Nested) → Type 0
Going I = GoesOn (λ e. (I e).whole) [] × GoesOn (λ e. (I e).negation) [] × GoesOn (λ e. (I e).prefix) [] × GoesOn (λ e. (I e).select) [] × GoesOn (λ e. (I e).single) []

-- they keep the laws
abbrev Laws : (ℕ → Nested) → ℕ → Type 0
Laws I d =
    Lawful kind wholes (λ e. (I e).whole) d × Lawful kind negations (λ e. (I e).negation) d × Lawful kind prefixes (λ e. (I e).prefix) d
    × Lawful kind selects (λ e. (I e).select) d × Lawful kind selects (λ e. (I e).single) d

module _ (I : ℕ → Nested) (g : Going I) (d : ℕ) (l : (k : ℕ) → d ≡ suc k → Laws I k) where
  random_lawful : (k : ℕ) → d ≡ suc k → Lawful kind (shape (code words.Rand ∷ []) false [] true) (λ e. random e ((I e).prefix)) k
  random_lawful k e =
      keyword_then (both_lawful (λ u a. a) (no_arguments_lawful k) (sign_then (mapped_lawful floor_rand (closed_lawful (l k e).2 refl)) refl signs.Star) refl refl) refl words.Rand

  random_alive : GoesOn (λ e. random e ((I e).prefix)) []
  random_alive =
      keyword_then_alive (λ e. behind (in_parentheses e (sign signs.Close)) (behind (sign signs.Star) (mapped floor_rand (closed ((I e).prefix)))))
      (both_alive (λ u a. a) (λ e. in_parentheses e (sign signs.Close)) (λ e. behind (sign signs.Star) (mapped floor_rand (closed ((I e).prefix)))) ((no_arguments_lawful 0).lives refl)
      (sign_then_alive (λ e. mapped floor_rand (closed ((I e).prefix))) (mapped_alive floor_rand (λ e. closed ((I e).prefix)) (closed_alive (λ e. (I e).prefix) g.2)) signs.Star)) words.Rand

  constant_alive : GoesOn (λ e. constant) []
  constant_alive =
      both_alive name_const (λ e. a_text) (λ e. behind (sign signs.Comma) (closed a_value)) (one_alive takes_text)
      (sign_then_alive (λ e. closed a_value) (closed_alive (λ e. a_value) ((value_lawful 0).lives refl)) signs.Comma)

  built_ins_lawful : Lawful kind (shape built_in_names false behind_operands true) (λ e. built_ins e (I (pred e))) d
  built_ins_lawful =
      let none = built_lawful call_none (takes_function (Func.Zero Func0.Now)) (λ e. sign signs.Close) (sign_alive signs.Close) d (λ k e. sign_lawful signs.Close k) in
      let one = built_lawful call_one (takes_function (Func.One Func1.Abs)) (λ e. closed ((I e).whole)) (closed_alive (λ e. (I e).whole) g.0) d (λ k e. one_closed_lawful (l k e).0) in
      let two = built_lawful call_two (takes_function (Func.Two Func2.IfNull)) (λ e. two_arguments paired ((I e).whole)) (two_alive (λ e. (I e).whole) g.0 paired) d (λ k e. two_lawful (l k e).0 paired) in
      let three = built_lawful call_three (takes_function (Func.Three Func3.Substring)) (λ e. three_arguments as_three ((I e).whole)) (three_alive (λ e. (I e).whole) g.0 as_three) d (λ k e. three_lawful (l k e).0 as_three) in
      let many = built_lawful call_many (takes_function (Func.Many FuncN.Concat)) (λ e. closed (exprs ((I e).whole))) (exprs_closed_alive (λ e. (I e).whole) g.0) d (λ k e. exprs_closed_lawful (l k e).0) in
      let const = built_lawful (λ t a. a) takes_constant (λ e. constant) constant_alive d (λ k e. constant_lawful k) in
      let floor = built_lawful (λ t a. a) takes_floor (λ e. random e ((I e).prefix)) random_alive d random_lawful in
      let a1 = either_lawful (code words.NameConst ∷ []) const floor refl refl refl in
      let a2 = either_lawful (many_code ∷ []) many a1 refl refl refl in
      let a3 = either_lawful (three_code ∷ []) three a2 refl refl refl in
      let a4 = either_lawful (two_code ∷ []) two a3 refl refl refl in
      let a5 = either_lawful (one_code ∷ []) one a4 refl refl refl in
      widened (either_lawful (none_code ∷ []) none a5 refl refl refl) (shape built_in_names false behind_operands true) refl

  name_tail_lawful : Lawful kind (shape behind_operands true behind_operands true) (λ e. name_tail e ((I (pred e)).whole)) d
  name_tail_lawful =
      widened (either_lawful (sign_code signs.Open ∷ []) (mapped_lawful called (in_parentheses_lawful (λ e. arguments ((I e).whole)) (arguments_alive (λ e. (I e).whole) g.0) d (λ k e. arguments_lawful (l k e).0) refl))
      (column_tail_lawful d) refl refl refl) (shape behind_operands true behind_operands true) refl

  grouped_alive : GoesOn (λ e. grouped (I e)) []
  grouped_alive =
      other_alive (next_in kind (code words.Select ∷ [])) (λ e. mapped subquery (closed ((I e).single))) (λ e. closed ((I e).whole)) (closed_alive (λ e. (I e).whole) g.0)

  grouped_lawful : (k : ℕ) → d ≡ suc k → Lawful kind (shape (code words.Select ∷ starts) false [] true) (λ e. grouped (I e)) k
  grouped_lawful k e =
      widened (either_lawful (code words.Select ∷ []) (mapped_lawful subquery (closed_lawful (l k e).4 refl)) (one_closed_lawful (l k e).0) refl refl refl) (shape (code words.Select ∷ starts) false [] true) refl

  exists_lawful : Lawful kind (shape (code words.Exists ∷ []) false [] true) (λ e. behind (keyword words.Exists) (in_parentheses e (mapped exists (closed ((I (pred e)).select))))) d
  exists_lawful =
      keyword_then (in_parentheses_lawful (λ e. mapped exists (closed ((I e).select))) (mapped_alive exists (λ e. closed ((I e).select)) (closed_alive (λ e. (I e).select) g.3)) d
      (λ k e. mapped_lawful exists (closed_lawful (l k e).3 refl)) refl) refl words.Exists

  values_lawful : Lawful kind (shape (code words.Values ∷ []) false [] true) (λ e. behind (keyword words.Values) (in_parentheses e (mapped values_of (closed a_name)))) d
  values_lawful =
      keyword_then (in_parentheses_lawful (λ e. mapped values_of (closed a_name)) (mapped_alive values_of (λ e. closed a_name) (closed_alive (λ e. a_name) (one_alive takes_name))) d
      (λ k e. mapped_lawful values_of (closed_lawful (name_lawful k) refl)) refl) refl words.Values

  primary_lawful : Lawful kind (shape primaries false behind_operands true) (λ e. primary e (I (pred e))) d
  primary_lawful =
      let own = both_lawful named (expect_lawful takes_own d) name_tail_lawful refl refl in
      let some = both_lawful named (expect_lawful takes_uncalled d) (column_tail_lawful d) refl refl in
      let system = mapped_lawful system_variable (sign_then (system_name_lawful d) refl signs.AtAt) in
      let variable = mapped_lawful user_variable (sign_then (name_lawful d) refl signs.At) in
      let choices = opened_lawful (takes_keyword words.Case) (λ u a. a) (λ e. case_body ((I e).whole)) (case_alive (λ e. (I e).whole) g.0) d (λ k e. case_lawful (l k e).0) refl in
      let if' = keyword_then (in_parentheses_lawful (λ e. three_arguments (on_three Func3.If) ((I e).whole)) (three_alive (λ e. (I e).whole) g.0 (on_three Func3.If)) d (λ k e. three_lawful (l k e).0 (on_three Func3.If)) refl) refl words.If in
      let group = in_parentheses_lawful (λ e. grouped (I e)) grouped_alive d grouped_lawful refl in
      let a0 = either_lawful (number_code ∷ text_code ∷ code words.Null ∷ []) (mapped_lawful literal (plain_value_lawful d)) own refl refl refl in
      let a1 = either_lawful uncalled_names some a0 refl refl refl in
      let a2 = either_lawful built_in_names built_ins_lawful a1 refl refl refl in
      let a3 = either_lawful (sign_code signs.AtAt ∷ []) system a2 refl refl refl in
      let a4 = either_lawful (sign_code signs.At ∷ []) variable a3 refl refl refl in
      let a5 = either_lawful (code words.Exists ∷ []) exists_lawful a4 refl refl refl in
      let a6 = either_lawful (code words.Case ∷ []) choices a5 refl refl refl in
      let a7 = either_lawful (code words.Values ∷ []) values_lawful a6 refl refl refl in
      let a8 = either_lawful (code words.If ∷ []) if' a7 refl refl refl in
      widened (either_lawful (sign_code signs.Open ∷ []) group a8 refl refl refl) (shape primaries false behind_operands true) refl

  prefix_lawful : Lawful kind prefixes (λ e. prefix_by e (I (pred e))) d
  prefix_lawful =
      let minus = opened_lawful (takes_sign signs.Minus) (λ u a. unary Negate a) (λ e. (I e).prefix) g.2 d (λ k e. (l k e).2) refl in
      widened (either_lawful (tight_code ∷ []) (mapped_lawful literal (negative_value_lawful d)) (either_lawful (sign_code signs.Minus ∷ []) minus primary_lawful refl refl refl) refl refl refl) prefixes refl

-- ---- operators
takes_product : Takes kind (of_kinds kind product_ops (λ t. Some (is_percent t))) product_ops
unfolding kind
takes_product = takes_kinds kind product_ops (λ t. Some (is_percent t)) (mark signs.Star) ops.Multiply refl refl

takes_sum : Takes kind (of_kinds kind sum_ops (λ t. Some (sum_op t))) sum_ops
unfolding kind
takes_sum = takes_kinds kind sum_ops (λ t. Some (sum_op t)) tight_minus ops.Subtract refl refl

takes_comparison : Takes kind (of_kinds kind comparison_ops (λ t. Some (comparison_op t))) comparison_ops
unfolding kind
takes_comparison = takes_kinds kind comparison_ops (λ t. Some (comparison_op t)) (mark signs.Equal) ops.Equal refl refl

module _ {R : ℕ → Rule Tok Tree} {d : ℕ} (l : Lawful kind prefixes R d) where
  product_lawful : Lawful kind (shape operands false (product_ops ++ behind_operands) true) (λ e. product (R e)) d
  product_lawful =
      widened (chain_lawful applied product_ops l (both_lawful paired (expect_lawful takes_product d) l refl refl) refl refl refl refl) (shape operands false (product_ops ++ behind_operands) true) refl

  sum_lawful : Lawful kind (shape operands false behind_sums true) (λ e. sum (R e)) d
  sum_lawful =
      widened (chain_lawful applied sum_ops product_lawful (both_lawful paired (expect_lawful takes_sum d) product_lawful refl refl) refl refl refl refl) (shape operands false behind_sums true) refl

module _ (W : ℕ → Rule Tok Tree) (alive : GoesOn W []) (d : ℕ) (l : (k : ℕ) → d ≡ suc k → Lawful kind wholes W k) where
  membership_lawful : (b : Bool) → Lawful kind (shape (code words.In ∷ []) false [] true) (λ e. membership b e (W (pred e))) d
  membership_lawful b =
      keyword_then (mapped_lawful (among b) (in_parentheses_lawful (λ e. closed (exprs (W e))) (exprs_closed_alive W alive) d (λ k e. exprs_closed_lawful (l k e)) refl)) refl words.In

  nullness_lawful : Lawful kind (shape (code words.Is ∷ []) false [] true) (λ e. nullness) d
  nullness_lawful =
      keyword_then (either_lawful (code words.Not ∷ []) (mapped_lawful (λ u. null_test IsNotNull) (keyword_then (keyword_lawful words.Null d) refl words.Not))
      (mapped_lawful (λ u. null_test IsNull) (keyword_lawful words.Null d)) refl refl refl) refl words.Is

  module _ {O : ℕ → Rule Tok Tree} (o : Lawful kind prefixes O d) where
    test_lawful : Lawful kind (shape test_kinds false behind_sums true) (λ e. test e (W (pred e)) (O e)) d
    test_lawful =
        let compare = both_lawful compared (expect_lawful takes_comparison d) (sum_lawful o) refl refl in
        let not_in = keyword_then (membership_lawful true) refl words.Not in
        widened (either_lawful (code words.Is ∷ []) nullness_lawful (either_lawful (code words.In ∷ []) (membership_lawful false)
        (either_lawful (code words.Not ∷ []) not_in compare refl refl refl) refl refl refl) refl refl refl) (shape test_kinds false behind_sums true) refl

    comparison_lawful : Lawful kind (shape operands false behind_comparisons true) (λ e. comparison e (W (pred e)) (O e)) d
    comparison_lawful = widened (chain_lawful tested test_kinds (sum_lawful o) test_lawful refl refl refl refl) (shape operands false behind_comparisons true) refl

disjunction_lawful : {R : ℕ → Rule Tok Tree} {d : ℕ} → Lawful kind negations R d → Lawful kind wholes (λ e. disjunction (R e)) d
disjunction_lawful {d = d} l =
    let c = chain_lawful (binary ops.And) (code words.And ∷ []) l (keyword_then l refl words.And) refl refl refl refl in
    widened (chain_lawful (binary ops.Or) (code words.Or ∷ []) c (keyword_then c refl words.Or) refl refl refl refl) wholes refl

module _ (I : ℕ → Nested) (g : Going I) (d : ℕ) (l : (k : ℕ) → d ≡ suc k → Laws I k) where
  negation_lawful : Lawful kind negations (λ e. negation_by e (I (pred e))) d
  negation_lawful =
      let not' = opened_lawful (takes_keyword words.Not) (λ u a. unary Not a) (λ e. (I e).negation) g.1 d (λ k e. (l k e).1) refl in
      widened (either_lawful (code words.Not ∷ []) not' (comparison_lawful (λ e. (I e).whole) g.0 d (λ k e. (l k e).0) (prefix_lawful I g d l)) refl refl refl) negations refl

-- ---- no expression begins with the name of an aggregate and a parenthesis
abbrev opening : List ℕ
opening = sign_code signs.Open ∷ []

never_built : {A : Type 0} {set : List ℕ} (make : Tok → A → Tree) → Takes kind (of_kinds kind set (λ t. Some t)) set → (R : ℕ → Rule Tok A) → apart set aggregate_words ≡ true
    → Never kind aggregate_words opening behind_operands (λ e. built_or_named set make e (R e))
never_built make t R out =
    never_first aggregate_words opening behind_operands (starts_both (built make) (λ e. either kind (sign_code signs.Open ∷ []) (mapped with_arguments (in_parentheses e (R e))) (mapped with_tail column_tail)) (starts_one t)) out

module _ (I : ℕ → Nested) where
  built_ins_never : Never kind aggregate_words opening behind_operands (λ e. built_ins e (I (pred e)))
  built_ins_never =
      never_either (next_in kind (none_code ∷ [])) (never_built call_none (takes_function (Func.Zero Func0.Now)) (λ e. sign signs.Close) refl) (
      never_either (next_in kind (one_code ∷ [])) (never_built call_one (takes_function (Func.One Func1.Abs)) (λ e. closed ((I (pred e)).whole)) refl) (
      never_either (next_in kind (two_code ∷ [])) (never_built call_two (takes_function (Func.Two Func2.IfNull)) (λ e. two_arguments paired ((I (pred e)).whole)) refl) (
      never_either (next_in kind (three_code ∷ [])) (never_built call_three (takes_function (Func.Three Func3.Substring)) (λ e. three_arguments as_three ((I (pred e)).whole)) refl) (
      never_either (next_in kind (many_code ∷ [])) (never_built call_many (takes_function (Func.Many FuncN.Concat)) (λ e. closed (exprs ((I (pred e)).whole))) refl) (
      never_either (next_in kind (code words.NameConst ∷ [])) (never_built (λ t a. a) takes_constant (λ e. constant) refl) (
      never_built (λ t a. a) takes_floor (λ e. random (pred e) ((I (pred e)).prefix)) refl))))))

  plain_starts : Starts kind (number_code ∷ text_code ∷ code words.Null ∷ []) (λ e. plain_value)
  plain_starts = record { holds = λ e a ts rest h. elim ((plain_value_lawful e).begins a ts rest h) [ inl k ↦ k.0 | inr k ↦ cc ] }

  negative_starts : Starts kind (tight_code ∷ []) (λ e. negative_value)
  negative_starts = record { holds = λ e a ts rest h. elim ((negative_value_lawful e).begins a ts rest h) [ inl k ↦ k.0 | inr k ↦ cc ] }

  primary_never : Never kind aggregate_words opening behind_operands (λ e. primary e (I (pred e)))
  primary_never =
      let group = starts_opened (takes_sign signs.Open) (λ u a. a) (λ e. grouped (I (pred e))) in
      let if' = starts_both (λ u a. a) (λ e. in_parentheses e (three_arguments (on_three Func3.If) ((I (pred e)).whole))) (starts_one (takes_keyword words.If)) in
      let values' = starts_both (λ u a. a) (λ e. in_parentheses e (mapped values_of (closed a_name))) (starts_one (takes_keyword words.Values)) in
      let choices = starts_opened (takes_keyword words.Case) (λ u a. a) (λ e. case_body ((I (pred e)).whole)) in
      let exists' = starts_both (λ u a. a) (λ e. in_parentheses e (mapped exists (closed ((I (pred e)).select)))) (starts_one (takes_keyword words.Exists)) in
      let variable = starts_mapped user_variable (starts_both (λ u a. a) (λ e. a_name) (starts_one (takes_sign signs.At))) in
      let system = starts_mapped system_variable (starts_both (λ u a. a) (λ e. system_name) (starts_one (takes_sign signs.AtAt))) in
      let own = starts_both named (λ e. name_tail e ((I (pred e)).whole)) (starts_one takes_own) in
      let some = never_pair (of_kinds kind uncalled_names (λ t. Some t)) named aggregate_words opening behind_operands column_tail_lawful refl refl in
      never_either (next_in kind (sign_code signs.Open ∷ [])) (never_first aggregate_words opening behind_operands group refl) (
      never_either (next_in kind (code words.If ∷ [])) (never_first aggregate_words opening behind_operands if' refl) (
      never_either (next_in kind (code words.Values ∷ [])) (never_first aggregate_words opening behind_operands values' refl) (
      never_either (next_in kind (code words.Case ∷ [])) (never_first aggregate_words opening behind_operands choices refl) (
      never_either (next_in kind (code words.Exists ∷ [])) (never_first aggregate_words opening behind_operands exists' refl) (
      never_either (next_in kind (sign_code signs.At ∷ [])) (never_first aggregate_words opening behind_operands variable refl) (
      never_either (next_in kind (sign_code signs.AtAt ∷ [])) (never_first aggregate_words opening behind_operands system refl) (
      never_either (next_in kind built_in_names) built_ins_never (
      never_either (next_in kind uncalled_names) some (
      never_either (next_in kind (number_code ∷ text_code ∷ code words.Null ∷ [])) (never_first aggregate_words opening behind_operands (starts_mapped literal plain_starts) refl) (
      never_first aggregate_words opening behind_operands own refl))))))))))

  prefix_never : Never kind aggregate_words opening behind_operands (λ e. prefix_by e (I (pred e)))
  prefix_never =
      never_either (next_in kind (tight_code ∷ [])) (never_first aggregate_words opening behind_operands (starts_mapped literal negative_starts) refl) (
      never_either (next_in kind (sign_code signs.Minus ∷ [])) (never_first aggregate_words opening behind_operands (starts_opened (takes_sign signs.Minus) (λ u a. unary Negate a) (λ e. (I (pred e)).prefix)) refl) primary_never)

  product_never : Never kind aggregate_words opening behind_operands (λ e. product (prefix_by e (I (pred e))))
  product_never =
      never_chain applied product_ops {S = λ e a. both paired (token kind product_ops (λ t. Some (is_percent t))) (prefix_by e (I (pred e)))} prefix_never
      (λ a. starts_both paired (λ e. prefix_by e (I (pred e))) (starts_one takes_product)) refl

  sum_never : Never kind aggregate_words opening behind_operands (λ e. sum (prefix_by e (I (pred e))))
  sum_never =
      never_chain applied sum_ops {S = λ e a. both paired (token kind sum_ops (λ t. Some (sum_op t))) (product (prefix_by e (I (pred e))))} product_never
      (λ a. starts_both paired (λ e. product (prefix_by e (I (pred e)))) (starts_one takes_sum)) refl

  test_starts : Starts kind (code words.Is ∷ code words.In ∷ code words.Not ∷ comparison_ops) (λ e. test e ((I (pred e)).whole) (prefix_by e (I (pred e))))
  test_starts =
      starts_either (next_in kind (code words.Is ∷ [])) (starts_both (λ u a. a) (λ e. either kind (code words.Not ∷ []) (mapped (λ u. null_test IsNotNull) (behind (keyword words.Not) (keyword words.Null))) (mapped (λ u. null_test IsNull) (keyword words.Null))) (starts_one (takes_keyword words.Is))) (
      starts_either (next_in kind (code words.In ∷ [])) (starts_both (λ u a. a) (λ e. mapped (among false) (in_parentheses e (closed (exprs ((I (pred e)).whole))))) (starts_one (takes_keyword words.In))) (
      starts_either (next_in kind (code words.Not ∷ [])) (starts_both (λ u a. a) (λ e. membership true e ((I (pred e)).whole)) (starts_one (takes_keyword words.Not))) (
      starts_both compared (λ e. sum (prefix_by e (I (pred e)))) (starts_one takes_comparison))))

  negation_never : Never kind aggregate_words opening behind_operands (λ e. negation_by e (I (pred e)))
  negation_never =
      never_either (next_in kind (code words.Not ∷ [])) (never_first aggregate_words opening behind_operands (starts_opened (takes_keyword words.Not) (λ u a. unary Not a) (λ e. (I (pred e)).negation)) refl)
      (never_chain tested test_kinds {S = λ e a. test e ((I (pred e)).whole) (prefix_by e (I (pred e)))} sum_never (λ a. test_starts) refl)

  whole_never : Never kind aggregate_words opening behind_expressions (λ e. whole_by e (I (pred e)))
  whole_never =
      let c = never_chain (binary ops.And) (code words.And ∷ []) {S = λ e a. behind (keyword words.And) (negation_by e (I (pred e)))} negation_never (λ a. starts_both (λ u b. b) (λ e. negation_by e (I (pred e))) (starts_one (takes_keyword words.And))) refl in
      never_wider behind_expressions (never_chain (binary ops.Or) (code words.Or ∷ []) {S = λ e a. behind (keyword words.Or) (conjunction (negation_by e (I (pred e))))} c
      (λ a. starts_both (λ u b. b) (λ e. conjunction (negation_by e (I (pred e)))) (starts_one (takes_keyword words.Or))) refl) refl

-- ---- words and numbers are expressions
number_text : (n : ℕ) (i : Nested) (tail : List Tok) → (prefix_by n i).texts (literal (Int (pos takes_number.value))) (takes_number.token ∷ tail) tail
number_text n i tail =
    inr (inr (inr (inr (inr (inr (inr (inr (inr (inr (inr (inl (Int (pos takes_number.value), refl, inl (takes_number.value, refl, (takes_number.token, refl, takes_number.taken))))))))))))))

column_text : (n : ℕ) (i : Nested) (t : Tok) → member (kind t) aggregate_words ≡ true → (prefix_by n i).texts (name (name_said t)) (t ∷ []) []
column_text n i t m =
    inr (inr (inr (inr (inr (inr (inr (inr (inr (inr (inl (t, alone, [], refl, (t, refl, kinds_taken kind uncalled_names (λ u. u) t (within_member (kind t) aggregate_words uncalled_names refl m)), inr (refl, refl))))))))))))

-- ---- all of it, by the number of constructs that may still be opened
nested_is : (e : ℕ) → nested e ≡ nested_by e (nested (pred e))
unfolding nested
nested_is zero = refl
nested_is (suc e) = refl

whole_is : (e : ℕ) → (nested e).whole ≡ whole_by e (nested (pred e))
whole_is e = ap (λ (x : Nested). x.whole) (nested_is e)

negation_is : (e : ℕ) → (nested e).negation ≡ negation_by e (nested (pred e))
negation_is e = ap (λ (x : Nested). x.negation) (nested_is e)

prefix_is : (e : ℕ) → (nested e).prefix ≡ prefix_by e (nested (pred e))
prefix_is e = ap (λ (x : Nested). x.prefix) (nested_is e)

select_is : (e : ℕ) → (nested e).select ≡ select_by e (whole_by e (nested (pred e))) ((nested (pred e)).whole)
select_is e = ap (λ (x : Nested). x.select) (nested_is e)

single_is : (e : ℕ) → (nested e).single ≡ single_by e (whole_by e (nested (pred e))) ((nested (pred e)).whole)
single_is e = ap (λ (x : Nested). x.single) (nested_is e)

same_alive : {A : Type 0} (P : ℕ → Rule Tok A) {Q : ℕ → Rule Tok A} → GoesOn Q [] → ((e : ℕ) → P e ≡ Q e) → GoesOn P []
same_alive P q same = (q.0, λ e m. rw (same e) (q.1 e m))

whole_by_alive : GoesOn (λ e. whole_by e (nested (pred e))) []
whole_by_alive = (0, λ e m tail. (takes_number.token ∷ [], literal (Int (pos takes_number.value)), first (first (inr (first (first (first (number_text e (nested (pred e)) tail))))))))

going : Going nested
going = (
  same_alive (λ e. (nested e).whole) whole_by_alive whole_is,
  same_alive (λ e. (nested e).negation) (0, λ e m tail. (takes_number.token ∷ [], literal (Int (pos takes_number.value)), inr (first (first (first (number_text e (nested (pred e)) tail)))))) negation_is,
  same_alive (λ e. (nested e).prefix) (0, λ e m tail. (takes_number.token ∷ [], literal (Int (pos takes_number.value)), number_text e (nested (pred e)) tail)) prefix_is,
  same_alive (λ e. (nested e).select) (select_alive (λ e. whole_by e (nested (pred e))) (λ e. (nested e).whole) whole_by_alive) select_is,
  same_alive (λ e. (nested e).single) (single_alive (λ e. whole_by e (nested (pred e))) (λ e. (nested e).whole) whole_by_alive) single_is,
)

step : (d : ℕ) → ((k : ℕ) → d ≡ suc k → Laws nested k) → Laws nested d
step d l =
    let o = prefix_lawful nested going d l in
    let n = negation_lawful nested going d l in
    let w = disjunction_lawful n in
    let column = λ (t : Tok) (m : member (kind t) aggregate_words ≡ true). first (first (inr (first (first (first (column_text d (nested (pred d)) t m)))))) in
    let inside = λ (k : ℕ) (e : d ≡ suc k). (l k e).0 in (
      same_lawful w (λ e. (nested e).whole) whole_is,
      same_lawful n (λ e. (nested e).negation) negation_is,
      same_lawful o (λ e. (nested e).prefix) prefix_is,
      same_lawful (select_lawful (λ e. (nested e).whole) going.0 d inside w whole_by_alive (whole_never nested) column) (λ e. (nested e).select) select_is,
      same_lawful (single_lawful (λ e. (nested e).whole) going.0 d inside w whole_by_alive (whole_never nested) column) (λ e. (nested e).single) single_is,
    )

pub nested_laws : (d : ℕ) → Laws nested d
nested_laws d = by_levels (Laws nested) step d

pub expression_lawful : (d : ℕ) → Lawful kind wholes expression d
expression_lawful d = (nested_laws d).0

pub query_lawful : (d : ℕ) → Lawful kind selects select d
query_lawful d = (nested_laws d).3

pub expression_alive : GoesOn expression []
expression_alive = going.0

pub expression_exact : IsExact expression
expression_exact = is_exact expression_lawful refl

pub select_exact : IsExact select
select_exact = is_exact query_lawful refl
