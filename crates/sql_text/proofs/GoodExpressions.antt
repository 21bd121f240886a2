-- Expressions of good tokens are well.
use Rattle.std.proofs.Common.{◌≡◌, ℕ, zero, suc, pred, Bool, true, false, List, [], ◌∷◌, Option, Some, None, refl}
use Rattle.std.proofs.lemmas.Bool.{and_from}
use Rattle.std.specs.Prelude.{◌&&◌, unwrap_or}
use Rattle.val_types.specs.declared.value.Value.{Value}
use Rattle.val_types.specs.declared.value.Value.TheVariants.{Text}
use Rattle.val_types.specs.declared.ops.UnOp.TheVariants.{Negate, Not, IsNull, IsNotNull}
use Rattle.val_types.specs.declared.ops.Func3.{Func3}
use Rattle.val_types.specs.declared.ops.BinOp.{BinOp}
use Rattle.val_types.specs.declared.ops.BinOp.TheVariants as ops
use Rattle.sql_lex.specs.declared.keyword.Keyword.{Keyword}
use Rattle.sql_lex.specs.declared.keyword.Keyword.TheVariants as words
use Rattle.sql_lex.specs.declared.token.Symbol.TheVariants as signs
use Rattle.sql_grammar.specs.Sets.{within}
use Rattle.sql_grammar.specs.Rule.{Rule, token, mapped, refused, paired}
use Rattle.sql_tree.specs.Tree.{Tree, literal, user_variable, system_variable, unary, binary, choice, subquery, exists, values_of, name_const, floor_rand}
use Rattle.sql_tree.specs.Tree.{Trees, Part, no_part, part}
use Rattle.sql_tree.specs.BuiltIns.{on_three}
use Rattle.sql_tree.specs.View.{arms_of}
use Rattle.sql_tree.specs.Well.{is_name, is_literal, has_tree, gives_one, is_well_tree, are_well_trees, are_well_arms, is_well_part, is_well_query}
use Rattle.sql_syntax.specs.Tokens.{Tok, keyword_said, name_said, kind, code, sign_code, none_code, one_code, two_code, three_code, many_code, names, own_names, sign}
use Rattle.sql_syntax.specs.Parts.{system_name, a_name, exprs, closed, arguments, a_value}
use Rattle.sql_syntax.specs.Expressions.{Nested, Tail, alone, of_column, called, column_by, named, column_tail, name_tail, uncalled_names, Following, with_tail, with_arguments, built, built_or_named, as_three, call_none, call_one, call_two, call_three, call_many, two_arguments, three_arguments, constant, random, built_ins, when_arm, else_part, case_body, grouped, primary, prefix_by, applied, product_ops, is_percent, product, sum_ops, sum_op, sum, comparison_ops, comparison_op, Test, compared, null_test, among, tested, membership, nullness, test, comparison, negation_by, conjunction, disjunction, whole_by, nested_by, nested, expression, select}
use Rattle.sql_text.proofs.Good.{Gives, Any, Pair, Each, Some', IfSome, either_gives, pure_gives, optional_gives, mapped_gives, paired_gives, both_gives, behind_gives, before_gives, chain_gives, rows_give, said_gives, keyword_gives, sign_gives, key_gives, mark_gives, opened_gives}
use Rattle.sql_text.proofs.GoodParts.{Name, Lit, Well, Wells, name_well, but_well, word_name_well, named_within, text_well, plain_well, negative_well, value_well, closed_well, parens_well, exprs_well, arguments_well}
use Rattle.sql_text.proofs.GoodSelects.{WellPart, WellQuery, OneQuery, select_by_well, single_by_well}

-- ---- names with what stands behind them
-- a token that may be a name
abbrev Named : Tok → Type 0
Named t = is_name (name_said t) ≡ true

abbrev TailWell : Tail → Type 0
TailWell alone = Unit {0}
TailWell (of_column c) = Name c
TailWell (called args) = are_well_trees args ≡ true

column_good : (o : Option Keyword) (t c : List ℕ) → Name t → Name c → Well (column_by o t c)
column_good (Some words.New) t c p q = q
column_good (Some words.Old) t c p q = q
column_good o t c p q = and_from (is_name t) (is_name c) p q

named_good : (t : Tok) (x : Tail) → Named t → TailWell x → Well (named t x)
named_good t alone p q = p
named_good t (of_column c) p q = column_good (keyword_said t) (name_said t) c p q
named_good t (called args) p q = and_from (is_name (name_said t)) (are_well_trees args) p q

named_token : (set : List ℕ) → within set names ≡ true → Gives Named (token kind set (λ t. Some t)).texts
named_token set w = said_gives set (λ t. t) (named_within set w)

column_tail_well : Gives TailWell column_tail.texts
column_tail_well = either_gives (mapped_gives of_column (λ c p. p) (mark_gives name_well signs.Dot)) (pure_gives alone tt)

-- ---- built-ins
-- the name with a column, or good arguments
abbrev Follows : {A : Type 0} → (A → Type 0) → Following A → Type 0
Follows P (with_tail x) = TailWell x
Follows P (with_arguments a) = P a

built_good : {A : Type 0} (P : A → Type 0) (make : Tok → A → Tree) → ((t : Tok) (a : A) → P a → Well (make t a)) → (t : Tok) (x : Following A) → Named t → Follows P x → Well (built make t x)
built_good P make h t (with_tail x) p q = named_good t x p q
built_good P make h t (with_arguments a) p q = h t a q

built_or_named_well : {A : Type 0} {P : A → Type 0} (set : List ℕ) → within set names ≡ true → (make : Tok → A → Tree) → ((t : Tok) (a : A) → P a → Well (make t a)) → (n : ℕ) (r : Rule Tok A) → Gives P r.texts → Gives Well (built_or_named set make n r).texts
built_or_named_well {P = P} set w make h n r q =
    both_gives {Q = Follows P} (built make) (built_good P make h) (named_token set w) (either_gives (mapped_gives with_arguments (λ a p. p) (parens_well n r q)) (mapped_gives {P = TailWell} with_tail (λ x p. p) column_tail_well))

one_good : (t : Tok) (a : Tree) → Well a → Well (call_one t a)
one_good t a p = and_from (is_well_tree a) true p refl

two_good : (t : Tok) (ab : Tree × Tree) → Pair Well Well ab → Well (call_two t ab)
two_good t ab p = and_from (is_well_tree ab.0) (is_well_tree ab.1 && true) p.0 (and_from (is_well_tree ab.1) true p.1 refl)

-- three good arguments
abbrev ThreeWell : Tree × (Tree × Tree) → Type 0
ThreeWell abc = (is_well_tree abc.0 && (is_well_tree abc.1.0 && (is_well_tree abc.1.1 && true))) ≡ true

three_good : (a : Tree) (x : Tree × Tree) → Well a → Pair Well Well x → (is_well_tree a && (is_well_tree x.0 && (is_well_tree x.1 && true))) ≡ true
three_good a x p q =
    and_from (is_well_tree a) (is_well_tree x.0 && (is_well_tree x.1 && true)) p (and_from (is_well_tree x.0) (is_well_tree x.1 && true) q.0 (and_from (is_well_tree x.1) true q.1 refl))

many_good : (t : Tok) (ts : Trees) → Wells ts → Well (call_many t ts)
many_good t ts p = and_from (has_tree ts) (are_well_trees ts) p.0 p.1

constant_good : (n : List ℕ) (v : Value) → is_literal (Text n) ≡ true → Lit v → Well (name_const n v)
constant_good n v p q = and_from (is_literal (Text n)) (is_literal v) p q

constant_well : Gives Well constant.texts
constant_well = both_gives name_const constant_good text_well (mark_gives (closed_well a_value value_well) signs.Comma)

both_good : (a b : Tree) → Well a → Well b → (is_well_tree a && is_well_tree b) ≡ true
both_good a b p q = and_from (is_well_tree a) (is_well_tree b) p q

pub name_or : (s : List ℕ) (o : Option (List ℕ)) → Name s → IfSome Name o → Name (unwrap_or o s)
name_or s None p q = p
name_or s (Some n) p q = q

pub system_name_well : Gives Name system_name.texts
system_name_well =
    either_gives (both_gives {Q = λ o. IfSome Name o} (λ s o. unwrap_or o s) name_or (word_name_well words.Session refl) (
    optional_gives None tt (mapped_gives Some (λ n p. p) (mark_gives name_well signs.Dot)))) (but_well (code words.Session ∷ []) refl)

-- ---- CASE
arms_good : (as' : List (Tree × Tree)) → Each (Pair Well Well) as' → are_well_arms (arms_of as') ≡ true
arms_good [] p = refl
arms_good (a ∷ as') p = and_from (is_well_tree a.0 && is_well_tree a.1) (are_well_arms (arms_of as')) (and_from (is_well_tree a.0) (is_well_tree a.1) p.0.0 p.0.1) (arms_good as' p.1)

choice_good : (as' : List (Tree × Tree)) (o : Part) → Some' (Pair Well Well) as' → WellPart o → Well (choice (arms_of as') o)
choice_good [] o p q = absurd p
choice_good (a ∷ as') o p q = and_from (are_well_arms (arms_of (a ∷ as'))) (is_well_part o) (arms_good (a ∷ as') p) q

-- ---- operators
operated_good : (a : Tree) (s : BinOp × Tree) → Well a → Pair Any Well s → Well (applied a s)
operated_good a s p q = and_from (is_well_tree a) (is_well_tree s.1) p q.1

abbrev TestWell : Test → Type 0
TestWell (compared op b) = Well b
TestWell (null_test op) = Unit {0}
TestWell (among negated ts) = Wells ts

tested_good : (a : Tree) (x : Test) → Well a → TestWell x → Well (tested a x)
tested_good a (compared op b) p q = and_from (is_well_tree a) (is_well_tree b) p q
tested_good a (null_test op) p q = p
tested_good a (among negated ts) p q = and_from (is_well_tree a && has_tree ts) (are_well_trees ts) (and_from (is_well_tree a) (has_tree ts) p q.0) q.1

op_gives : (set : List ℕ) (h : Tok → BinOp) → Gives Any (token kind set (λ t. Some (h t))).texts
op_gives set h = said_gives set h (λ t g m. tt)

nullness_well : Gives TestWell nullness.texts
nullness_well =
    key_gives (either_gives (mapped_gives (λ u. null_test IsNotNull) (λ u p. tt) (key_gives (keyword_gives words.Null) words.Not)) (mapped_gives (λ u. null_test IsNull) (λ u p. tt) (keyword_gives words.Null))) words.Is

module _ (r : Rule Tok Tree) (q : Gives Well r.texts) where
  name_tail_well : (n : ℕ) → Gives TailWell (name_tail n r).texts
  name_tail_well n = either_gives (mapped_gives called (λ ts p. p) (parens_well n (arguments r) (arguments_well r q))) column_tail_well

  two_well : Gives (Pair Well Well) (two_arguments paired r).texts
  two_well = paired_gives q (mark_gives (closed_well r q) signs.Comma)

  three_well : {A : Type 0} {P : A → Type 0} (f : Tree → Tree → Tree → A) → ((a : Tree) (x : Tree × Tree) → Well a → Pair Well Well x → P (f a x.0 x.1)) → Gives P (three_arguments f r).texts
  three_well f h = both_gives (λ a bc. f a bc.0 bc.1) h q (mark_gives (paired_gives q (mark_gives (closed_well r q) signs.Comma)) signs.Comma)

  random_well : (m : ℕ) → Gives Well (random m r).texts
  random_well m = key_gives (behind_gives (parens_well m (sign signs.Close) (sign_gives signs.Close)) (mark_gives (mapped_gives floor_rand (λ a p. p) (closed_well r q)) signs.Star)) words.Rand

  when_well : Gives (Pair Well Well) (when_arm r).texts
  when_well = key_gives (paired_gives q (key_gives q words.Then)) words.When

  else_well : Gives WellPart (else_part r).texts
  else_well = optional_gives no_part refl (mapped_gives part (λ t p. p) (key_gives q words.Else))

  case_well : Gives Well (case_body r).texts
  case_well = before_gives (both_gives (λ as' o. choice (arms_of as') o) choice_good (rows_give when_well (λ as'. when_well)) else_well) (keyword_gives words.End)

  product_well : Gives Well (product r).texts
  product_well = chain_gives applied operated_good q (λ a. paired_gives (op_gives product_ops is_percent) q)

  conjunction_well : Gives Well (conjunction r).texts
  conjunction_well = chain_gives (binary ops.And) both_good q (λ a. key_gives q words.And)

module _ (r : Rule Tok Tree) (q : Gives Well r.texts) where
  sum_well : Gives Well (sum r).texts
  sum_well = chain_gives applied operated_good (product_well r q) (λ a. paired_gives (op_gives sum_ops sum_op) (product_well r q))

  disjunction_well : Gives Well (disjunction r).texts
  disjunction_well = chain_gives (binary ops.Or) both_good (conjunction_well r q) (λ a. key_gives (conjunction_well r q) words.Or)

  membership_well : (negated : Bool) (n : ℕ) → Gives TestWell (membership negated n r).texts
  membership_well negated n = key_gives (mapped_gives (among negated) (λ ts p. p) (parens_well n (closed (exprs r)) (closed_well (exprs r) (exprs_well r q)))) words.In

module _ (n : ℕ) (r operand : Rule Tok Tree) (q : Gives Well r.texts) (q' : Gives Well operand.texts) where
  test_well : Gives TestWell (test n r operand).texts
  test_well =
      either_gives nullness_well (
      either_gives (membership_well r q false n) (
      either_gives (key_gives (membership_well r q true n) words.Not) (
      both_gives {P = Any} compared (λ op b u p. p) (op_gives comparison_ops comparison_op) (sum_well operand q'))))

  comparison_well : Gives Well (comparison n r operand).texts
  comparison_well = chain_gives tested tested_good (sum_well operand q') (λ a. test_well)

-- ---- all of it
-- rules that give what is well
pub record WellRules (x : Nested) : Type 0 where
  pub whole : Gives Well x.whole.texts
  pub negation : Gives Well x.negation.texts
  pub prefix : Gives Well x.prefix.texts
  pub select : Gives WellQuery x.select.texts
  pub single : Gives OneQuery x.single.texts

module _ (n : ℕ) (x : Nested) (i : WellRules x) where
  built_ins_well : Gives Well (built_ins n x).texts
  built_ins_well =
      either_gives (built_or_named_well (none_code ∷ []) refl call_none (λ t u p. refl) n (sign signs.Close) (sign_gives signs.Close)) (
      either_gives (built_or_named_well (one_code ∷ []) refl call_one one_good n (closed x.whole) (closed_well x.whole i.whole)) (
      either_gives (built_or_named_well (two_code ∷ []) refl call_two two_good n (two_arguments paired x.whole) (two_well x.whole i.whole)) (
      either_gives (built_or_named_well (three_code ∷ []) refl call_three (λ t abc p. p) n (three_arguments as_three x.whole) (three_well x.whole i.whole {P = ThreeWell} as_three three_good)) (
      either_gives (built_or_named_well (many_code ∷ []) refl call_many many_good n (closed (exprs x.whole)) (closed_well (exprs x.whole) (exprs_well x.whole i.whole))) (
      either_gives (built_or_named_well (code words.NameConst ∷ []) refl (λ t a. a) (λ t a p. p) n constant constant_well) (
      built_or_named_well (code words.Floor ∷ []) refl (λ t a. a) (λ t a p. p) n (random (pred n) x.prefix) (random_well x.prefix i.prefix (pred n))))))))

  grouped_well : Gives Well (grouped x).texts
  grouped_well =
      either_gives (mapped_gives {P = OneQuery} subquery (λ s p. and_from (gives_one s) (is_well_query s) p.0 p.1) (closed_well x.single i.single)) (closed_well x.whole i.whole)

  primary_well : Gives Well (primary n x).texts
  primary_well =
      either_gives (parens_well n (grouped x) grouped_well) (
      either_gives (key_gives (parens_well n (three_arguments (on_three Func3.If) x.whole) (three_well x.whole i.whole {P = Well} (on_three Func3.If) three_good)) words.If) (
      either_gives (key_gives (parens_well n (mapped values_of (closed a_name)) (mapped_gives values_of (λ c p. p) (closed_well a_name name_well))) words.Values) (
      either_gives (opened_gives n (code words.Case) (λ u a. a) (case_body x.whole) (λ a p. p) (case_well x.whole i.whole)) (
      either_gives (key_gives (parens_well n (mapped exists (closed x.select)) (mapped_gives exists (λ s p. p) (closed_well x.select i.select))) words.Exists) (
      either_gives (mapped_gives user_variable (λ v p. p) (mark_gives name_well signs.At)) (
      either_gives (mapped_gives system_variable (λ v p. p) (mark_gives system_name_well signs.AtAt)) (
      either_gives built_ins_well (
      either_gives (both_gives named named_good (named_token uncalled_names refl) column_tail_well) (
      either_gives (mapped_gives literal (λ v p. p) plain_well) (
      both_gives named named_good (named_token own_names refl) (name_tail_well x.whole i.whole n)))))))))))

  prefix_well : Gives Well (prefix_by n x).texts
  prefix_well =
      either_gives (mapped_gives literal (λ v p. p) negative_well) (
      either_gives (opened_gives n (sign_code signs.Minus) (λ u a. unary Negate a) x.prefix (λ a p. p) i.prefix) primary_well)

  negation_well : Gives Well (negation_by n x).texts
  negation_well =
      either_gives (opened_gives n (code words.Not) (λ u a. unary Not a) x.negation (λ a p. p) i.negation) (comparison_well n x.whole (prefix_by n x) i.whole prefix_well)

  whole_well : Gives Well (whole_by n x).texts
  whole_well = disjunction_well (negation_by n x) negation_well

  nested_by_well : WellRules (nested_by n x)
  nested_by_well = record {
    whole = whole_well;
    negation = negation_well;
    prefix = prefix_well;
    select = select_by_well n (whole_by n x) x.whole whole_well i.whole;
    single = single_by_well n (whole_by n x) x.whole whole_well i.whole;
  }

nothing_gives : {A : Type 0} {P : A → Type 0} → Gives P (refused {T = Tok} {A = A}).texts
nothing_gives = record { gives = λ a ts rest g x. absurd x }

no_rules : WellRules (record { whole = refused; negation = refused; prefix = refused; select = refused; single = refused })
no_rules = record { whole = nothing_gives; negation = nothing_gives; prefix = nothing_gives; select = nothing_gives; single = nothing_gives }

nested_well : (n : ℕ) → WellRules (nested n)
unfolding nested
nested_well zero = nested_by_well zero (record { whole = refused; negation = refused; prefix = refused; select = refused; single = refused }) no_rules
nested_well (suc d) = nested_by_well (suc d) (nested d) (nested_well d)

pub expression_well : (n : ℕ) → Gives Well (expression n).texts
expression_well n = (nested_well n).whole

pub select_well : (n : ℕ) → Gives WellQuery (select n).texts
select_well n = (nested_well n).select
