-- Expressions. Each rule has the number of constructs that may still be opened, and the rules for one construct less.
use Rattle.std.specs.Prelude.{ℕ, zero, suc, pred, Bool, true, false, List, [], ◌∷◌, ◌++◌, Option, Some}
use Rattle.val_types.specs.declared.ops.UnOp.{UnOp}
use Rattle.val_types.specs.declared.ops.UnOp.TheVariants.{Negate, Not, IsNull, IsNotNull}
use Rattle.val_types.specs.declared.ops.Func3.{Func3}
use Rattle.val_types.specs.declared.ops.BinOp.{BinOp}
use Rattle.val_types.specs.declared.ops.BinOp.TheVariants as ops
use Rattle.sql_lex.specs.declared.keyword.Keyword.{Keyword}
use Rattle.sql_lex.specs.declared.keyword.Keyword.TheVariants as words
use Rattle.sql_lex.specs.declared.token.Symbol.TheVariants as signs
use Rattle.sql_tree.specs.Tree.{Tree, literal, name, column, new_column, old_column, user_variable, system_variable, unary, binary, is_in, choice, subquery, exists, call, values_of, name_const, floor_rand}
use Rattle.sql_tree.specs.Tree.{Trees, Part, no_part, part, Query}
use Rattle.sql_tree.specs.BuiltIns.{on_none, on_one, on_two, on_three, on_many}
use Rattle.sql_tree.specs.View.{arms_of}
use Rattle.sql_grammar.specs.Rule.{Rule, token, any_of, both, either, pure, refused, mapped, opened, chain, optional, paired, behind, before, alone as single_one, then_one}
use Rattle.sql_syntax.specs.Tokens.{Tok, mark, keyword_said, kind, code, sign_code, number_code, text_code, tight_code, broken_code, none_code, one_code, two_code, three_code, many_code, function_names, own_names, none_said, one_said, two_said, three_said, many_said, keyword, sign, name_said}
use Rattle.sql_syntax.specs.Parts.{a_name, system_name, exprs, arguments, closed, in_parentheses, a_text, plain_value, negative_value, a_value}
use Rattle.sql_syntax.specs.Selects.{select_by, single_by}

-- The rules that nest in one another, each for the same number of constructs that may still be opened: expressions, operands of
-- NOT, operands of a prefix minus, SELECTs, and SELECTs with one item.
pub record Nested : Type 1 where
  pub whole : Rule Tok Tree
  pub negation : Rule Tok Tree
  pub prefix : Rule Tok Tree
  pub select : Rule Tok Query
  pub single : Rule Tok Query

-- what stands behind a name: nothing, a column, or the arguments of a call
pub data Tail : Type 0 where
  alone : Tail
  of_column : List ℕ → Tail
  called : Trees → Tail

-- a column of a table, or of a trigger's row where the word is NEW or OLD without quotes
abbrev pub column_by : Option Keyword → List ℕ → List ℕ → Tree
column_by (Some words.New) table c = new_column c
column_by (Some words.Old) table c = old_column c
column_by o table c = column table c

-- a name with what stands behind it
abbrev pub named : Tok → Tail → Tree
named t alone = name (name_said t)
named t (of_column c) = column_by (keyword_said t) (name_said t) c
named t (called args) = call (name_said t) args

-- a dot and a column, or nothing
abbrev pub column_tail : Rule Tok Tail
column_tail = either kind (sign_code signs.Dot ∷ []) (mapped of_column (behind (sign signs.Dot) a_name)) (pure alone)

-- arguments, a column, or nothing
abbrev pub name_tail : ℕ → Rule Tok Tree → Rule Tok Tail
name_tail n r = either kind (sign_code signs.Open ∷ []) (mapped called (in_parentheses n (arguments r))) column_tail

-- aggregates, and RAND: names that no expression calls
abbrev pub uncalled_names : List ℕ
uncalled_names = code words.Count ∷ code words.Sum ∷ code words.Min ∷ code words.Max ∷ code words.Rand ∷ []

-- what stands behind the name of a built-in: a column or nothing, or its arguments
pub data Following (A : Type 0) : Type 0 where
  with_tail : Tail → Following A
  with_arguments : A → Following A

-- a built-in with its arguments, or a name
abbrev pub built : {A : Type 0} → (Tok → A → Tree) → Tok → Following A → Tree
built make t (with_tail tail) = named t tail
built make t (with_arguments a) = make t a

-- the name of a built-in, which is one before a parenthesis and else a name
abbrev pub built_or_named : {A : Type 0} → List ℕ → (Tok → A → Tree) → ℕ → Rule Tok A → Rule Tok Tree
built_or_named set make n r =
    both (built make) (token kind set (λ t. Some t)) (
    either kind (sign_code signs.Open ∷ []) (mapped with_arguments (in_parentheses n r)) (mapped with_tail column_tail))

-- ---- built-ins by their number of arguments
-- two expressions and the closing parenthesis
abbrev pub two_arguments : {A : Type 0} → (Tree → Tree → A) → Rule Tok Tree → Rule Tok A
two_arguments f r = both f r (behind (sign signs.Comma) (closed r))

-- three expressions and the closing parenthesis
abbrev pub three_arguments : {A : Type 0} → (Tree → Tree → Tree → A) → Rule Tok Tree → Rule Tok A
three_arguments f r = both (λ a bc. f a bc.0 bc.1) r (behind (sign signs.Comma) (two_arguments paired r))

-- three expressions
abbrev pub as_three : Tree → Tree → Tree → Tree × (Tree × Tree)
as_three a b c = (a, (b, c))

-- text, literal)
abbrev pub constant : Rule Tok Tree
constant = both name_const a_text (behind (sign signs.Comma) (closed a_value))

-- RAND() * operand), by the number of constructs behind the parenthesis of FLOOR
abbrev pub random : ℕ → Rule Tok Tree → Rule Tok Tree
random m prefix = behind (keyword words.Rand) (behind (in_parentheses m (sign signs.Close)) (behind (sign signs.Star) (mapped floor_rand (closed prefix))))

-- the names of all of them, and those that have a rule of their own
abbrev pub built_in_names : List ℕ
built_in_names = function_names ++ (code words.NameConst ∷ code words.Floor ∷ [])

-- the call of a built-in that a word names, by its number of arguments

abbrev pub call_none : Tok → Unit {0} → Tree
call_none t u = on_none (none_said t)

abbrev pub call_one : Tok → Tree → Tree
call_one t a = on_one (one_said t) a

abbrev pub call_two : Tok → Tree × Tree → Tree
call_two t ab = on_two (two_said t) ab.0 ab.1

abbrev pub call_three : Tok → Tree × (Tree × Tree) → Tree
call_three t abc = on_three (three_said t) abc.0 abc.1.0 abc.1.1

abbrev pub call_many : Tok → Trees → Tree
call_many t ts = on_many (many_said t) ts

-- those without arguments
abbrev pub of_none : ℕ → Rule Tok Tree
of_none n = built_or_named (none_code ∷ []) call_none n (sign signs.Close)

-- those of one argument
abbrev pub of_one : ℕ → Rule Tok Tree → Rule Tok Tree
of_one n r = built_or_named (one_code ∷ []) call_one n (closed r)

-- those of two arguments
abbrev pub of_two : ℕ → Rule Tok Tree → Rule Tok Tree
of_two n r = built_or_named (two_code ∷ []) call_two n (two_arguments paired r)

-- those of three arguments
abbrev pub of_three : ℕ → Rule Tok Tree → Rule Tok Tree
of_three n r = built_or_named (three_code ∷ []) call_three n (three_arguments as_three r)

-- those of one argument or more
abbrev pub of_many : ℕ → Rule Tok Tree → Rule Tok Tree
of_many n r = built_or_named (many_code ∷ []) call_many n (closed (exprs r))

-- NAME_CONST
abbrev pub of_name_const : ℕ → Rule Tok Tree
of_name_const n = built_or_named (code words.NameConst ∷ []) (λ t a. a) n constant

-- FLOOR, by the operands of a prefix minus in it
abbrev pub of_floor : ℕ → Rule Tok Tree → Rule Tok Tree
of_floor n prefix = built_or_named (code words.Floor ∷ []) (λ t a. a) n (random (pred n) prefix)

-- a built-in with its arguments, or its name as a column or a table
abbrev pub built_ins : ℕ → Nested → Rule Tok Tree
built_ins n inner =
    either kind (none_code ∷ []) (of_none n) (
    either kind (one_code ∷ []) (of_one n inner.whole) (
    either kind (two_code ∷ []) (of_two n inner.whole) (
    either kind (three_code ∷ []) (of_three n inner.whole) (
    either kind (many_code ∷ []) (of_many n inner.whole) (
    either kind (code words.NameConst ∷ []) (of_name_const n) (
    of_floor n inner.prefix))))))

-- ---- primary expressions
-- WHEN condition THEN value
abbrev pub when_arm : Rule Tok Tree → Rule Tok (Tree × Tree)
when_arm r = behind (keyword words.When) (both paired r (behind (keyword words.Then) r))

-- one WHEN or more
abbrev pub when_arms : Rule Tok Tree → Rule Tok (List (Tree × Tree))
when_arms r = chain kind then_one (code words.When ∷ []) (mapped single_one (when_arm r)) (when_arm r)

-- [ELSE expr]
abbrev pub else_part : Rule Tok Tree → Rule Tok Part
else_part r = optional kind (code words.Else ∷ []) no_part (mapped part (behind (keyword words.Else) r))

-- the WHENs and ELSE of a CASE
abbrev pub case_parts : Rule Tok Tree → Rule Tok Tree
case_parts r = both (λ as' o. choice (arms_of as') o) (when_arms r) (else_part r)

-- what stands behind CASE
abbrev pub case_body : Rule Tok Tree → Rule Tok Tree
case_body r = before (case_parts r) (keyword words.End)

-- in parentheses: a SELECT with one item, or an expression
abbrev pub grouped : Nested → Rule Tok Tree
grouped inner = either kind (code words.Select ∷ []) (mapped subquery (closed inner.single)) (closed inner.whole)

-- A name, a call by name or a literal, of which the first token decides.
abbrev pub by_name : ℕ → Nested → Rule Tok Tree
by_name n inner =
    either kind built_in_names (built_ins n inner) (
    either kind uncalled_names (both named (token kind uncalled_names (λ t. Some t)) column_tail) (
    either kind (number_code ∷ text_code ∷ code words.Null ∷ []) (mapped literal plain_value) (
    both named (token kind own_names (λ t. Some t)) (name_tail n inner.whole))))

-- A primary expression, of which the first token decides.
abbrev pub primary : ℕ → Nested → Rule Tok Tree
primary n inner =
    either kind (sign_code signs.Open ∷ []) (in_parentheses n (grouped inner)) (
    either kind (code words.If ∷ []) (behind (keyword words.If) (in_parentheses n (three_arguments (on_three Func3.If) inner.whole))) (
    either kind (code words.Values ∷ []) (behind (keyword words.Values) (in_parentheses n (mapped values_of (closed a_name)))) (
    either kind (code words.Case ∷ []) (opened n (any_of kind (code words.Case)) (λ u a. a) (case_body inner.whole)) (
    either kind (code words.Exists ∷ []) (behind (keyword words.Exists) (in_parentheses n (mapped exists (closed inner.select)))) (
    either kind (sign_code signs.At ∷ []) (mapped user_variable (behind (sign signs.At) a_name)) (
    either kind (sign_code signs.AtAt ∷ []) (mapped system_variable (behind (sign signs.AtAt) system_name)) (by_name n inner)))))))

-- Operands: a primary expression, or one behind prefix minuses. A minus directly before a number belongs to it; another is an
-- operator, which opens a construct.
abbrev pub prefix_by : ℕ → Nested → Rule Tok Tree
prefix_by n inner =
    either kind (tight_code ∷ []) (mapped literal negative_value) (
    either kind (sign_code signs.Minus ∷ []) (opened n (any_of kind (sign_code signs.Minus)) (λ u a. unary Negate a) inner.prefix) (primary n inner))

-- an operator and its right operand, behind the left one
abbrev pub applied : Tree → BinOp × Tree → Tree
applied a s = binary s.0 a s.1

-- the operator that a word is
abbrev pub product_op : Option Keyword → BinOp
product_op (Some words.Div) = ops.Divide
product_op (Some words.Mod) = ops.Modulo
product_op o = ops.Multiply

-- operators of the level of products
abbrev pub product_ops : List ℕ
product_ops = sign_code signs.Star ∷ sign_code signs.Percent ∷ code words.Div ∷ code words.Mod ∷ []

-- the operator of this level that a token is
abbrev pub is_percent : Tok → BinOp
is_percent (mark signs.Percent) = ops.Modulo
is_percent t = product_op (keyword_said t)

-- operands with `*`, `%`, DIV and MOD between
abbrev pub product : Rule Tok Tree → Rule Tok Tree
product r = chain kind applied product_ops r (both paired (token kind product_ops (λ t. Some (is_percent t))) r)

-- operators of the level of sums
abbrev pub sum_ops : List ℕ
sum_ops = sign_code signs.Plus ∷ sign_code signs.Minus ∷ tight_code ∷ broken_code ∷ []

-- the operator of this level that a token is
abbrev pub sum_op : Tok → BinOp
sum_op (mark signs.Plus) = ops.Add
sum_op t = ops.Subtract

-- products with `+` and `-` between
abbrev pub sum : Rule Tok Tree → Rule Tok Tree
sum r = chain kind applied sum_ops (product r) (both paired (token kind sum_ops (λ t. Some (sum_op t))) (product r))

-- signs that compare
abbrev pub comparison_ops : List ℕ
comparison_ops = sign_code signs.Equal ∷ sign_code signs.NullSafeEqual ∷ sign_code signs.NotEqual ∷ sign_code signs.Less ∷ sign_code signs.LessEqual ∷ sign_code signs.Greater ∷ sign_code signs.GreaterEqual ∷ []

-- the comparison that a token is
abbrev pub comparison_op : Tok → BinOp
comparison_op (mark signs.Equal) = ops.Equal
comparison_op (mark signs.NullSafeEqual) = ops.NullSafeEqual
comparison_op (mark signs.NotEqual) = ops.NotEqual
comparison_op (mark signs.Less) = ops.Less
comparison_op (mark signs.LessEqual) = ops.LessOrEqual
comparison_op (mark signs.Greater) = ops.Greater
comparison_op t = ops.GreaterOrEqual

-- what stands behind the left operand of a comparison
pub data Test : Type 0 where
  compared : BinOp → Tree → Test
  null_test : UnOp → Test
  among : Bool → Trees → Test

-- the left operand with what stands behind it
abbrev pub tested : Tree → Test → Tree
tested a (compared op b) = binary op a b
tested a (null_test op) = unary op a
tested a (among negated ts) = is_in negated a ts

-- IN and the list in parentheses
abbrev pub membership : Bool → ℕ → Rule Tok Tree → Rule Tok Test
membership negated n r = behind (keyword words.In) (mapped (among negated) (in_parentheses n (closed (exprs r))))

-- IS NULL or IS NOT NULL
abbrev pub nullness : Rule Tok Test
nullness =
    behind (keyword words.Is) (
    either kind (code words.Not ∷ []) (mapped (λ u. null_test IsNotNull) (behind (keyword words.Not) (keyword words.Null))) (
    mapped (λ u. null_test IsNull) (keyword words.Null)))

-- what goes on behind the left operand of a comparison
abbrev pub test_kinds : List ℕ
test_kinds = code words.Is ∷ code words.In ∷ code words.Not ∷ comparison_ops

-- IS, IN, NOT IN, or a sign and the right operand
abbrev pub test : ℕ → Rule Tok Tree → Rule Tok Tree → Rule Tok Test
test n r operand =
    either kind (code words.Is ∷ []) nullness (
    either kind (code words.In ∷ []) (membership false n r) (
    either kind (code words.Not ∷ []) (behind (keyword words.Not) (membership true n r)) (
    both compared (token kind comparison_ops (λ t. Some (comparison_op t))) (sum operand))))

-- a sum, and tests of it
abbrev pub comparison : ℕ → Rule Tok Tree → Rule Tok Tree → Rule Tok Tree
comparison n r operand = chain kind tested test_kinds (sum operand) (test n r operand)

-- NOT as often as may be, and a comparison
abbrev pub negation_by : ℕ → Nested → Rule Tok Tree
negation_by n inner =
    either kind (code words.Not ∷ []) (opened n (any_of kind (code words.Not)) (λ u a. unary Not a) inner.negation) (comparison n inner.whole (prefix_by n inner))

-- operands with AND between
abbrev pub conjunction : Rule Tok Tree → Rule Tok Tree
conjunction r = chain kind (binary ops.And) (code words.And ∷ []) r (behind (keyword words.And) r)

-- operands with OR between
abbrev pub disjunction : Rule Tok Tree → Rule Tok Tree
disjunction r = chain kind (binary ops.Or) (code words.Or ∷ []) (conjunction r) (behind (keyword words.Or) (conjunction r))

-- an expression, by the rules for one construct less
abbrev pub whole_by : ℕ → Nested → Rule Tok Tree
whole_by n inner = disjunction (negation_by n inner)

-- ---- all of it, by the number of constructs that may still be opened
abbrev pub nested_by : ℕ → Nested → Nested
nested_by n inner = record {
  whole = whole_by n inner;
  negation = negation_by n inner;
  prefix = prefix_by n inner;
  select = select_by n (whole_by n inner) inner.whole;
  single = single_by n (whole_by n inner) inner.whole;
}

-- the rules, with as many constructs as the number says still to be opened
unfoldable pub nested : ℕ → Nested
nested zero = nested_by zero (record { whole = refused; negation = refused; prefix = refused; select = refused; single = refused })
nested (suc d) = nested_by (suc d) (nested d)

-- an expression, with as many constructs as the number says still to be opened
abbrev pub expression : ℕ → Rule Tok Tree
expression d = (nested d).whole

-- a SELECT
abbrev pub select : ℕ → Rule Tok Query
select d = (nested d).select
