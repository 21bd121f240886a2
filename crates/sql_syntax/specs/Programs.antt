-- Stored programs and the statements in them, by the number of constructs that may still be opened.
use Rattle.std.specs.Prelude.{ℕ, zero, suc, pred, Bool, true, false, List, [], ◌∷◌, length, Some, None}
use Rattle.sql_lex.specs.declared.keyword.Keyword.TheVariants as words
use Rattle.sql_lex.specs.declared.token.Symbol.TheVariants as signs
use Rattle.sql_tree.specs.Tree.{Tree, Part, no_part, part}
use Rattle.sql_tree.specs.Statement.{Statement, Statements, create_table, create_function, create_procedure, create_trigger, program, trigger, select as select_rows, block, if_steps, while_steps, return_value, statement, no_statement, Branches, no_branch, branch, Otherwise, no_else, else_steps, Declared}
use Rattle.sql_tree.specs.declared.statements.SqlType.{SqlType}
use Rattle.sql_tree.specs.declared.statements.Parameter.{Parameter}
use Rattle.sql_tree.specs.declared.statements.Time.{Time}
use Rattle.sql_tree.specs.declared.statements.Cause.{Cause}
use Rattle.sql_syntax.specs.declared.heads.Head.{Head}
use Rattle.sql_syntax.specs.declared.heads.Head.TheVariants.{Function, Procedure, Trigger}
use Rattle.sql_grammar.specs.Reader.{Read, steps}
use Rattle.sql_grammar.specs.Sets.{next_in}
use Rattle.sql_grammar.specs.Rule.{Rule, any_of, both, either, refused, mapped, opened, chain, optional, repeated, paired, behind, before, alone, then_one}
use Rattle.sql_syntax.specs.Tokens.{Tok, kind, code, sign_code, keyword, sign}
use Rattle.sql_syntax.specs.Parts.{a_name, list_of, closed, in_parentheses}
use Rattle.sql_syntax.specs.Expressions.{expression, select}
use Rattle.sql_syntax.specs.Changes.{change}
use Rattle.sql_syntax.specs.Tables.{a_type, table}
use Rattle.sql_syntax.specs.Sessions.{set, do_exprs, call, drop, truncated, transaction}

-- ---- what stands before the body of a program
-- the program with its body
abbrev pub with_body : Head → Statement → Statement
with_body (Function n ps k) s = create_function (program n ps (Some k) s)
with_body (Procedure n ps) s = create_procedure (program n ps None s)
with_body (Trigger n time event t) s = create_trigger (trigger n time event t s)

-- programs in one another, and the body of the last
abbrev pub with_heads : List Head → Statement → Statement
with_heads [] s = s
with_heads (h ∷ hs) s = with_body h (with_heads hs s)

-- name type
abbrev pub parameter : ℕ → Rule Tok Parameter
parameter n = both (λ c k. record { name = c; kind = k }) a_name (a_type n)

-- [IN] name type
abbrev pub in_parameter : ℕ → Rule Tok Parameter
in_parameter n = behind (optional kind (code words.In ∷ []) tt (keyword words.In)) (parameter n)

-- name type, with IN before it where that is allowed
abbrev pub parameter_of : Bool → ℕ → Rule Tok Parameter
parameter_of true n = in_parameter n
parameter_of false n = parameter n

-- what stands up to the closing parenthesis: parameters with commas between, none too
abbrev pub parameters : Rule Tok Parameter → Rule Tok (List Parameter)
parameters r = either kind (sign_code signs.Close ∷ []) (mapped (λ u. []) (sign signs.Close)) (closed (list_of r))

-- [NOT] DETERMINISTIC | NO SQL | CONTAINS SQL | READS SQL DATA | MODIFIES SQL DATA
abbrev pub trait' : Rule Tok (Unit {0})
trait' =
    either kind (code words.Not ∷ []) (behind (keyword words.Not) (keyword words.Deterministic)) (
    either kind (code words.Deterministic ∷ []) (keyword words.Deterministic) (
    either kind (code words.No ∷ []) (behind (keyword words.No) (keyword words.Sql)) (
    either kind (code words.Contains ∷ []) (behind (keyword words.Contains) (keyword words.Sql)) (
    either kind (code words.Reads ∷ []) (behind (keyword words.Reads) (behind (keyword words.Sql) (keyword words.Data))) (
    behind (keyword words.Modifies) (behind (keyword words.Sql) (keyword words.Data)))))))

-- what traits begin with
abbrev pub trait_words : List ℕ
trait_words = code words.Not ∷ code words.Deterministic ∷ code words.No ∷ code words.Contains ∷ code words.Reads ∷ code words.Modifies ∷ []

-- traits, which are read and dropped
abbrev pub traits : Rule Tok (Unit {0})
traits = repeated kind (λ u v. tt) trait_words tt trait'

-- name ([parameters]) RETURNS type {trait}
abbrev pub function : ℕ → Rule Tok Head
function n =
    both (λ f rest. Function f rest.0 rest.1) a_name (
    both paired (in_parentheses n (parameters (parameter (pred n)))) (behind (keyword words.Returns) (before (a_type n) traits)))

-- name ([[IN] parameters]) {trait}
abbrev pub procedure : ℕ → Rule Tok Head
procedure n = both Procedure a_name (before (in_parentheses n (parameters (in_parameter (pred n)))) traits)

-- BEFORE | AFTER
abbrev pub time : Rule Tok Time
time = either kind (code words.Before ∷ []) (mapped (λ u. Time.Before) (keyword words.Before)) (mapped (λ u. Time.After) (keyword words.After))

-- INSERT | UPDATE | DELETE
abbrev pub event : Rule Tok Cause
event =
    either kind (code words.Insert ∷ []) (mapped (λ u. Cause.Insert) (keyword words.Insert)) (
    either kind (code words.Update ∷ []) (mapped (λ u. Cause.Update) (keyword words.Update)) (
    mapped (λ u. Cause.Delete) (keyword words.Delete)))

-- the head of a trigger of these parts
abbrev pub trigger_of : List ℕ → Time × (Cause × List ℕ) → Head
trigger_of t rest = Trigger t rest.0 rest.1.0 rest.1.1

-- FOR EACH ROW
abbrev pub each_row : Rule Tok (Unit {0})
each_row = behind (keyword words.For) (behind (keyword words.Each) (keyword words.Row))

-- name (BEFORE | AFTER) (INSERT | UPDATE | DELETE) ON name FOR EACH ROW
abbrev pub triggered : Rule Tok Head
triggered = both trigger_of a_name (both paired time (both paired event (behind (keyword words.On) (before a_name each_row))))

-- behind CREATE: FUNCTION, PROCEDURE or TRIGGER up to the body
abbrev pub head : ℕ → Rule Tok Head
head n =
    either kind (code words.Function ∷ []) (behind (keyword words.Function) (function n)) (
    either kind (code words.Procedure ∷ []) (behind (keyword words.Procedure) (procedure n)) (
    behind (keyword words.Trigger) triggered))

-- behind CREATE: the head of a program and its body
abbrev pub created : ℕ → Rule Tok Statement → Rule Tok Statement
created n body = both with_body (head n) body

-- CREATE TABLE, or CREATE, the head of a program and its body
abbrev pub create : ℕ → Rule Tok Statement → Rule Tok Statement
create n body = behind (keyword words.Create) (either kind (code words.Table ∷ []) (mapped create_table (table n)) (created n body))

-- A body may itself be CREATE with a body, which opens no construct: the statements with at most so many CREATEs in one another.
unfoldable pub created_within : ℕ → ℕ → Rule Tok Statement → Rule Tok Statement
created_within zero n r = r
created_within (suc m) n r = either kind (code words.Create ∷ []) (create n (created_within m n r)) r

-- CREATEs in one another as often as may be, and the rule for other statements: no more than there are tokens.
abbrev pub or_created : ℕ → Rule Tok Statement → Rule Tok Statement
or_created n r = record {
  texts = λ s ts rest. (m : ℕ) × (created_within m n r).texts s ts rest;
  fronts = λ ts. (m : ℕ) × (created_within m n r).fronts ts;
  read = λ ts. (created_within (length ts) n r).read ts;
}

-- ---- statements in programs, by the rule for those in a construct
-- SELECT
abbrev pub selected : ℕ → Rule Tok Statement
selected n = mapped select_rows (select n)

-- what stands in programs and outside: all but CREATE, BEGIN and START TRANSACTION
abbrev pub common : ℕ → Rule Tok Statement
common n =
    either kind (code words.Drop ∷ []) drop (
    either kind (code words.Truncate ∷ []) truncated (
    either kind (code words.Insert ∷ code words.Replace ∷ code words.Update ∷ code words.Delete ∷ []) (change n) (
    either kind (code words.Select ∷ []) (selected n) (
    either kind (code words.Do ∷ []) (do_exprs n) (
    either kind (code words.Set ∷ []) (set n) (
    either kind (code words.Call ∷ []) (call n) transaction))))))

-- what these statements begin with
abbrev pub common_words : List ℕ
common_words =
    code words.Drop ∷ code words.Truncate ∷ code words.Insert ∷ code words.Replace ∷ code words.Update ∷ code words.Delete ∷ code words.Select ∷ code words.Do ∷ code words.Set ∷ code words.Call
    ∷ code words.Commit ∷ code words.Rollback ∷ code words.Savepoint ∷ code words.Release ∷ []

-- what a statement in a program begins with
abbrev pub inner_words : List ℕ
inner_words = code words.Begin ∷ code words.If ∷ code words.While ∷ code words.Return ∷ code words.Create ∷ common_words

-- the statements as one value
abbrev pub statements_of : List Statement → Statements
statements_of [] = no_statement
statements_of (s ∷ ss) = statement s (statements_of ss)

-- a statement and its semicolon
abbrev pub a_step : Rule Tok Statement → Rule Tok Statement
a_step r = before r (sign signs.Semicolon)

-- one step or more
abbrev pub steps' : Rule Tok Statement → Rule Tok Statements
steps' r = mapped statements_of (chain kind then_one inner_words (mapped alone (a_step r)) (a_step r))

-- steps behind those so far, in so many turns
abbrev pub more_steps : Rule Tok Statement → ℕ → List Statement → List Tok → Read Tok (List Statement)
more_steps r n ss ts = steps then_one (next_in kind inner_words) (λ as'. (a_step r).read) n ss ts

-- steps, none too
abbrev pub steps_if : Rule Tok Statement → Rule Tok Statements
steps_if r = mapped statements_of (repeated kind then_one inner_words [] (a_step r))

-- [DEFAULT expr]
abbrev pub preset : Rule Tok Tree → Rule Tok Part
preset r = optional kind (code words.Default ∷ []) no_part (mapped part (behind (keyword words.Default) r))

-- the DECLARE of these parts
abbrev pub declared_as : List (List ℕ) → SqlType × Part → Declared
declared_as ns rest = record { names = ns; kind = rest.0; preset = rest.1 }

-- DECLARE name {, name} type [DEFAULT expr];
abbrev pub declaration : ℕ → Rule Tok Declared
declaration n =
    behind (keyword words.Declare) (
    before (both declared_as (list_of a_name) (both paired (a_type n) (preset (expression n)))) (sign signs.Semicolon))

-- {DECLARE ..}
abbrev pub declarations : ℕ → Rule Tok (List Declared)
declarations n = repeated kind then_one (code words.Declare ∷ []) [] (declaration n)

-- what stands behind BEGIN: {DECLARE ..} {inner;} END
abbrev pub block_body : ℕ → Rule Tok Statement → Rule Tok Statement
block_body n r =
    both block (declarations n) (before (steps_if r) (keyword words.End))

-- the branches as one value
abbrev pub branches_of : List (Tree × Statements) → Branches
branches_of [] = no_branch
branches_of (b ∷ bs) = branch b.0 b.1 (branches_of bs)

-- expr THEN steps
abbrev pub a_branch : ℕ → Rule Tok Statement → Rule Tok (Tree × Statements)
a_branch n r = both paired (expression n) (behind (keyword words.Then) (steps' r))

-- ELSEIF expr THEN steps
abbrev pub next_branch : ℕ → Rule Tok Statement → Rule Tok (Tree × Statements)
next_branch n r = behind (keyword words.Elseif) (a_branch n r)

-- expr THEN steps {ELSEIF expr THEN steps}
abbrev pub branches : ℕ → Rule Tok Statement → Rule Tok (List (Tree × Statements))
branches n r = chain kind then_one (code words.Elseif ∷ []) (mapped alone (a_branch n r)) (next_branch n r)

-- [ELSE steps]
abbrev pub otherwise : Rule Tok Statement → Rule Tok Otherwise
otherwise r = optional kind (code words.Else ∷ []) no_else (mapped else_steps (behind (keyword words.Else) (steps' r)))

-- what stands behind IF: expr THEN steps {ELSEIF expr THEN steps} [ELSE steps] END IF
abbrev pub if_body : ℕ → Rule Tok Statement → Rule Tok Statement
if_body n r =
    before (both (λ bs o. if_steps (branches_of bs) o) (branches n r) (otherwise r))
    (behind (keyword words.End) (keyword words.If))

-- what stands behind WHILE: expr DO steps END WHILE
abbrev pub while_body : ℕ → Rule Tok Statement → Rule Tok Statement
while_body n r = both while_steps (expression n) (behind (keyword words.Do) (before (steps' r) (behind (keyword words.End) (keyword words.While))))

-- RETURN expr
abbrev pub a_return : ℕ → Rule Tok Statement
a_return n = behind (keyword words.Return) (mapped return_value (expression n))

-- a statement in a program that is no CREATE
abbrev pub inner_core : ℕ → Rule Tok Statement → Rule Tok Statement
inner_core n r =
    either kind (code words.Begin ∷ []) (opened n (any_of kind (code words.Begin)) (λ u a. a) (block_body (pred n) r)) (
    either kind (code words.If ∷ []) (opened n (any_of kind (code words.If)) (λ u a. a) (if_body (pred n) r)) (
    either kind (code words.While ∷ []) (opened n (any_of kind (code words.While)) (λ u a. a) (while_body (pred n) r)) (
    either kind (code words.Return ∷ []) (a_return n) (common n))))

-- a statement in a program, by the rule for those in a construct
abbrev pub inner_by : ℕ → Rule Tok Statement → Rule Tok Statement
inner_by n r = or_created n (inner_core n r)

-- a statement in a program
unfoldable pub inner : ℕ → Rule Tok Statement
inner zero = inner_by zero refused
inner (suc d) = inner_by (suc d) (inner d)

-- a statement in a construct
abbrev pub inside : ℕ → Rule Tok Statement
inside zero = refused
inside (suc d) = inner d

-- a statement in a program that is no CREATE
abbrev pub core : ℕ → Rule Tok Statement
core n = inner_core n (inside n)
