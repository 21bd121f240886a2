use Rattle.std.proofs.Common.{refl, rules, [], ◌∷◌}
use Rattle.sql_lex.specs.declared.token.Symbol.TheVariants as signs
use Rattle.sql_syntax.specs.Tokens.{sign, none_code}
use Rattle.sql_syntax.specs.Expressions.{call_none}
use Rattle.sql_parse_expressions.proofs.BuiltIns.{keeps_tail, called_as}
use Rattle.sql_parse_expressions.proofs.calls.with_none.Goals as goal

pub returns-then-not-is_mark : goal.returns-then-not-is_mark
returns-then-not-is_mark c = keeps_tail (none_code ∷ []) call_none c.args.depth (sign signs.Close) _ c.args.rest _ _ c.in_ok-word.ensures c.if-not-is_mark.ensures c.column.ensures

pub returns-in_err-rest : goal.returns-in_err-rest
returns-in_err-rest c = rw (c.in_ok-word.ensures, ← c.if-not-is_mark.ensures) (search rules)

pub returns : goal.returns
returns c = (
  call_none c.in_ok-word.word tt,
  rw (called_as (none_code ∷ []) call_none c.args.depth _ (λ m. sign signs.Close) c.args.rest _ _ _ c.in_ok-word.ensures c.if-not-is_mark.ensures c.in_ok-rest.ensures.reads, c.in_ok-rest-2.ensures) refl,
  rw c.none.ensures at c.in_ok-func0.ensures,
)
