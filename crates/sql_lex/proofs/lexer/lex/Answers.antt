use Rattle.sql_lex.proofs.SpanLaws.{whole_only, part_only, part_place, whole_place}
use Rattle.sql_lex.proofs.lexer.lex.Goals as goal

pub returns-then-stop-text-clause-only : goal.returns-then-stop-text-clause-only
returns-then-stop-text-clause-only c = part_only c.args.text.now _ _ c.in_ok-tokens.ensures.front c.if-stop-text.true

pub returns-then-stop-text-clause-place : goal.returns-then-stop-text-clause-place
returns-then-stop-text-clause-place c = part_place c.args.text.now _ _ c.in_ok-tokens.ensures.front

pub returns-clause-only : goal.returns-clause-only
returns-clause-only c = whole_only c.args.text.now _ _ c.in_ok-tokens.ensures.front c.if-stop-text.false

pub returns-clause-place : goal.returns-clause-place
returns-clause-place c = whole_place c.args.text.now _ _ c.in_ok-tokens.ensures.front c.if-stop-text.false
