use Rattle.std.proofs.Common.{ℕ, ◌-◌, ◌≤◌, List, ◌++◌, drop, length, false}
use Rattle.sql_lex.specs.declared.token.Token.{Token}
use Rattle.sql_lex.specs.Lexes.{Front}
use Rattle.sql_lex.proofs.lexer.lex_front.Given as goal

abbrev pub invariant-pieces : goal.invariant-pieces
invariant-pieces l = record {
  in_range : l.at ≤ length l.text;
  goes_on : (after : List Token) (to : ℕ) → Front l.behind_minus l.at (drop l.at l.text) after to → Front false 0 l.text (l.tokens ++ after) to;
}

abbrev pub decreases-pieces : goal.decreases-pieces
decreases-pieces l = length l.text - l.at
