use Rattle.std.proofs.Common.{◌≡◌, ◌+◌, ◌++◌, drop, length, map}
use Rattle.sql_parse_tokens.specs.Lexemes.{seen}
use Rattle.sql_parse_tokens.specs.Lexing.{bounded, lexeme_place, place}
use Rattle.sql_syntax.specs.Texts.{toks}
use Rattle.sql_parse_tokens.proofs.lexing.lexemes.Given as goal

abbrev pub invariant-loop-token : goal.invariant-loop-token
invariant-loop-token l =
    (seen l.text l.lexemes ++ toks l.text (map bounded (drop l.token-index l.tokens)) ≡ toks l.text (map bounded l.tokens))
    × (map lexeme_place l.lexemes ++ map place (drop l.token-index l.tokens) ≡ map place l.tokens) × (l.left + l.token-index ≡ length l.tokens)
