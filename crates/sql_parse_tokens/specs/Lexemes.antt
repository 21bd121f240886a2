-- Tokens as the parser looks at them.
use Rattle.std.specs.Prelude.{ℕ, min, List, [], ◌∷◌, map, Option, Some, None}
use Rattle.sql_lex.specs.Folded.{folded}
use Rattle.sql_lex.specs.Plain.{bytes_at, literal_bytes}
use Rattle.sql_lex.specs.Plain as plain
use Rattle.sql_parse_tokens.specs.declared.lexeme.Lexeme.{Lexeme}
use Rattle.sql_parse_tokens.specs.declared.lexeme.Sort.{Sort}
use Rattle.sql_parse_tokens.specs.declared.lexeme.Sort.TheVariants as sorts
use Rattle.sql_syntax.specs.Tokens.{Tok, key, function_word, plain_name, quoted_name, digits, least_digits, literal_text, mark, tight_minus, broken_minus, kind}
use Rattle.sql_syntax.specs.Tokens.{code, function_code, sign_code, name_code, quoted_code, number_code, least_code, text_code, tight_code, broken_code}

-- what a lexeme of some sort says by its bytes; numbers have at most 63 bits
abbrev pub tok_by : Sort → List ℕ → Tok
tok_by (sorts.Key k) bytes = key k
tok_by (sorts.Function f) bytes = function_word f
tok_by sorts.Name bytes = plain_name (folded bytes)
tok_by sorts.Quoted bytes = quoted_name (plain.quoted_name bytes)
tok_by (sorts.Number n) bytes = digits (min n 9223372036854775807)
tok_by sorts.Least bytes = least_digits
tok_by sorts.Text bytes = literal_text (literal_bytes bytes)
tok_by (sorts.Mark s) bytes = mark s
tok_by sorts.TightMinus bytes = tight_minus
tok_by sorts.BrokenMinus bytes = broken_minus

-- what a lexeme of a text says
abbrev pub tok_of : List ℕ → Lexeme → Tok
tok_of text l = tok_by l.sort (bytes_at text l.at l.end)

-- what lexemes of a text say
abbrev pub seen : List ℕ → List Lexeme → List Tok
seen text = map (tok_of text)

-- the kind of what a lexeme of some sort says
abbrev pub kind_by : Sort → ℕ
kind_by (sorts.Key k) = code k
kind_by (sorts.Function f) = function_code f
kind_by sorts.Name = name_code
kind_by sorts.Quoted = quoted_code
kind_by (sorts.Number n) = number_code
kind_by sorts.Least = least_code
kind_by sorts.Text = text_code
kind_by (sorts.Mark s) = sign_code s
kind_by sorts.TightMinus = tight_code
kind_by sorts.BrokenMinus = broken_code

-- the next token with its kind, and those behind it
abbrev pub split_first : List Tok → Option (ℕ × Tok × List Tok)
split_first [] = None
split_first (t ∷ ts) = Some (kind t, t, ts)
