-- What lexemes say, and their kinds.
use Rattle.std.proofs.Common.{◌≡◌, ℕ, Some, List, [], ◌∷◌, nat_eq, refl, arith}
use Rattle.std.specs.List.{list_any}
use Rattle.sql_grammar.specs.Sets.{member}
use Rattle.sql_parse_tokens.specs.declared.lexeme.Lexeme.{Lexeme}
use Rattle.sql_parse_tokens.specs.declared.lexeme.Sort.{Sort}
use Rattle.sql_parse_tokens.specs.declared.lexeme.Sort.TheVariants as sorts
use Rattle.sql_syntax.specs.Tokens.{kind}
use Rattle.sql_parse_tokens.specs.Lexemes.{tok_by, tok_of, seen, kind_by, split_first}

-- a lexeme is of its sort's kind
pub kind_seen : (sort : Sort) (bytes : List ℕ) → kind (tok_by sort bytes) ≡ kind_by sort
unfolding kind
kind_seen (sorts.Key k) bytes = refl
kind_seen (sorts.Function f) bytes = refl
kind_seen sorts.Name bytes = refl
kind_seen sorts.Quoted bytes = refl
kind_seen (sorts.Number n) bytes = refl
kind_seen sorts.Least bytes = refl
kind_seen sorts.Text bytes = refl
kind_seen (sorts.Mark s) bytes = refl
kind_seen sorts.TightMinus bytes = refl
kind_seen sorts.BrokenMinus bytes = refl

-- whether a kind is in a set, as `contains` looks for it
pub member_any : (k : ℕ) (set : List ℕ) → list_any (λ n. nat_eq n k) set ≡ member k set
member_any k [] = refl
member_any k (n ∷ set) = grind (arith, member_any k set)

-- the first lexeme, and those behind it
pub split_seen : (text : List ℕ) (ls rest : List Lexeme) (l : Lexeme) → ls ≡ l ∷ rest → Some (kind_by l.sort, tok_of text l, seen text rest) ≡ split_first (seen text ls)
split_seen text ls rest l e = rw (e, kind_seen l.sort _) refl
