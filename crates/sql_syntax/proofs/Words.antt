-- The kinds of words and signs.
use Rattle.std.proofs.Common.{◌≡◌, ◌==◌, ℕ, true, false, [], ◌∷◌, Some, refl}
use Rattle.std.proofs.lemmas.Bool.{eq-eqb}
use Rattle.val_types.specs.declared.ops.Func.{Func}
use Rattle.sql_lex.specs.declared.keyword.Keyword.{Keyword}
use Rattle.sql_lex.specs.declared.token.Symbol.{Symbol}
use Rattle.sql_lex.specs.declared.token.Symbol.TheVariants as signs
use Rattle.sql_grammar.specs.Sets.{member}
use Rattle.sql_grammar.specs.Rule.{any_of, of_kinds}
use Rattle.sql_grammar.proofs.Lawful.{Lawful, shape, GoesOn}
use Rattle.sql_grammar.proofs.Single.{Takes, takes_any, takes_kinds, word_lawful}
use Rattle.sql_grammar.proofs.Alive.{one_alive}
use Rattle.sql_syntax.specs.Tokens.{Tok, key, function_word, mark, kind, code, function_code, sign_code, keyword, sign}

-- a keyword as it is spelled
abbrev pub spelled : Keyword → Tok
spelled k = key k

-- a kind is its own
own_kind : (n : ℕ) → member n (n ∷ []) ≡ true
own_kind n = let e : (n == n) ≡ true = eq-eqb n n refl in rw e refl

-- a keyword's word is of its kind
pub keyword_kind : (k : Keyword) → member (kind (spelled k)) (code k ∷ []) ≡ true
unfolding kind
keyword_kind k = own_kind (code k)

-- a built-in function's name is of its kind
pub function_kind : (f : Func) → member (kind (function_word f)) (function_code f ∷ []) ≡ true
unfolding kind
function_kind f = own_kind (function_code f)

pub sign_kind : (s : Symbol) → member (kind (mark s)) (sign_code s ∷ []) ≡ true
unfolding kind
sign_kind signs.Open = refl
sign_kind signs.Close = refl
sign_kind signs.Comma = refl
sign_kind signs.Semicolon = refl
sign_kind signs.Dot = refl
sign_kind signs.At = refl
sign_kind signs.AtAt = refl
sign_kind signs.Equal = refl
sign_kind signs.Assign = refl
sign_kind signs.NullSafeEqual = refl
sign_kind signs.NotEqual = refl
sign_kind signs.Less = refl
sign_kind signs.LessEqual = refl
sign_kind signs.Greater = refl
sign_kind signs.GreaterEqual = refl
sign_kind signs.Plus = refl
sign_kind signs.Minus = refl
sign_kind signs.Star = refl
sign_kind signs.Percent = refl

pub takes_keyword : (k : Keyword) → Takes kind (any_of kind (code k)) (code k ∷ [])
takes_keyword k = takes_any kind (code k) (spelled k) (keyword_kind k)

pub takes_function : (f : Func) → Takes kind (of_kinds kind (function_code f ∷ []) (λ t. Some t)) (function_code f ∷ [])
takes_function f = takes_kinds kind (function_code f ∷ []) (λ t. Some t) (function_word f) (function_word f) (function_kind f) refl

pub takes_sign : (s : Symbol) → Takes kind (any_of kind (sign_code s)) (sign_code s ∷ [])
takes_sign s = takes_any kind (sign_code s) (mark s) (sign_kind s)

pub keyword_lawful : (k : Keyword) (d : ℕ) → Lawful kind (shape (code k ∷ []) false [] true) (λ e. keyword k) d
keyword_lawful k d = word_lawful (code k) (spelled k) (keyword_kind k) d

pub sign_lawful : (s : Symbol) (d : ℕ) → Lawful kind (shape (sign_code s ∷ []) false [] true) (λ e. sign s) d
sign_lawful s d = word_lawful (sign_code s) (mark s) (sign_kind s) d

pub keyword_alive : (k : Keyword) → GoesOn (λ e. keyword k) []
keyword_alive k = one_alive (takes_keyword k)

pub sign_alive : (s : Symbol) → GoesOn (λ e. sign s) []
sign_alive s = one_alive (takes_sign s)
