-- Texts of bytes: which statement a text is, and where else it is refused.
use Rattle.std.specs.Prelude.{◌≡◌, ◌<◌, ◌≤◌, ℕ, ◌⊎◌, Bool, true, false, if◌then◌else◌, List, [], ◌∷◌, ◌++◌, length, drop, Option, Some, None}
use Rattle.std.specs.Char.{is_ascii_digit}
use Rattle.val_types.specs.declared.ops.Func.{Func}
use Rattle.sql_lex.specs.declared.token.Symbol.TheVariants as signs
use Rattle.sql_lex.specs.declared.token.Token.{Token}
use Rattle.sql_lex.specs.Lexes.{is_minus, IsFront, Lexes}
use Rattle.sql_lex.specs.Plain.{Plain, plain_token}
use Rattle.sql_lex.specs.Plain as plain
use Rattle.sql_lex.specs.declared.keyword.Keyword.{Keyword}
use Rattle.sql_lex.specs.Keywords.{keyword_of}
use Rattle.sql_tree.specs.BuiltIns.{function_named}
use Rattle.sql_tree.specs.Statement.{Statement}
use Rattle.sql_grammar.specs.Reader.{Fault, Syntax, Deep}
use Rattle.sql_grammar.specs.Rule.{Rule}
use Rattle.sql_grammar.specs.Whole.{IsPlaced}
use Rattle.sql_syntax.specs.Tokens.{Tok, key, function_word, plain_name, quoted_name, digits, least_digits, literal_text, mark, tight_minus, broken_minus}
use Rattle.sql_syntax.specs.Statements.{statement}
use Rattle.sql_tree.specs.Depth.{depth_of}

-- ---- tokens as the grammar sees them
-- bytes that begin with a digit
abbrev pub begins_with_digit : List ℕ → Bool
begins_with_digit [] = false
begins_with_digit (b ∷ bs) = is_ascii_digit b

-- A minus, by whether a digit stands directly behind it and whether tokens follow. Where digits stand there and no token
-- follows, they are no number.
abbrev pub minus_by : {A : Type 0} → Bool → List A → Tok
minus_by false ts = mark signs.Minus
minus_by true [] = broken_minus
minus_by true (t ∷ ts) = tight_minus

-- a word that is no keyword: the built-in function that it names, or a name
abbrev pub name_by : Option Func → List ℕ → Tok
name_by (Some f) w = function_word f
name_by None w = plain_name w

-- a word: the keyword that it is, or what it names
abbrev pub word_by : Option Keyword → List ℕ → Tok
word_by (Some k) w = key k
word_by None w = name_by (function_named w) w

-- what a token says that is no minus
abbrev pub said_by : Plain → Tok
said_by (plain.word w) = word_by (keyword_of w) w
said_by (plain.quoted w) = quoted_name w
said_by (plain.number n) = digits n
said_by plain.least = least_digits
said_by (plain.text t) = literal_text t
said_by (plain.symbol s) = mark s

-- a token of a text, before others
abbrev pub tok_before : List ℕ → Token → List Token → Tok
tok_before text t ts = if is_minus t.kind then minus_by (begins_with_digit (drop t.end text)) ts else said_by (plain_token text t)

-- the tokens of a text
abbrev pub toks : List ℕ → List Token → List Tok
toks text [] = []
toks text (t ∷ ts) = tok_before text t ts ∷ toks text ts

-- ---- statements and refusals
-- so many constructs may be open at once
abbrev pub limit_open : ℕ
limit_open = 400

-- a statement may be so deep
abbrev pub limit_deep : ℕ
limit_deep = 200

-- the whole text is this statement, however deep it is
abbrev pub IsStatement : List ℕ → Statement → Type 0
IsStatement text s = (ts : List Token) × Lexes text ts × (statement limit_open).texts s (toks text ts) []

-- the whole text is this statement, which is not too deep
abbrev pub reads : List ℕ → Statement → Type 0
reads text s = IsStatement text s × (depth_of s ≤ limit_deep)

-- the place of the first of these tokens; where there is none, that where no token begins
abbrev pub place_of : List Token → ℕ → ℕ
place_of [] stop = stop
place_of (t ∷ ts) stop = t.at

-- A fault of some kind at the place of what is left of a text's tokens.
pub record Stops (rule : ℕ → Rule Tok Statement) (d : ℕ) (make : List Tok → Fault Tok) (text : List ℕ) (at : ℕ) : Type 0 where
  -- the tokens, up to where no token begins
  pub ts : List Token
  pub stop : ℕ
  pub lexed : IsFront text ts stop
  -- those before the place, and those from there on
  pub front : List Token
  pub rest : List Token
  pub parted : ts ≡ front ++ rest
  pub placed_at : at ≡ place_of rest stop
  -- the fault belongs there
  pub placed : IsPlaced rule d (toks text ts) (make (toks text rest))

-- the tokens of the text go on as no statement does, from this place
abbrev pub IsStoppedAt : List ℕ → ℕ → Type 0
IsStoppedAt text at = Stops statement limit_open Syntax text at

-- the tokens are a statement, and behind them at this place stands what is no token
abbrev pub IsBrokenAt : List ℕ → ℕ → Type 0
IsBrokenAt text at = (at < length text) × (ts : List Token) × (s : Statement) × IsFront text ts at × (statement limit_open).texts s (toks text ts) []

-- the place of a syntax error
abbrev pub IsRefusedAt : List ℕ → ℕ → Type 0
IsRefusedAt text at = IsStoppedAt text at ⊎ IsBrokenAt text at

-- the text opens a construct too many at this place
abbrev pub IsTooDeepAt : List ℕ → ℕ → Type 0
IsTooDeepAt text at = Stops statement limit_open Deep text at

-- the text is too deep: a token opens a construct too many, or the whole statement has too many levels
abbrev pub IsTooDeep : List ℕ → Type 0
IsTooDeep text = ((at : ℕ) × IsTooDeepAt text at) ⊎ ((s : Statement) × IsStatement text s × (limit_deep < depth_of s))
