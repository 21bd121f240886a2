-- Tokens as the grammar sees them, and their kinds.
use Rattle.std.specs.Prelude.{ℕ, suc, ◌+◌, ◌-◌, if◌then◌else◌, List, [], ◌∷◌, ◌++◌, map, take, drop, Option, Some, None}
use Rattle.val_types.specs.declared.ops.Func.{Func}
use Rattle.val_types.specs.declared.ops.Func0.{Func0}
use Rattle.val_types.specs.declared.ops.Func1.{Func1}
use Rattle.val_types.specs.declared.ops.Func2.{Func2}
use Rattle.val_types.specs.declared.ops.Func3.{Func3}
use Rattle.val_types.specs.declared.ops.FuncN.{FuncN}
use Rattle.sql_lex.specs.declared.keyword.Keyword.{Keyword}
use Rattle.sql_lex.specs.declared.keyword.Keyword.TheVariants.{While, Work}
use Rattle.sql_lex.specs.declared.token.Symbol.{Symbol}
use Rattle.sql_lex.specs.declared.token.Symbol.TheVariants as signs
use Rattle.sql_lex.specs.Keywords.{word_of, place_of, keywords}
use Rattle.sql_tree.specs.BuiltIns.{lower_name}
use Rattle.sql_grammar.specs.Sets.{member}
use Rattle.sql_grammar.specs.Rule.{Rule, word}

-- A token as the grammar sees it. A word without quotes that is a keyword is that keyword, and another one that names a built-in
-- function is that function. A minus that stands directly before a digit is told from another: before a number, or before digits
-- that are no number.
pub data Tok : Type 0 where
  key : Keyword → Tok
  -- a word that names a built-in function
  function_word : Func → Tok
  -- another word, in lower case
  plain_name : List ℕ → Tok
  -- a name in backquotes, in lower case
  quoted_name : List ℕ → Tok
  digits : ℕ → Tok
  -- 9223372036854775808 behind a minus
  least_digits : Tok
  -- the bytes that a literal stands for
  literal_text : List ℕ → Tok
  mark : Symbol → Tok
  tight_minus : Tok
  broken_minus : Tok

-- the kind of a symbol
abbrev pub sign_code : Symbol → ℕ
sign_code signs.Open = 0
sign_code signs.Close = 1
sign_code signs.Comma = 2
sign_code signs.Semicolon = 3
sign_code signs.Dot = 4
sign_code signs.At = 5
sign_code signs.AtAt = 6
sign_code signs.Equal = 7
sign_code signs.Assign = 8
sign_code signs.NullSafeEqual = 9
sign_code signs.NotEqual = 10
sign_code signs.Less = 11
sign_code signs.LessEqual = 12
sign_code signs.Greater = 13
sign_code signs.GreaterEqual = 14
sign_code signs.Plus = 15
sign_code signs.Minus = 16
sign_code signs.Star = 17
sign_code signs.Percent = 18

-- a number
abbrev pub number_code : ℕ
number_code = 20

-- 9223372036854775808 behind a minus
abbrev pub least_code : ℕ
least_code = 21

-- a text
abbrev pub text_code : ℕ
text_code = 22

-- a minus directly before a number
abbrev pub tight_code : ℕ
tight_code = 23

-- a minus directly before digits that are no number
abbrev pub broken_code : ℕ
broken_code = 24

-- a word that is neither a keyword nor the name of a built-in function
abbrev pub name_code : ℕ
name_code = 25

-- a name in backquotes
abbrev pub quoted_code : ℕ
quoted_code = 26

-- the names of built-in functions, by their number of arguments
abbrev pub none_code : ℕ
none_code = 27

-- of one argument
abbrev pub one_code : ℕ
one_code = 28

-- of two arguments
abbrev pub two_code : ℕ
two_code = 29

-- of three arguments
abbrev pub three_code : ℕ
three_code = 30

-- of one argument or more
abbrev pub many_code : ℕ
many_code = 31

-- the kind of a built-in function's name
abbrev pub function_code : Func → ℕ
function_code (Func.Zero f) = none_code
function_code (Func.One f) = one_code
function_code (Func.Two f) = two_code
function_code (Func.Three f) = three_code
function_code (Func.Many f) = many_code

-- The kind of a keyword: its place among them, behind all other kinds.
abbrev pub code : Keyword → ℕ
code k = 64 + place_of k

-- the kind of a token
unfoldable pub kind : Tok → ℕ
kind (key k) = code k
kind (function_word f) = function_code f
kind (plain_name w) = name_code
kind (quoted_name w) = quoted_code
kind (digits n) = number_code
kind least_digits = least_code
kind (literal_text t) = text_code
kind (mark s) = sign_code s
kind tight_minus = tight_code
kind broken_minus = broken_code

-- the names of built-in functions
abbrev pub function_names : List ℕ
function_names = none_code ∷ one_code ∷ two_code ∷ three_code ∷ many_code ∷ []

-- the keywords behind one
abbrev pub words_behind : Keyword → List Keyword
words_behind k = drop (suc (place_of k)) keywords

-- the keywords behind one, up to another
abbrev pub words_between : Keyword → Keyword → List Keyword
words_between k last = take (place_of last - place_of k) (words_behind k)

-- the words that call a stored function before a parenthesis: those that are neither reserved nor take part in a call, and names
abbrev pub own_names : List ℕ
own_names = name_code ∷ (quoted_code ∷ map code (words_between While Work))

-- the words that may be names, and names
abbrev pub names : List ℕ
names = name_code ∷ (quoted_code ∷ (function_names ++ map code (words_behind While)))

-- the name that a token may be; empty for a token that is none
abbrev pub name_said : Tok → List ℕ
name_said (key k) = word_of k
name_said (function_word f) = lower_name f
name_said (plain_name w) = w
name_said (quoted_name w) = w
name_said t = []

-- the keyword that a token is, where it is one
abbrev pub keyword_said : Tok → Option Keyword
keyword_said (key k) = Some k
keyword_said t = None

-- the keyword that comes next, where it is one
abbrev pub first_keyword : List Tok → Option Keyword
first_keyword [] = None
first_keyword (t ∷ ts) = keyword_said t

-- the built-in function of so many arguments that a word names; another one's word names the first of them

abbrev pub none_said : Tok → Func0
none_said (function_word (Func.Zero f)) = f
none_said t = Func0.Now

abbrev pub one_said : Tok → Func1
one_said (function_word (Func.One f)) = f
one_said t = Func1.Abs

abbrev pub two_said : Tok → Func2
two_said (function_word (Func.Two f)) = f
two_said t = Func2.IfNull

abbrev pub three_said : Tok → Func3
three_said (function_word (Func.Three f)) = f
three_said t = Func3.If

abbrev pub many_said : Tok → FuncN
many_said (function_word (Func.Many f)) = f
many_said t = FuncN.Coalesce

-- the sign that a token is, where it is one; a minus directly before digits is none
abbrev pub mark_said : Tok → Option Symbol
mark_said (mark s) = Some s
mark_said t = None

-- the bytes of a literal; empty for a token that is none
abbrev pub text_said : Tok → List ℕ
text_said (literal_text t) = t
text_said t = []

-- the number that a token says, without a sign; 0 for a token that is none
abbrev pub number_said : Tok → ℕ
number_said (digits n) = n
number_said least_digits = 9223372036854775808
number_said t = 0

-- a keyword
abbrev pub keyword : Keyword → Rule Tok (Unit {0})
keyword k = word kind (code k)

-- a sign
abbrev pub sign : Symbol → Rule Tok (Unit {0})
sign s = word kind (sign_code s)

-- the kinds of one set that are not in another
abbrev pub but : List ℕ → List ℕ → List ℕ
but [] other = []
but (k ∷ set) other = if member k other then but set other else k ∷ but set other
