-- Tokens by what they say, for worked texts.
use Rattle.std.specs.Prelude.{ℕ, zero, suc, List, [], ◌∷◌}
use Rattle.val_types.specs.declared.ops.Func.{Func}
use Rattle.sql_lex.specs.declared.keyword.Keyword.{Keyword}
use Rattle.sql_lex.specs.declared.token.Symbol.{Symbol}
use Rattle.sql_lex.specs.declared.token.Symbol.TheVariants as signs
use Rattle.sql_tree.specs.Statement.{Statement, Statements, statement}
use Rattle.sql_syntax.specs.Tokens.{Tok, key, function_word, plain_name, digits, literal_text, mark}

-- a keyword
abbrev pub kw : Keyword → Tok
kw k = key k

-- the name of a built-in function
abbrev pub fw : Func → Tok
fw f = function_word f

-- a sign
abbrev pub sg : Symbol → Tok
sg s = mark s

-- a name without quotes
abbrev pub nm : List ℕ → Tok
nm bytes = plain_name bytes

-- a number
abbrev pub num : ℕ → Tok
num n = digits n

-- a text
abbrev pub txt : List ℕ → Tok
txt bytes = literal_text bytes

-- so many opening parentheses before other tokens
abbrev pub opens : ℕ → List Tok → List Tok
opens zero ts = ts
opens (suc n) ts = sg signs.Open ∷ opens n ts

-- so many closing parentheses
abbrev pub closes : ℕ → List Tok
closes zero = []
closes (suc n) = sg signs.Close ∷ closes n

-- a statement before others
abbrev pub statement_first : Statement → Statements → Statements
statement_first s ss = statement s ss
