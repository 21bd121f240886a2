-- What reading a text answers.
use Rattle.std.specs.Prelude.{◌≡◌, ◌<◌, ◌≤◌, ℕ, ◌-◌, ◌⊎◌, List, [], ◌∷◌, length, drop, Option, Some, None, Result, Ok, Err}
use Rattle.sql_tree.specs.Depth.{depth_of}
use Rattle.sql_tree.specs.Statement.{Statement}
use Rattle.sql_tree.specs.StatementView.{view}
use Rattle.sql_tree.specs.declared.statements.Stmt.{Stmt}
use Rattle.sql_grammar.specs.Reader.{Read, Syntax as syntax, Deep as deep}
use Rattle.sql_parse_tokens.specs.declared.lexeme.Lexeme.{Lexeme}
use Rattle.sql_parse.specs.declared.parsing.Parsed.{Parsed}
use Rattle.sql_parse.specs.declared.parsing.ParseRefusal.{ParseRefusal}
use Rattle.sql_parse.specs.declared.parsing.ParseRefusal.TheVariants.{Syntax, Deep, NoMemory}
use Rattle.sql_parse_nodes.specs.declared.kept.Levelled.{Levelled}
use Rattle.sql_syntax.specs.Statements.{statement}
use Rattle.sql_syntax.specs.Texts.{limit_deep, limit_open, IsRefusedAt, IsTooDeep}
use Rattle.sql_syntax.specs.Tokens.{Tok}

-- ---- by what is read of the tokens
-- where the first lexeme stands, or where no token begins
abbrev pub first_at : List Lexeme → ℕ → ℕ
first_at [] stop = stop
first_at (l ∷ ls) stop = l.at

-- the place where so many lexemes are left
abbrev pub place_left : List Lexeme → ℕ → ℕ → ℕ
place_left ls left stop = first_at (drop (length ls - left) ls) stop

-- what is read of all tokens
unfoldable pub reading : List Tok → Read Tok Statement
reading ts = (statement limit_open).read ts

-- the statement that is kept, or too deep
abbrev pub IsWhole : Option (Levelled Stmt) → Result Stmt ParseRefusal → Type 0
IsWhole (Some l) (Ok s) = s ≡ l.part
IsWhole (Some l) (Err e) = ⊥
IsWhole None (Ok s) = ⊥
IsWhole None (Err e) = e ≡ Deep

-- The answer to a text with these lexemes up to a place where no token begins, by what is read of its tokens.
abbrev pub Answers : List ℕ → List Lexeme → ℕ → Read Tok Statement → Result Stmt ParseRefusal → Type 0
Answers text ls stop read (Ok s) = (read ≡ Ok (view s, [])) × (stop ≡ length text) × (depth_of (view s) ≤ limit_deep)
Answers text ls stop read (Err (Syntax at)) =
    (us : List Tok) × (at ≡ place_left ls (length us) stop) × ((read ≡ Err (syntax us)) ⊎ ((s : Statement) × (read ≡ Ok (s, us)) × ((0 < length us) ⊎ (stop < length text))))
Answers text ls stop read (Err Deep) =
    ((us : List Tok) × (read ≡ Err (deep us))) ⊎ ((s : Statement) × (read ≡ Ok (s, [])) × (stop ≡ length text) × (limit_deep < depth_of s))
Answers text ls stop read (Err NoMemory) = Unit {0}

-- ---- by the text
-- why a text is refused
abbrev pub IsCause : List ℕ → ParseRefusal → Type 0
IsCause text (Syntax at) = IsRefusedAt text at
IsCause text Deep = IsTooDeep text
IsCause text NoMemory = Unit {0}

-- this statement, unless memory ran out
abbrev pub IsRead : Statement → Result Stmt ParseRefusal → Type 0
IsRead s (Ok t) = view t ≡ s
IsRead s (Err (Syntax at)) = ⊥
IsRead s (Err Deep) = ⊥
IsRead s (Err NoMemory) = Unit {0}

-- a syntax error at this place, unless memory ran out
abbrev pub IsRefused : ℕ → Result Stmt ParseRefusal → Type 0
IsRefused at (Ok t) = ⊥
IsRefused at (Err (Syntax k)) = k ≡ at
IsRefused at (Err Deep) = ⊥
IsRefused at (Err NoMemory) = Unit {0}

-- too deep, unless memory ran out
abbrev pub IsSunk : Result Stmt ParseRefusal → Type 0
IsSunk (Ok t) = ⊥
IsSunk (Err (Syntax at)) = ⊥
IsSunk (Err Deep) = Unit {0}
IsSunk (Err NoMemory) = Unit {0}

-- the answer with its statement in place of what holds it
abbrev pub opened : Result Parsed ParseRefusal → Result Stmt ParseRefusal
opened (Ok p) = Ok p.statement.value
opened (Err e) = Err e
