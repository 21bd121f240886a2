-- Tokens as slices of their text.
use Rattle.std.specs.Prelude.{ℕ, ◌≤◌, ◌<◌, List, [], ◌∷◌, length}
use Rattle.sql_lex.specs.declared.token.Token.{Token}
use Rattle.sql_lex.specs.Blanks.{IsBlank}
use Rattle.sql_lex.specs.Plain.{bytes_at}

-- From one place to another, the tokens are slices in order, none of them empty, and before, between and behind them
-- stand white space and comments alone.
abbrev pub Spans : List ℕ → ℕ → List Token → ℕ → Type 0
Spans text from [] to = (from ≤ to) × (to ≤ length text) × IsBlank (bytes_at text from to)
Spans text from (t ∷ ts) to =
    (from ≤ t.at) × (t.at < t.end) × (t.end ≤ length text) × IsBlank (bytes_at text from t.at) × Spans text t.end ts to
