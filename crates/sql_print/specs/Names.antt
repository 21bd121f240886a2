-- How names, numbers and types are written.
use Rattle.std.specs.Prelude.{ℕ, Bool, false, ◌&&◌, ◌||◌, not, nat_le, nat_eq, ◌==◌, if◌then◌else◌, List, [], ◌∷◌, ◌++◌, map, codes, Option, Some, None}
use Rattle.std.specs.List.{list_all}
use Rattle.std.specs.Cmp.Lexicographic.{pointwise}
use Rattle.std.specs.Fmt.{decimal}
use Rattle.sql_tree.specs.declared.expressions.Limit.{Limit}
use Rattle.sql_tree.specs.declared.expressions.Count.{Count}
use Rattle.sql_tree.specs.declared.statements.SqlType.{SqlType}

-- texts with a comma and a space before each
abbrev pub more_of : List (List ℕ) → List ℕ
more_of [] = []
more_of (t ∷ ts) = codes ", " ++ t ++ more_of ts

-- texts with a comma and a space between two
abbrev pub commas : List (List ℕ) → List ℕ
commas [] = []
commas (t ∷ ts) = t ++ more_of ts

-- bytes with each backquote doubled
abbrev pub doubled : List ℕ → List ℕ
doubled [] = []
doubled (b ∷ bs) = (if b == 0x60 then codes "``" else b ∷ []) ++ doubled bs

-- a name in backquotes
abbrev pub quoted_name : List ℕ → List ℕ
quoted_name n = codes "`" ++ doubled n ++ codes "`"

-- names in backquotes, with a comma and a space between two
abbrev pub names_of : List (List ℕ) → List ℕ
names_of ns = commas (map quoted_name ns)

-- the words that are no names without backquotes
abbrev pub reserved_words : List (List ℕ)
reserved_words =
    codes "alter" ∷ codes "and" ∷ codes "as" ∷ codes "asc" ∷ codes "before" ∷ codes "between" ∷ codes "bigint" ∷ codes "by"
    ∷ codes "call" ∷ codes "case" ∷ codes "create" ∷ codes "declare" ∷ codes "default" ∷ codes "delete" ∷ codes "desc"
    ∷ codes "deterministic" ∷ codes "distinct" ∷ codes "div" ∷ codes "drop" ∷ codes "each" ∷ codes "else" ∷ codes "elseif"
    ∷ codes "exists" ∷ codes "for" ∷ codes "from" ∷ codes "group" ∷ codes "if" ∷ codes "ignore" ∷ codes "in" ∷ codes "insert"
    ∷ codes "int" ∷ codes "integer" ∷ codes "into" ∷ codes "is" ∷ codes "join" ∷ codes "key" ∷ codes "limit" ∷ codes "mod"
    ∷ codes "modifies" ∷ codes "not" ∷ codes "null" ∷ codes "on" ∷ codes "or" ∷ codes "order" ∷ codes "primary" ∷ codes "procedure"
    ∷ codes "reads" ∷ codes "release" ∷ codes "replace" ∷ codes "return" ∷ codes "select" ∷ codes "set" ∷ codes "sql"
    ∷ codes "table" ∷ codes "then" ∷ codes "to" ∷ codes "trigger" ∷ codes "union" ∷ codes "unique" ∷ codes "update" ∷ codes "values"
    ∷ codes "varchar" ∷ codes "when" ∷ codes "where" ∷ codes "while" ∷ []

-- a byte that may begin a name without backquotes: a letter or `_`
abbrev pub is_name_start : ℕ → Bool
is_name_start b = (nat_le 0x41 b && nat_le b 0x5a) || (nat_le 0x61 b && nat_le b 0x7a) || (b == 0x5f)

-- a byte that may follow it: a letter, a digit, `_` or `$`
abbrev pub is_name_part : ℕ → Bool
is_name_part b = is_name_start b || (nat_le 0x30 b && nat_le b 0x39) || (b == 0x24)

-- a letter or `_`, and what may follow it
abbrev pub is_word : List ℕ → Bool
is_word [] = false
is_word (b ∷ bs) = is_name_start b && list_all is_name_part bs

-- a name is one of some words
abbrev pub is_among : List (List ℕ) → List ℕ → Bool
is_among [] n = false
is_among (w ∷ ws) n = pointwise nat_eq w n || is_among ws n

-- a name that is a reserved word
abbrev pub is_reserved : List ℕ → Bool
is_reserved n = is_among reserved_words n

-- a name that is read back without backquotes
abbrev pub is_bare : List ℕ → Bool
is_bare n = is_word n && not (is_reserved n)

-- a system variable's name, in backquotes only where it needs them
abbrev pub bare_name : List ℕ → List ℕ
bare_name n = if is_bare n then n else quoted_name n

-- a type
abbrev pub type_of : SqlType → List ℕ
type_of SqlType.Int = codes "INT"
type_of SqlType.BigInt = codes "BIGINT"
type_of (SqlType.Varchar n) = codes "VARCHAR(" ++ decimal n ++ codes ")"

-- a count of LIMIT
abbrev pub count_of : Count → List ℕ
count_of (Count.Number n) = decimal n
count_of (Count.Name n) = quoted_name n

-- LIMIT of UPDATE and DELETE
abbrev pub count_if : Option Count → List ℕ
count_if None = []
count_if (Some c) = codes " LIMIT " ++ count_of c

-- OFFSET of a LIMIT, nothing where it is left out
abbrev pub offset_if : Option Count → List ℕ
offset_if None = []
offset_if (Some c) = codes " OFFSET " ++ count_of c

-- LIMIT of SELECT
abbrev pub limit_if : Option Limit → List ℕ
limit_if None = []
limit_if (Some l) = codes " LIMIT " ++ count_of l.count ++ offset_if l.offset
