-- The words of the grammar.
use Rattle.std.specs.Prelude.{ℕ, Bool, nat_le, List, [], ◌∷◌, codes, Option}
use Rattle.std.specs.List.{find}
use Rattle.std.specs.Str.{bytes_eq}
use Rattle.sql_lex.specs.declared.keyword.Keyword.{Keyword}
use Rattle.sql_lex.specs.declared.keyword.Keyword.TheVariants.{Alter, And, As, Asc, Before, Between, Bigint, By, Call, Case, Create, Declare, Default, Delete, Desc, Deterministic, Distinct, Div, Drop, Each, Else, Elseif, Exists, For, From, Group, If, Ignore, In, Insert, Int, Integer, Into, Is, Join, Key, Limit, Mod, Modifies, Not, Null, On, Or, Order, Primary, Procedure, Reads, Release, Replace, Return, Select, Set, Sql, Table, Then, To, Trigger, Union, Unique, Update, Values, Varchar, When, Where, While, After, AutoIncrement, Begin, Commit, Contains, Data, Do, Duplicate, End, Engine, Function, Index, Innodb, Mixed, New, No, Offset, Old, Returns, Rollback, Row, Savepoint, Session, Start, Statement, Transaction, Truncate, Value, Work, Count, Floor, Max, Min, NameConst, Rand, Sum}

-- The table of keywords: each with its word in lower case and its place among them, from 0. Reserved words stand up to WHILE,
-- behind them words that may be names, and from COUNT on those that take part in a call.
abbrev pub entry : Keyword → List ℕ × ℕ
entry Alter = (codes "alter", 0)
entry And = (codes "and", 1)
entry As = (codes "as", 2)
entry Asc = (codes "asc", 3)
entry Before = (codes "before", 4)
entry Between = (codes "between", 5)
entry Bigint = (codes "bigint", 6)
entry By = (codes "by", 7)
entry Call = (codes "call", 8)
entry Case = (codes "case", 9)
entry Create = (codes "create", 10)
entry Declare = (codes "declare", 11)
entry Default = (codes "default", 12)
entry Delete = (codes "delete", 13)
entry Desc = (codes "desc", 14)
entry Deterministic = (codes "deterministic", 15)
entry Distinct = (codes "distinct", 16)
entry Div = (codes "div", 17)
entry Drop = (codes "drop", 18)
entry Each = (codes "each", 19)
entry Else = (codes "else", 20)
entry Elseif = (codes "elseif", 21)
entry Exists = (codes "exists", 22)
entry For = (codes "for", 23)
entry From = (codes "from", 24)
entry Group = (codes "group", 25)
entry If = (codes "if", 26)
entry Ignore = (codes "ignore", 27)
entry In = (codes "in", 28)
entry Insert = (codes "insert", 29)
entry Int = (codes "int", 30)
entry Integer = (codes "integer", 31)
entry Into = (codes "into", 32)
entry Is = (codes "is", 33)
entry Join = (codes "join", 34)
entry Key = (codes "key", 35)
entry Limit = (codes "limit", 36)
entry Mod = (codes "mod", 37)
entry Modifies = (codes "modifies", 38)
entry Not = (codes "not", 39)
entry Null = (codes "null", 40)
entry On = (codes "on", 41)
entry Or = (codes "or", 42)
entry Order = (codes "order", 43)
entry Primary = (codes "primary", 44)
entry Procedure = (codes "procedure", 45)
entry Reads = (codes "reads", 46)
entry Release = (codes "release", 47)
entry Replace = (codes "replace", 48)
entry Return = (codes "return", 49)
entry Select = (codes "select", 50)
entry Set = (codes "set", 51)
entry Sql = (codes "sql", 52)
entry Table = (codes "table", 53)
entry Then = (codes "then", 54)
entry To = (codes "to", 55)
entry Trigger = (codes "trigger", 56)
entry Union = (codes "union", 57)
entry Unique = (codes "unique", 58)
entry Update = (codes "update", 59)
entry Values = (codes "values", 60)
entry Varchar = (codes "varchar", 61)
entry When = (codes "when", 62)
entry Where = (codes "where", 63)
entry While = (codes "while", 64)
entry After = (codes "after", 65)
entry AutoIncrement = (codes "auto_increment", 66)
entry Begin = (codes "begin", 67)
entry Commit = (codes "commit", 68)
entry Contains = (codes "contains", 69)
entry Data = (codes "data", 70)
entry Do = (codes "do", 71)
entry Duplicate = (codes "duplicate", 72)
entry End = (codes "end", 73)
entry Engine = (codes "engine", 74)
entry Function = (codes "function", 75)
entry Index = (codes "index", 76)
entry Innodb = (codes "innodb", 77)
entry Mixed = (codes "mixed", 78)
entry New = (codes "new", 79)
entry No = (codes "no", 80)
entry Offset = (codes "offset", 81)
entry Old = (codes "old", 82)
entry Returns = (codes "returns", 83)
entry Rollback = (codes "rollback", 84)
entry Row = (codes "row", 85)
entry Savepoint = (codes "savepoint", 86)
entry Session = (codes "session", 87)
entry Start = (codes "start", 88)
entry Statement = (codes "statement", 89)
entry Transaction = (codes "transaction", 90)
entry Truncate = (codes "truncate", 91)
entry Value = (codes "value", 92)
entry Work = (codes "work", 93)
entry Count = (codes "count", 94)
entry Floor = (codes "floor", 95)
entry Max = (codes "max", 96)
entry Min = (codes "min", 97)
entry NameConst = (codes "name_const", 98)
entry Rand = (codes "rand", 99)
entry Sum = (codes "sum", 100)

-- a keyword in lower case
abbrev pub word_of : Keyword → List ℕ
word_of k = (entry k).0

-- the place of a keyword among them
abbrev pub place_of : Keyword → ℕ
place_of k = (entry k).1

-- every keyword, in order
abbrev pub keywords : List Keyword
keywords =
    Alter ∷ And ∷ As ∷ Asc ∷ Before ∷ Between ∷ Bigint ∷ By ∷
    Call ∷ Case ∷ Create ∷ Declare ∷ Default ∷ Delete ∷ Desc ∷ Deterministic ∷
    Distinct ∷ Div ∷ Drop ∷ Each ∷ Else ∷ Elseif ∷ Exists ∷ For ∷
    From ∷ Group ∷ If ∷ Ignore ∷ In ∷ Insert ∷ Int ∷ Integer ∷
    Into ∷ Is ∷ Join ∷ Key ∷ Limit ∷ Mod ∷ Modifies ∷ Not ∷
    Null ∷ On ∷ Or ∷ Order ∷ Primary ∷ Procedure ∷ Reads ∷ Release ∷
    Replace ∷ Return ∷ Select ∷ Set ∷ Sql ∷ Table ∷ Then ∷ To ∷
    Trigger ∷ Union ∷ Unique ∷ Update ∷ Values ∷ Varchar ∷ When ∷ Where ∷
    While ∷ After ∷ AutoIncrement ∷ Begin ∷ Commit ∷ Contains ∷ Data ∷ Do ∷
    Duplicate ∷ End ∷ Engine ∷ Function ∷ Index ∷ Innodb ∷ Mixed ∷ New ∷
    No ∷ Offset ∷ Old ∷ Returns ∷ Rollback ∷ Row ∷ Savepoint ∷ Session ∷
    Start ∷ Statement ∷ Transaction ∷ Truncate ∷ Value ∷ Work ∷ Count ∷ Floor ∷
    Max ∷ Min ∷ NameConst ∷ Rand ∷ Sum ∷
    []

-- the first of some keywords that a word in lower case is
abbrev pub keyword_among : List Keyword → List ℕ → Option Keyword
keyword_among ks word = find (λ k. bytes_eq (word_of k) word) ks

-- the keyword that a word in lower case is
abbrev pub keyword_of : List ℕ → Option Keyword
keyword_of word = keyword_among keywords word

-- whether a keyword is no name without backquotes
abbrev pub is_reserved : Keyword → Bool
is_reserved k = nat_le (place_of k) (place_of While)
