-- What refuses to close a statement over locals.
use Rattle.std.specs.Prelude.{ℕ, Bool, false, nat_lt, if◌then◌else◌, List, length, Option, Some, None, is_none}
use Rattle.std.specs.List.{list_all, list_any}
use Rattle.std.specs.Option.{option_or}
use Rattle.sql_tree.specs.Statement.{Statement}
use Rattle.sql_tree.specs.declared.expressions.Count.{Count}
use Rattle.sql_tree.specs.declared.expressions.Count.TheVariants as counts
use Rattle.sql_locals.specs.Locals.{find_local, has_literal}
use Rattle.sql_locals.specs.declared.locals.Local.{Local}
use Rattle.sql_print.specs.StatementSpelling.{spelling}
use Rattle.sql_reach.specs.catalog_rules.Nodes.{Node, a_limit, nodes_of}
use Rattle.sql_reach.specs.sql_meaning.Running.{is_ill_limit}
use Rattle.sql_reach.specs.Closing.{closed}

-- a text of a statement has at most so many bytes
abbrev pub most_bytes : ℕ
most_bytes = 1048576

-- a name in a LIMIT that is no local
abbrev pub is_nameless_count : List Local → Count → Bool
is_nameless_count locals (counts.Number n) = false
is_nameless_count locals (counts.Name n) = is_none (find_local locals n)

abbrev pub is_nameless : List Local → Node → Bool
is_nameless locals (a_limit c) = is_nameless_count locals c
is_nameless locals node = false

-- a LIMIT that cannot be closed: 1327 a name that is no local, else 30002 a local that is no number from 0
abbrev pub limit_refusal : Statement → List Local → Option ℕ
limit_refusal s locals =
    if list_any (is_nameless locals) (nodes_of s) then Some 1327
    else if list_any (is_ill_limit locals) (nodes_of s) then Some 30002
    else None

-- A local that holds what no literal can say has no text: a byte above 255, or a number past 64 bits. Code has none such.
abbrev pub literal_refusal : List Local → Option ℕ
literal_refusal locals = if list_all has_literal locals then None else Some 30002

-- what refuses to close a statement: 1153 its text would be too long, then its LIMITs, then a local that no literal can say
unfoldable pub closing_refusal : Statement → List Local → Option ℕ
closing_refusal s locals =
    if nat_lt most_bytes (length (spelling (closed s locals))) then Some 1153 else option_or (limit_refusal s locals) (literal_refusal locals)
