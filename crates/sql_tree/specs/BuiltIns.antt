-- The table of built-in functions: with how many arguments each is called, what it is named, how it evaluates its arguments,
-- whether its value may differ on a replica. What each gives is defined where values are.
use Rattle.std.specs.Prelude.{ℕ, Bool, true, false, List, [], ◌∷◌, map, codes, Option}
use Rattle.std.specs.Char.{to_ascii_lowercase}
use Rattle.std.specs.List.{find}
use Rattle.std.specs.Str.{bytes_eq}
use Rattle.val_types.specs.declared.ops.Func.{Func}
use Rattle.val_types.specs.declared.ops.Func0.{Func0}
use Rattle.val_types.specs.declared.ops.Func1.{Func1}
use Rattle.val_types.specs.declared.ops.Func2.{Func2}
use Rattle.val_types.specs.declared.ops.Func3.{Func3}
use Rattle.val_types.specs.declared.ops.FuncN.{FuncN}
use Rattle.sql_tree.specs.Tree.{Tree, Trees, built_in, no_tree, tree}

-- ---- calls

-- a call without arguments
abbrev pub on_none : Func0 → Tree
on_none f = built_in (Func.Zero f) no_tree

-- a call with one argument
abbrev pub on_one : Func1 → Tree → Tree
on_one f a = built_in (Func.One f) (tree a no_tree)

-- a call with two arguments
abbrev pub on_two : Func2 → Tree → Tree → Tree
on_two f a b = built_in (Func.Two f) (tree a (tree b no_tree))

-- a call with three arguments
abbrev pub on_three : Func3 → Tree → Tree → Tree → Tree
on_three f a b c = built_in (Func.Three f) (tree a (tree b (tree c no_tree)))

-- a call with one argument or more
abbrev pub on_many : FuncN → Trees → Tree
on_many f ts = built_in (Func.Many f) ts

-- a number of arguments
pub data Arity : Type 0 where
  exactly : ℕ → Arity
  one_or_more : Arity

-- how many arguments a built-in function takes
abbrev pub arity : Func → Arity
arity (Func.Zero f) = exactly 0
arity (Func.One f) = exactly 1
arity (Func.Two f) = exactly 2
arity (Func.Three f) = exactly 3
arity (Func.Many f) = one_or_more

-- ---- the table

-- how a built-in function evaluates its arguments
pub data Manner : Type 0 where
  -- all of them, left to right
  all_arguments : Manner
  -- left to right up to the first that is not NULL, which is its value
  first_known : Manner
  -- the first, which chooses one of the two others
  chosen : Manner

-- a row of the table
pub record BuiltIn : Type 0 where
  -- its name in upper case
  pub name : List ℕ
  pub manner : Manner
  -- its value may differ on a replica
  pub is_unsafe : Bool
  -- it reads the last insert id of the session
  pub reads_last_id : Bool

-- of its arguments and of what an item carries always
abbrev pub plain : List ℕ → BuiltIn
plain n = record { name = n; manner = all_arguments; is_unsafe = false; reads_last_id = false }

-- one whose value may differ on a replica
abbrev pub differing : List ℕ → BuiltIn
differing n = record { name = n; manner = all_arguments; is_unsafe = true; reads_last_id = false }

-- one that leaves out arguments
abbrev pub deciding : Manner → List ℕ → BuiltIn
deciding m n = record { name = n; manner = m; is_unsafe = false; reads_last_id = false }

abbrev pub about : Func → BuiltIn
about (Func.Zero Func0.Now) = plain (codes "NOW")
about (Func.Zero Func0.UnixTimestamp) = plain (codes "UNIX_TIMESTAMP")
about (Func.Zero Func0.SysDate) = differing (codes "SYSDATE")
about (Func.Zero Func0.User) = differing (codes "USER")
about (Func.Zero Func0.Uuid) = differing (codes "UUID")
about (Func.Zero Func0.ConnectionId) = plain (codes "CONNECTION_ID")
about (Func.Zero Func0.LastInsertId) = record { name = codes "LAST_INSERT_ID"; manner = all_arguments; is_unsafe = false; reads_last_id = true }
about (Func.Zero Func0.RowCount) = differing (codes "ROW_COUNT")
about (Func.One Func1.Abs) = plain (codes "ABS")
about (Func.One Func1.Length) = plain (codes "LENGTH")
about (Func.Two Func2.IfNull) = deciding first_known (codes "IFNULL")
about (Func.Three Func3.If) = deciding chosen (codes "IF")
about (Func.Three Func3.Substring) = plain (codes "SUBSTRING")
about (Func.Many FuncN.Coalesce) = deciding first_known (codes "COALESCE")
about (Func.Many FuncN.Concat) = plain (codes "CONCAT")

-- the functions that are called by a name: all but IF, which is a word of the grammar
abbrev pub functions : List Func
functions =
    Func.Zero Func0.Now ∷ Func.Zero Func0.UnixTimestamp ∷ Func.Zero Func0.SysDate ∷ Func.Zero Func0.User ∷ Func.Zero Func0.Uuid ∷
    Func.Zero Func0.ConnectionId ∷ Func.Zero Func0.LastInsertId ∷ Func.Zero Func0.RowCount ∷
    Func.One Func1.Abs ∷ Func.One Func1.Length ∷
    Func.Two Func2.IfNull ∷
    Func.Three Func3.Substring ∷
    Func.Many FuncN.Coalesce ∷ Func.Many FuncN.Concat ∷
    []

-- the name of a built-in function in lower case
abbrev pub lower_name : Func → List ℕ
lower_name f = map to_ascii_lowercase (about f).name

-- the first of some built-in functions that a word in lower case names
abbrev pub named_among : List Func → List ℕ → Option Func
named_among fs word = find (λ f. bytes_eq (lower_name f) word) fs

-- the built-in function that a word in lower case names
abbrev pub function_named : List ℕ → Option Func
function_named word = named_among functions word
