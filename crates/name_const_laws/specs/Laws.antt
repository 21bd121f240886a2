-- What holds of statements and expressions with locals closed in.
use Rattle.std.specs.Prelude.{◌≡◌, ℕ, Bool, true, false, nat_le, List, [], length, map, None, Ok, IsTrue}
use Rattle.std.specs.List.{list_all, list_any}
use Rattle.val_types.specs.declared.value.Value.{Value}
use Rattle.val_types.specs.declared.value.Value.TheVariants.{Null, Int, Text}
use Rattle.val_types.specs.Fitting.{fitting}
use Rattle.sql_tree.specs.Tree.{Trees}
use Rattle.sql_tree.specs.Statement.{Statement, insert_into, replace_into, update_rows, delete_rows, select, evaluate}
use Rattle.sql_tree.specs.Well.{IsWell}
use Rattle.sql_tree.specs.declared.statements.SqlType.{SqlType}
use Rattle.sql_locals.specs.declared.locals.Local.{Local}
use Rattle.sql_locals.specs.Locals.{has_literal}
use Rattle.sql_locals.specs.Types.{column_type, has_size}
use Rattle.sql_print.specs.StatementSpelling.{spelling}
use Rattle.sql_syntax.specs.Texts.{reads}
use Rattle.sql_reach.specs.catalog_rules.Objects.{Object}
use Rattle.sql_reach.specs.catalog_rules.Nodes.{nodes_of}
use Rattle.sql_reach.specs.catalog_rules.Checks.{Scope, session_scope, statement_refusal}
use Rattle.sql_reach.specs.sql_meaning.Scenes.{Scene}
use Rattle.sql_reach.specs.sql_meaning.Frames.{Setting}
use Rattle.sql_reach.specs.sql_meaning.Running.{effect, evaluation, is_ill_limit}
use Rattle.sql_reach.specs.Closing.{trees_mapped, closed_name, closed_count, closed}

-- ---- values of locals

-- a value that has a declared type: a text of it has at most 65,535 bytes
abbrev pub is_short : Value → Bool
is_short Null = true
is_short (Int n) = true
is_short (Text t) = nat_le (length t) 65535

-- a local holds such a value
abbrev pub holds_short : Local → Bool
holds_short l = is_short l.value

-- a value that is put where a type is declared is such a one
abbrev pub FittedIsShort : Type 0
FittedIsShort = (kind : SqlType) (v : Value) → IsTrue (has_size kind) → fitting (column_type kind) v ≡ Ok tt → IsTrue (is_short v)

-- ---- closing

-- expressions with locals closed in
abbrev pub closed_trees : Trees → List Local → Trees
closed_trees ts locals = trees_mapped (closed_name locals) (closed_count locals) ts

-- a statement with locals closed in does without locals what the statement does with them
abbrev pub ClosedDoesTheSame : Type 0
ClosedDoesTheSame =
    (setting : Setting) (nesting : ℕ) (locals : List Local) (s : Statement) (scene : Scene) → IsTrue (list_all holds_short locals)
    → effect setting nesting [] (closed s locals) scene ≡ effect setting nesting locals s scene

-- and so do expressions give the same values
abbrev pub ClosedGivesTheSame : Type 0
ClosedGivesTheSame =
    (setting : Setting) (nesting : ℕ) (locals : List Local) (ts : Trees) (scene : Scene) → IsTrue (list_all holds_short locals)
    → evaluation setting nesting [] (closed_trees ts locals) scene ≡ evaluation setting nesting locals ts scene

-- a change, a SELECT or a DO
abbrev pub is_closable : Statement → Bool
is_closable (insert_into ignore t names supply sets) = true
is_closable (replace_into t names supply) = true
is_closable (update_rows t sets w os l) = true
is_closable (delete_rows t w os l) = true
is_closable (select q) = true
is_closable (evaluate ts) = true
is_closable s = false

-- what locals bring into scope
abbrev pub scope_with : List Local → Scope
scope_with locals = record { locals = map (λ (l : Local). l.name) locals; new_row = None; old_row = None }

-- where each LIMIT is a number or a local that is one from 0, what refuses a statement with its locals in scope refuses it
-- closed in a session, and nothing else does
abbrev pub ClosedIsAllowed : Type 0
ClosedIsAllowed =
    (catalog : List Object) (locals : List Local) (s : Statement) → IsTrue (is_closable s) → list_any (is_ill_limit locals) (nodes_of s) ≡ false
    → statement_refusal catalog session_scope (closed s locals) ≡ statement_refusal catalog (scope_with locals) s

-- the canonical text of a well statement with locals closed in is read as it
abbrev pub ClosedIsRead : Type 0
ClosedIsRead =
    (s : Statement) (locals : List Local) → IsTrue (list_all has_literal locals) → IsWell s → reads (spelling (closed s locals)) (closed s locals)
