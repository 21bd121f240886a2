-- Locals and catalogs, of which worked examples are made.
use Rattle.std.specs.Prelude.{ℕ, codes, pos, neg_ℤ, List, [], ◌∷◌, Some}
use Rattle.val_types.specs.declared.value.Value.{Value}
use Rattle.val_types.specs.declared.value.Value.TheVariants.{Int, Text}
use Rattle.val_types.specs.declared.ops.Func0.{Func0}
use Rattle.sql_tree.specs.BuiltIns.{on_none}
use Rattle.sql_tree.specs.Tree.{no_tree, new_column, call}
use Rattle.sql_tree.specs.Statement.{trigger, return_value}
use Rattle.sql_locals.specs.declared.locals.Local.{Local}
use Rattle.sql_tree.specs.declared.statements.Cause.TheVariants as causes
use Rattle.val_types.specs.declared.definitions.ColType.{ColType}
use Rattle.sql_tree.specs.declared.statements.Time.TheVariants as times
use Rattle.sql_meaning.specs.catalog_rules.Objects.{Object, table, function, reaction}
use Rattle.sql_meaning.specs.Worked.{t_def, l_def, giving, inserting}

-- a local
abbrev pub local_of : List ℕ → Value → Local
local_of n v = record { name = n; kind = ColType.Int; value = v }

-- v = -5 and b = X'0027'
abbrev pub two_locals : List Local
two_locals = local_of (codes "v") (Int (neg_ℤ (pos 5))) ∷ local_of (codes "b") (Text (0 ∷ 39 ∷ [])) ∷ []

-- UUID() as a function `u`, called by a function `w`
abbrev pub u_and_w : List Object
u_and_w = function (giving (codes "w") (return_value (call (codes "u") no_tree))) ∷ function (giving (codes "u") (return_value (on_none Func0.Uuid))) ∷ []

-- t with a trigger that inserts into l, which has AUTO_INCREMENT
abbrev pub with_trigger : List Object
with_trigger =
    table t_def ∷ table l_def
    ∷ reaction (trigger (codes "tr") times.After causes.Insert (codes "t") (inserting (codes "l") (Some (codes "w" ∷ [])) ((new_column (codes "id") ∷ []) ∷ [])))
    ∷ []
