-- Places of columns, counted on from a number.
use Rattle.std.specs.Prelude.{ℕ, ◌+◌, if◌then◌else◌, List, [], ◌∷◌, Option, Some, None}
use Rattle.sql_tree.specs.declared.statements.Column.{Column}
use Rattle.catalog_checks.specs.catalog_rules.Names.{same_name}

-- the place of a column of a name, where the first has this one
abbrev pub place_from : ℕ → List Column → List ℕ → Option ℕ
place_from at [] name = None
place_from at (c ∷ cs) name = if same_name name c.name then Some at else place_from (at + 1) cs name

-- the place of the AUTO_INCREMENT column
abbrev pub auto_from : ℕ → List Column → Option ℕ
auto_from at [] = None
auto_from at (c ∷ cs) = if c.auto_increment then Some at else auto_from (at + 1) cs
