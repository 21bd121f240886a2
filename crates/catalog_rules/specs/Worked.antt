-- A small catalog, of which worked examples are made: `t` (id, v), `a` (id AUTO_INCREMENT, k), a function `f` of one number, a
-- procedure `p` without parameters, and a trigger `r` before INSERT on `t`.
use Rattle.std.specs.Prelude.{ℕ, true, false, codes, List, [], ◌∷◌, Some, None}
use Rattle.val_types.specs.declared.value.Value.{Value}
use Rattle.sql_tree.specs.Tree.{name}
use Rattle.sql_tree.specs.Statement.{Statement, Program, program, Trigger, trigger, return_value, evaluate}
use Rattle.sql_tree.specs.View.{trees_of}
use Rattle.sql_tree.specs.Worked.{one, column_of, key_of, parameter_of}
use Rattle.sql_tree.specs.declared.statements.SqlType.{SqlType}
use Rattle.sql_tree.specs.declared.statements.Column.{Column}
use Rattle.sql_tree.specs.declared.statements.CreateTable.{CreateTable}
use Rattle.sql_tree.specs.declared.statements.Time.TheVariants as times
use Rattle.sql_tree.specs.declared.statements.Cause.TheVariants as causes
use Rattle.catalog_rules.specs.Objects.{Object, table, function, procedure, reaction}
use Rattle.catalog_rules.specs.Defined.{definition_of}

-- the names
abbrev pub id : List ℕ
id = codes "id"

abbrev pub v : List ℕ
v = codes "v"

-- CREATE TABLE t (id INT, v INT, PRIMARY KEY (id))
abbrev pub create_t : CreateTable
create_t = record {
  name = codes "t";
  columns = column_of id SqlType.Int false ∷ column_of v SqlType.Int true ∷ [];
  primary = Some (id ∷ []);
  uniques = [];
}

-- CREATE TABLE a (id INT NOT NULL AUTO_INCREMENT, k INT NOT NULL, PRIMARY KEY (id), UNIQUE KEY uk (k))
abbrev pub create_a : CreateTable
create_a = record {
  name = codes "a";
  columns = record (column_of id SqlType.Int false) { auto_increment = true } ∷ column_of (codes "k") SqlType.Int false ∷ [];
  primary = Some (id ∷ []);
  uniques = key_of (codes "uk") (codes "k" ∷ []) ∷ [];
}

-- FUNCTION f(x INT) RETURNS INT RETURN x
abbrev pub f : Program
f = program (codes "f") (parameter_of (codes "x") SqlType.Int ∷ []) (Some SqlType.Int) (return_value (name (codes "x")))

-- PROCEDURE p() DO 1
abbrev pub p : Program
p = program (codes "p") [] None (evaluate (trees_of (one ∷ [])))

-- TRIGGER r BEFORE INSERT ON t DO 1
abbrev pub r : Trigger
r = trigger (codes "r") times.Before causes.Insert (codes "t") (evaluate (trees_of (one ∷ [])))

abbrev pub catalog : List Object
catalog = table (definition_of create_t) ∷ table (definition_of create_a) ∷ function f ∷ procedure p ∷ reaction r ∷ []

-- a table `n` of these columns, of which the first is its primary key
abbrev pub of_columns : List Column → List (List ℕ) → CreateTable
of_columns columns primary = record { name = codes "n"; columns = columns; primary = Some primary; uniques = [] }

-- an INT NOT NULL
abbrev pub int_column : List ℕ → Column
int_column n = column_of n SqlType.Int false

-- a column with a DEFAULT
abbrev pub preset_to : Value → Column → Column
preset_to value c = record c { preset = Some value }

-- an AUTO_INCREMENT column
abbrev pub counted : Column → Column
counted c = record c { auto_increment = true }

-- a procedure `q` with such a body
abbrev pub doing : Statement → Program
doing body = program (codes "q") [] None body

-- a function `g` with such a body
abbrev pub giving : Statement → Program
giving body = program (codes "g") [] (Some SqlType.Int) body
