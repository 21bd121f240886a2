-- Small catalogs and scenes, of which worked examples are made.
use Rattle.std.specs.Prelude.{ℕ, true, false, codes, pos, List, [], ◌∷◌, map, Option, Some, None, neg_ℤ}
use Rattle.val_types.specs.declared.value.Value.{Value}
use Rattle.val_types.specs.declared.value.Value.TheVariants.{Null, Int}
use Rattle.val_types.specs.declared.definitions.TableDef.{TableDef}
use Rattle.auto_inc.specs.declared.counters.Counter.{Counter}
use Rattle.table_rules.specs.Tables.{Table}
use Rattle.val_types.specs.declared.ops.BinOp.TheVariants as ops
use Rattle.sql_tree.specs.Tree.{Tree, literal, name, binary, no_origin, part, query, items}
use Rattle.sql_tree.specs.Statement.{Statement, Program, program, rows, insert_into, select, set_all, block, while_steps, return_value}
use Rattle.sql_tree.specs.View.{trees_of}
use Rattle.sql_tree.specs.StatementView.{statements_of}
use Rattle.sql_tree.specs.Worked.{parameter_of, column_of, declared_as}
use Rattle.sql_tree.specs.declared.statements.Target.{Target}
use Rattle.sql_tree.specs.declared.statements.SqlType.{SqlType}
use Rattle.log_entries.specs.catalog_rules.Objects.{Object, table}
use Rattle.log_entries.specs.catalog_rules.Defined.{definition_of}
use Rattle.log_entries.specs.catalog_rules.Worked.{create_t, create_a, counted}
use Rattle.sql_meaning.specs.Scenes.{Scene, Ending, done, failed}
use Rattle.sql_meaning.specs.Frames.{Context, Setting}
use Rattle.sql_meaning.specs.Changing.{Did}
use Rattle.sql_meaning.specs.Running.{effect, most_turns}

-- a number as an expression, and NULL
abbrev pub n : ℕ → Tree
n k = literal (Int (pos k))

abbrev pub nothing : Tree
nothing = literal Null

-- a row of numbers
abbrev pub r : List ℕ → List Value
r ks = map (λ k. Int (pos k)) ks

-- the context of session 1 of server 1, at 1700000000
abbrev pub context : Context
context = record {
  stamp = 1700000000;
  sys = 1700000000;
  connection = 1;
  user = codes "root@localhost";
  server_id = 1;
  last_id = pos 0;
  forced = None;
  seeds = (1, 2);
  variables = [];
  increment = 1;
  offset = 1;
  row_count = neg_ℤ (pos 1);
}

abbrev pub setting_of : List Object → Setting
setting_of catalog = record { catalog = catalog; context = context; uuid = 16 }

-- the same with another context
abbrev pub setting_in : Context → List Object → Setting
setting_in c catalog = record { catalog = catalog; context = c; uuid = 16 }

-- tables with their rows, nothing changed yet
abbrev pub scene_of : List Table → List Counter → Scene
scene_of tables counters = record { tables = tables; changes = []; counters = counters; seeds = (1, 2); turns = most_turns; uuids = 0 }

abbrev pub holding : TableDef → List (List Value) → Table
holding definition rs = record { definition = definition; rows = rs }

abbrev pub counter_of : List ℕ → ℕ → Counter
counter_of t k = record { table = t; value = k }

-- the tables t(id, v) and a(id AUTO_INCREMENT, k)
abbrev pub t_def : TableDef
t_def = definition_of create_t

abbrev pub a_def : TableDef
a_def = definition_of create_a

abbrev pub t_alone : List Object
t_alone = table t_def ∷ []

abbrev pub a_alone : List Object
a_alone = table a_def ∷ []

-- t with some rows, a with some rows and its counter
abbrev pub t_of : List (List Value) → Scene
t_of rs = scene_of (holding t_def rs ∷ []) (counter_of (codes "t") 1 ∷ [])

abbrev pub a_of : List (List Value) → ℕ → Scene
a_of rs k = scene_of (holding a_def rs ∷ []) (counter_of (codes "a") k ∷ [])

-- INSERT INTO name (columns) VALUES of these rows
abbrev pub inserting : List ℕ → Option (List (List ℕ)) → List (List Tree) → Statement
inserting t names rs = insert_into false t names (rows (map trees_of rs)) []

-- SELECT of some expressions
abbrev pub selecting : List Tree → Statement
selecting ts = select (query (items (trees_of ts)) no_origin)

-- what a statement comes to, without the scene: what it did or its error
abbrev pub did_or_code : Ending Did → Option Did
did_or_code (done did scene) = Some did
did_or_code (failed code scene) = None

-- the error of a statement, 0 where it has none
abbrev pub code_of : Ending Did → ℕ
code_of (done did scene) = 0
code_of (failed code scene) = code

-- the scene after it
abbrev pub after : {A : Type 0} → Ending A → Scene
after (done a scene) = scene
after (failed code scene) = scene

-- the rows of a table after it
abbrev pub rows_of_tables : List Table → List (List (List Value))
rows_of_tables ts = map (λ (t : Table). t.rows) ts

abbrev pub rows_after : Ending Did → List (List (List Value))
rows_after e = rows_of_tables (after e).tables

-- a statement of a session with all nesting left
abbrev pub run_in : List Object → Statement → Scene → Ending Did
run_in catalog s scene = effect (setting_of catalog) 16 [] s scene

-- what it shows
abbrev pub shown : Ending Did → Option (List (List Value))
shown (done did scene) = did.shown
shown (failed code scene) = None

-- a function of no parameters that gives an INT
abbrev pub giving : List ℕ → Statement → Program
giving f body = program f [] (Some SqlType.Int) body

-- ---- programs

-- FUNCTION f() BEGIN INSERT INTO t VALUES (9, 9); RETURN 1; END
abbrev pub adding_nine : Program
adding_nine = giving (codes "f") (block [] (statements_of (inserting (codes "t") None ((n 9 ∷ n 9 ∷ []) ∷ []) ∷ return_value (n 1) ∷ [])))

-- FUNCTION c() BEGIN DECLARE i INT DEFAULT 0; WHILE i < k DO SET i = i + 1; END WHILE; RETURN i; END
abbrev pub counting_to : ℕ → Program
counting_to k =
    giving (codes "c") (block (declared_as (codes "i" ∷ []) SqlType.Int (part (n 0)) ∷ []) (statements_of (
    while_steps (binary ops.Less (name (codes "i")) (n k)) (statements_of (set_all ((Target.Plain (codes "i"), binary ops.Add (name (codes "i")) (n 1)) ∷ []) ∷ []))
    ∷ return_value (name (codes "i")) ∷ [])))

-- FUNCTION h(x INT) RETURNS BIGINT RETURN 9223372036854775805 + x
abbrev pub h : Program
h = program (codes "h") (parameter_of (codes "x") SqlType.Int ∷ []) (Some SqlType.BigInt)
    (return_value (binary ops.Add (n 9223372036854775805) (name (codes "x"))))

-- l(id INT AUTO_INCREMENT, w INT NOT NULL)
abbrev pub l_def : TableDef
l_def = definition_of (record create_t {
  name = codes "l";
  columns = counted (column_of (codes "id") SqlType.Int false) ∷ column_of (codes "w") SqlType.Int false ∷ [];
})

-- u(id INT, v BIGINT)
abbrev pub u_def : TableDef
u_def = definition_of (record create_t {
  name = codes "u";
  columns = column_of (codes "id") SqlType.Int false ∷ column_of (codes "v") SqlType.BigInt true ∷ [];
})

-- t with some rows, and u without
abbrev pub two_tables : List (List Value) → Scene
two_tables rs = scene_of (holding t_def rs ∷ holding u_def [] ∷ []) (counter_of (codes "t") 1 ∷ counter_of (codes "u") 1 ∷ [])
