-- Small runs over both nodes, of which worked examples are made.
use Rattle.std.specs.Prelude.{ℕ, zero, suc, ◌+◌, List, [], ◌∷◌, ◌++◌, codes, length, map}
use Rattle.val_types.specs.declared.value.Value.{Value}
use Rattle.table_rules.specs.Tables.{Table}
use Rattle.port_traits.specs.declared.identity.Draw.{Draw}
use Rattle.session_replays.specs.session_model.Worked.{root, draw_of}
use Rattle.run_model.specs.Asked.{Asked, say, take_bytes, take_groups, restart_replica}
use Rattle.run_model.specs.Run.{Names, Both, first_both, end_of, lines_shown}

-- the source is server 1, the replica server 2
abbrev pub names : Names
names = record { source = root; replica = record { server_id = 2; user = codes "rep@localhost" } }

-- draws from a number on
abbrev pub draws_from : ℕ → (count : ℕ) → List Draw
draws_from i zero = []
draws_from i (suc count) = draw_of i ∷ draws_from (i + 1) count

-- the lines that a run of commands writes; each node took the draw 0 at its opening
abbrev pub lines_of : List Asked → List ℕ
lines_of commands = lines_shown names (first_both names (draw_of 0)) 1 commands (draws_from 1 (length commands))

-- lines, one after the other
abbrev pub ended : List (List ℕ) → List ℕ
ended [] = []
ended (l ∷ ls) = (l ++ 0x0a ∷ []) ++ ended ls

-- a table of two numbers, whose key is the first
abbrev pub made_t : Asked
made_t = say 1 (codes "CREATE TABLE t (id INT, v INT, PRIMARY KEY (id))")

-- a table whose key counts up by itself
abbrev pub made_a : Asked
made_a = say 1 (codes "CREATE TABLE a (id INT NOT NULL AUTO_INCREMENT, k INT NOT NULL, PRIMARY KEY (id), UNIQUE KEY uk (k))")

abbrev pub s1 : List ℕ → Asked
s1 text = say 1 text

-- ---- rows, without the lines

-- both nodes behind commands
abbrev pub both_behind : List Asked → Both
both_behind commands = end_of names (first_both names (draw_of 0)) commands (draws_from 1 (length commands))

abbrev pub rows_in : List Table → List (List (List Value))
rows_in tables = map (λ (t : Table). t.rows) tables

-- the rows of each table that the source has committed, and those of the replica
abbrev pub source_rows : List Asked → List (List (List Value))
source_rows commands = rows_in (both_behind commands).machine.state.shared.base.tables

abbrev pub replica_rows : List Asked → List (List (List Value))
replica_rows commands = rows_in (both_behind commands).replica.base.tables

-- a row of a trigger, which is counted by itself, made and deleted on both nodes; then the replica opens again, and a second one is made
abbrev pub counted_twice : List Asked
counted_twice =
    s1 (codes "CREATE TABLE l (id INT AUTO_INCREMENT, w INT NOT NULL, PRIMARY KEY (id))") ∷ made_t
    ∷ s1 (codes "CREATE TRIGGER tr AFTER INSERT ON t FOR EACH ROW INSERT INTO l (w) VALUES (NEW.id)") ∷ s1 (codes "SET binlog_format = 'STATEMENT'")
    ∷ s1 (codes "INSERT INTO t VALUES (1, 1)") ∷ s1 (codes "DELETE FROM l") ∷ take_bytes 10000 ∷ take_groups 10 ∷ restart_replica
    ∷ s1 (codes "INSERT INTO t VALUES (2, 2)") ∷ take_bytes 10000 ∷ take_groups 10 ∷ []
