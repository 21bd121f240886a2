-- The made script, by its number of changes: the bytes that `gen` writes.
use Rattle.std.specs.Prelude.{ℕ, ◌+◌, ◌-◌, ◌%◌, ◌==◌, zero, suc, if◌then◌else◌, List, [], ◌∷◌, ◌++◌, codes}
use Rattle.std.specs.Fmt.{decimal}

-- ---- what the session changes

-- the table
abbrev pub create_text : List ℕ
create_text = codes "CREATE TABLE g (id BIGINT NOT NULL AUTO_INCREMENT, k INT NOT NULL, v VARCHAR(20) NOT NULL, PRIMARY KEY (id), UNIQUE KEY u (k))"

-- a row is put in
abbrev pub insert_text : ℕ → List ℕ
insert_text i = codes "INSERT INTO g (k, v) VALUES (" ++ decimal i ++ codes ", 'a" ++ decimal i ++ codes "')"

-- and taken out
abbrev pub delete_text : ℕ → List ℕ
delete_text i = codes "DELETE FROM g WHERE k = " ++ decimal (i - 1) ++ codes " LIMIT 1"

-- two rows are put in
abbrev pub pair_text : ℕ → List ℕ
pair_text i = codes "INSERT INTO g (k, v) VALUES (" ++ decimal i ++ codes ", 'b" ++ decimal i ++ codes "'), (" ++ decimal (i + 100000) ++ codes ", 'c')"

-- and the first of them is changed
abbrev pub update_text : ℕ → List ℕ
update_text i = codes "UPDATE g SET v = CONCAT(v, 'x') WHERE k = " ++ decimal (i - 1)

-- the i-th change
abbrev pub change_text : ℕ → List ℕ
change_text i =
    if i % 4 == 1 then insert_text i
    else if i % 4 == 2 then delete_text i
    else if i % 4 == 3 then pair_text i
    else update_text i

-- ---- lines

-- what ends a line
abbrev pub line_end : List ℕ
line_end = codes " //" ++ 0x0a ∷ []

-- a line of the session, and one of the replica
abbrev pub session_line : List ℕ → List ℕ
session_line text = codes "s1: " ++ text ++ line_end

abbrev pub replica_line : List ℕ → List ℕ
replica_line text = codes "replica: " ++ text ++ line_end

-- behind each hundredth change the replica fetches and applies
abbrev pub step_lines : List ℕ
step_lines = replica_line (codes "FETCH 1000000") ++ replica_line (codes "APPLY 1000")

-- the lines of the i-th change
abbrev pub turn_lines : ℕ → List ℕ
turn_lines i = session_line (change_text i) ++ (if i % 100 == 0 then step_lines else [])

-- those of the first changes
abbrev pub turns_lines : ℕ → List ℕ
turns_lines zero = []
turns_lines (suc i) = turns_lines i ++ turn_lines (suc i)

-- at the end the replica fetches and applies all, and counts its rows
abbrev pub last_lines : List ℕ
last_lines = replica_line (codes "FETCH 1000000000") ++ replica_line (codes "APPLY 4294967295") ++ replica_line (codes "SELECT COUNT(*) FROM g")

-- the script up to some change, and the whole one
abbrev pub turns_text : ℕ → List ℕ
turns_text n = session_line create_text ++ turns_lines n

abbrev pub load_text : ℕ → List ℕ
load_text n = turns_text n ++ last_lines
