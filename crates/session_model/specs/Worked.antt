-- A small script run by the machine, of which worked examples are made.
use Rattle.std.specs.Prelude.{ℕ, Bool, ◌+◌, List, [], ◌∷◌, ◌++◌, codes, false, map, replicate, pos}
use Rattle.val_types.specs.declared.value.Value.{Value}
use Rattle.val_types.specs.declared.value.Value.TheVariants.{Int}
use Rattle.port_traits.specs.declared.identity.Identity.{Identity}
use Rattle.port_traits.specs.declared.identity.Draw.{Draw}
use Rattle.binlog_sizes.specs.log_entries.declared.entries.Item.{Item}
use Rattle.binlog_sizes.specs.log_entries.declared.entries.Entry.{Entry}
use Rattle.binlog_sizes.specs.log_entries.declared.entries.Entry.TheVariants.{Transaction, Definition, LogStart}
use Rattle.binlog_sizes.specs.log_model.Log.{LogPlace}
use Rattle.answer_text.specs.declared.answer.Answer.{Answer}
use Rattle.answer_text.specs.declared.answer.End.TheVariants as ends
use Rattle.session_ctx.specs.catalog_rules.Bases.{empty_base}
use Rattle.session_model.specs.Sessions.{State}
use Rattle.session_model.specs.Machine.{first_place, first_state, step, Step, kept}

abbrev pub root : Identity
root = record { server_id = 1; user = codes "root@localhost" }

-- the draw of a command, counted from 0
abbrev pub draw_of : ℕ → Draw
draw_of i = record { now = 1700000000 + i; sys = 1700000000 + i; seed1 = 1; seed2 = 2; uuid = replicate 15 0 ++ i ∷ [] }

-- a command: the number of its session, and its text
abbrev pub Spoken : Type 0
Spoken = ℕ × List ℕ

abbrev pub answers_behind : (State Item → List Answer) → Step Item → List Answer
answers_behind more s = s.answer ∷ more s.state

-- the answers of commands, from a state on, where so many draws were taken
abbrev pub answers_from : ℕ → List Spoken → State Item → List Answer
answers_from i [] state = []
answers_from i (c ∷ cs) state = answers_behind (answers_from (i + 1) cs) (step kept root state c.0 c.1 (draw_of i))

-- the answers of a script on an empty source
abbrev pub answers_of : List Spoken → List Answer
answers_of commands = answers_from 0 commands (first_state empty_base [] 0 first_place)

abbrev pub entries_behind : (State Item → List (Entry Item)) → Step Item → List (Entry Item)
entries_behind more s = s.committed ++ more s.state

-- the entries that its commands put out
abbrev pub entries_from : ℕ → List Spoken → State Item → List (Entry Item)
entries_from i [] state = []
entries_from i (c ∷ cs) state = entries_behind (entries_from (i + 1) cs) (step kept root state c.0 c.1 (draw_of i))

abbrev pub entries_of : List Spoken → List (Entry Item)
entries_of commands = entries_from 0 commands (first_state empty_base [] 0 first_place)

-- the texts of each transaction among some entries
abbrev pub texts_in : List (Entry Item) → List (List (List ℕ))
texts_in [] = []
texts_in (Transaction stamp server items ∷ es) = map (λ (i : Item). i.text) items ∷ texts_in es
texts_in (Definition stamp server item ∷ es) = texts_in es
texts_in (LogStart stamp server ∷ es) = texts_in es

-- the texts of the transactions that a script's commands put out
abbrev pub texts_of : List Spoken → List (List (List ℕ))
texts_of commands = texts_in (entries_of commands)

-- whether each item of each transaction among some entries is logged by its rows
abbrev pub by_rows_in : List (Entry Item) → List (List Bool)
by_rows_in [] = []
by_rows_in (Transaction stamp server items ∷ es) = map (λ (i : Item). i.rows) items ∷ by_rows_in es
by_rows_in (Definition stamp server item ∷ es) = by_rows_in es
by_rows_in (LogStart stamp server ∷ es) = by_rows_in es

-- the same of the transactions that a script's commands put out
abbrev pub by_rows_of : List Spoken → List (List Bool)
by_rows_of commands = by_rows_in (entries_of commands)

abbrev pub places_behind : (State Item → List LogPlace) → Step Item → List LogPlace
places_behind more s = s.state.shared.place ∷ more s.state

-- where the log ends behind each of its commands
abbrev pub places_from : ℕ → List Spoken → State Item → List LogPlace
places_from i [] state = []
places_from i (c ∷ cs) state = places_behind (places_from (i + 1) cs) (step kept root state c.0 c.1 (draw_of i))

abbrev pub places_of : List Spoken → List LogPlace
places_of commands = places_from 0 commands (first_state empty_base [] 0 first_place)

-- a place in the first log
abbrev pub first_at : ℕ → LogPlace
first_at offset = record { log = 1; pos = offset }

-- a command of the first session
abbrev pub s1 : List ℕ → Spoken
s1 text = (1, text)

abbrev pub s2 : List ℕ → Spoken
s2 text = (2, text)

-- a table of two numbers, whose key is the first
abbrev pub made_t : Spoken
made_t = s1 (codes "CREATE TABLE t (id INT, v INT, PRIMARY KEY (id))")

-- a row of two numbers
abbrev pub pair : ℕ → ℕ → List Value
pair a b = Int (pos a) ∷ Int (pos b) ∷ []

-- the answer of a CALL that showed one set of rows, and affected so many
abbrev pub called_with_rows : List (List Value) → ℕ → Answer
called_with_rows rows affected = record { sets = rows ∷ []; end = ends.Ok affected false }

-- ---- procedures

-- a function that changes a row, and a procedure whose condition calls it
abbrev pub adds_nine : Spoken
adds_nine = s1 (codes "CREATE FUNCTION f() RETURNS INT BEGIN INSERT INTO t VALUES (9, 9); RETURN 1; END")

abbrev pub asks_f : Spoken
asks_f = s1 (codes "CREATE PROCEDURE i() BEGIN IF f() THEN SET @y = 1; END IF; END")

-- a procedure whose third statement finds the key of its first
abbrev pub inserts_twice : Spoken
inserts_twice = s1 (codes "CREATE PROCEDURE q() BEGIN INSERT INTO t VALUES (1, 1); INSERT INTO t VALUES (2, 2); INSERT INTO t VALUES (1, 3); END")

-- a procedure whose parameter hides a column
abbrev pub hides_v : Spoken
hides_v = s1 (codes "CREATE PROCEDURE p(v INT) BEGIN UPDATE t SET v = v + 1 WHERE id = 1; END")

-- ---- formats

-- statements logged by their texts from here on
abbrev pub by_text : Spoken
by_text = s1 (codes "SET binlog_format = 'STATEMENT'")

-- a row that is drawn
abbrev pub draws_one : Spoken
draws_one = s1 (codes "INSERT INTO t VALUES (1, FLOOR(RAND() * 10))")

-- a function that changes a row by what a replica may see otherwise
abbrev pub adds_unsafely : Spoken
adds_unsafely = s1 (codes "CREATE FUNCTION g(x INT) RETURNS INT BEGIN INSERT INTO t VALUES (x, @@server_id); RETURN x; END")

-- a procedure whose first statement does, and whose second does not
abbrev pub begins_unsafely : Spoken
begins_unsafely = s1 (codes "CREATE PROCEDURE c(x INT) BEGIN INSERT INTO t VALUES (1, @@server_id); INSERT INTO t VALUES (x, 1); END")

-- a procedure that changes no row
abbrev pub sets_y : Spoken
sets_y = s1 (codes "CREATE PROCEDURE y(x INT) SET @y = x")
