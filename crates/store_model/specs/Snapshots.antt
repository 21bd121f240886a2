-- Snapshots: the body of one, both ways, and its file.
use Rattle.std.specs.Prelude.{◌≡◌, ◌<◌, ℕ, zero, suc, ◌+◌, ◌^◌, ◌%◌, ◌==◌, ◌&&◌, nat_le, nat_lt, Bool, true, not, if◌then◌else◌, List, [], ◌∷◌, ◌++◌, length, take, drop, slice_index, Option, Some, None}
use Rattle.std.specs.Option.{option_map, option_and_then}
use Rattle.std.specs.List.{list_all, AllByRecursion}
use Rattle.std.specs.Str.{bytes_eq}
use Rattle.val_types.specs.declared.value.Value.{Value}
use Rattle.val_types.specs.declared.definitions.TableDef.{TableDef}
use Rattle.val_types.specs.Fitting.{row_fits}
use Rattle.table_rules.specs.Tables.{Table, rise, are_apart}
use Rattle.table_rules.specs.Stored.{rows_of}
use Rattle.sql_tree.specs.Statement.{Statement, create_table}
use Rattle.sql_print.specs.StatementSpelling.{spelling}
use Rattle.sql_reach.specs.catalog_rules.Bases.{Base, empty_base, defined, creation_of}
use Rattle.sql_reach.specs.catalog_rules.Objects.{Object, table, function, procedure, reaction}
use Rattle.sql_reach.specs.catalog_rules.Defined.{definition_of, written_table}
use Rattle.sql_reach.specs.catalog_rules.Creating.{ddl_refusal}
use Rattle.text_answers.specs.Answers.{TextAnswer, a_statement, a_syntax_error, too_deep, text_answer}
use Rattle.byte_fields.specs.Field.{number_at, number_bytes}
use Rattle.binlog_sizes.specs.log_model.Images.{Read, and_then}
use Rattle.binlog_sizes.specs.log_model.Log.{LogPlace}
use Rattle.store_model.specs.declared.record.Kind.{Kind}
use Rattle.store_model.specs.declared.record.Kind.TheVariants.{Source, Replica}
use Rattle.store_model.specs.Reading.{read_as, to_the_end, number_of, text_behind, all_behind, row_in}
use Rattle.store_model.specs.Bodies.{text_bytes, all_bytes, row_bytes, IsRow}
use Rattle.store_model.specs.Held.{LogEnd, Held, first_read, most_committed, most_logs, latest_end, latest_old_end}

-- ---- written

abbrev pub node_of : Kind → ℕ
node_of Source = 1
node_of Replica = 2

abbrev pub end_bytes : LogEnd → List ℕ
end_bytes e = number_bytes 4 e.pos

-- the ends of a source's logs, or a replica's place
abbrev pub places_bytes : Kind → Held → List ℕ
places_bytes Source h = all_bytes 4 end_bytes h.ends
places_bytes Replica h = number_bytes 4 h.place.log ++ number_bytes 4 h.place.pos

-- behind a table its rows, in the order of their keys
abbrev pub rows_behind : List Table → Object → List ℕ
rows_behind tables (table definition) = all_bytes 8 row_bytes (rows_of definition.name tables)
rows_behind tables (function p) = []
rows_behind tables (procedure p) = []
rows_behind tables (reaction t) = []

-- an object: its canonical text, and its rows
abbrev pub object_bytes : List Table → Object → List ℕ
object_bytes tables o = text_bytes 8 (spelling (creation_of o)) ++ rows_behind tables o

-- the objects of a base in order of creation
abbrev pub base_bytes : Base → List ℕ
base_bytes base = all_bytes 4 (object_bytes base.tables) base.catalog

-- a snapshot's body, of a generation
unfoldable pub snapshot_body : Kind → ℕ → Held → List ℕ
snapshot_body kind generation h =
    number_bytes 1 (node_of kind) ++ number_bytes 8 generation ++ number_bytes 8 h.number ++ places_bytes kind h ++ base_bytes h.base

-- ---- read

-- whether ends may be those of logs: the last one's, and the others'
abbrev pub are_ends : List LogEnd → Bool
are_ends [] = true
are_ends (e ∷ []) = nat_le e.pos latest_end
are_ends (e ∷ f ∷ ends) = nat_le e.pos latest_old_end && are_ends (f ∷ ends)

-- the ends of a source's logs, from 1 to the most that there may be
abbrev pub ends_if : List LogEnd → Option (List LogEnd)
ends_if ends = if nat_lt 0 (length ends) && nat_le (length ends) most_logs && are_ends ends then Some ends else None

abbrev pub end_in : List ℕ → Read LogEnd
end_in bytes = read_as (λ pos. record { pos = pos }) (number_of 4 bytes)

abbrev pub ends_in : List ℕ → Read (List LogEnd)
ends_in bytes =
    and_then (λ ends rest. option_map (λ es. (es, rest)) (ends_if ends))
    (all_behind 4 end_in bytes)

abbrev pub place_in : List ℕ → Read LogPlace
place_in bytes = and_then (λ log rest. read_as (λ pos. record { log = log; pos = pos }) (number_of 4 rest)) (number_of 4 bytes)

-- the statement whose canonical text a text is
abbrev pub statement_in : List ℕ → TextAnswer → Option Statement
statement_in text (a_statement s) = if bytes_eq (spelling s) text then Some s else None
statement_in text (a_syntax_error at) = None
statement_in text too_deep = None

-- rows of a table, which fit it, rise by their keys, and have no key in common
abbrev pub table_of_rows : TableDef → List (List Value) → Option Table
table_of_rows definition rows =
    if list_all (row_fits definition.columns) rows && rise definition rows && are_apart definition rows
    then Some (record { definition = definition; rows = rows }) else None

-- a base with rows in the table that a CREATE TABLE made, which is the last; `before` is the base without it
abbrev pub filled : Statement → (before made : Base) → List ℕ → Read Base
filled (create_table t) before made bytes =
    and_then (λ rows rest. option_map (λ filled_table. (record made { tables = before.tables ++ filled_table ∷ [] }, rest)) (table_of_rows (definition_of t) rows))
    (all_behind 8 row_in bytes)
filled s before made bytes = Some (made, bytes)

-- a base that has one object more than another
abbrev pub one_more : (before made : Base) → Option Base
one_more before made = if length made.catalog == length before.catalog + 1 then Some made else None

-- a base with the object that a statement makes, which nothing refuses
abbrev pub object_made_by : Base → Statement → List ℕ → Read Base
object_made_by before s bytes = and_then (filled s before) (option_map (λ made. (made, bytes)) (option_and_then (one_more before) (defined s before)))

abbrev pub object_onto : Base → List ℕ → Read Base
object_onto before bytes =
    and_then (λ text rest. and_then (object_made_by before) (option_map (λ s. (s, rest)) (statement_in text (text_answer text)))) (text_behind 8 bytes)

-- and with so many, one after the other
abbrev pub objects_onto : ℕ → Base → List ℕ → Read Base
objects_onto zero base bytes = Some (base, bytes)
objects_onto (suc n) base bytes = and_then (objects_onto n) (object_onto base bytes)

abbrev pub base_in : List ℕ → Read Base
base_in bytes = and_then (λ count rest. objects_onto count empty_base rest) (number_of 4 bytes)

-- what is held, behind node and generation
abbrev pub held_in : Kind → (number : ℕ) → List ℕ → Read Held
held_in Source number bytes =
    if nat_le number most_committed
    then and_then (λ ends rest. read_as (λ base. record { base = base; number = number; ends = ends; place = first_read }) (base_in rest)) (ends_in bytes)
    else None
held_in Replica number bytes =
    and_then (λ place rest. read_as (λ base. record { base = base; number = number; ends = []; place = place }) (base_in rest)) (place_in bytes)

-- generation and what is held, behind the node, which is that of the store
abbrev pub generation_in : Kind → (node : ℕ) → List ℕ → Read (ℕ × Held)
generation_in kind node bytes =
    if node == node_of kind
    then and_then (λ generation rest. read_as (λ h. (generation, h)) (and_then (held_in kind) (number_of 8 rest))) (number_of 8 bytes)
    else None

-- generation and what is held, by a snapshot's body
unfoldable pub snapshot_of : Kind → List ℕ → Option (ℕ × Held)
snapshot_of kind body = to_the_end (and_then (generation_in kind) (number_of 1 body))

-- ---- its file

-- a file of at most one byte has no snapshot, nor has one whose gate is closed
abbrev pub is_open : List ℕ → Bool
is_open file = nat_lt 1 (length file) && not (slice_index file 0 == 0)

-- generations take turns between the two files
abbrev pub of_file : (f : ℕ) → ℕ × Held → Option (ℕ × Held)
of_file f begun = if begun.0 % 2 == f then Some begun else None

-- an open snapshot: a gate, the body's length in eight bytes, the body; None where it is not whole, decodes to nothing, or is another file's
abbrev pub snapshot_in : Kind → (f : ℕ) → List ℕ → Option (ℕ × Held)
snapshot_in kind f file =
    if nat_le (9 + number_at 1 8 file) (length file)
    then option_and_then (of_file f) (snapshot_of kind (take (number_at 1 8 file) (drop 9 file)))
    else None

-- ---- what has a body

-- the ends of a source's logs, or a replica's place, in the fields of a snapshot
abbrev pub HasPlaces : Kind → Held → Type 0
HasPlaces Source h =
    ((nat_le h.number most_committed ≡ true) × (h.place ≡ first_read))
    × ((ends_if h.ends ≡ Some h.ends) × ((length h.ends < 2 ^ 32) × AllByRecursion (λ (e : LogEnd). e.pos < 2 ^ 32) h.ends))
HasPlaces Replica h = (h.ends ≡ []) × ((h.place.log < 2 ^ 32) × (h.place.pos < 2 ^ 32))

-- the definition of a table is the one that its CREATE makes
abbrev pub IsSameAgain : Object → Type 0
IsSameAgain (table definition) = definition_of (written_table definition) ≡ definition
IsSameAgain (function p) = Unit {0}
IsSameAgain (procedure p) = Unit {0}
IsSameAgain (reaction t) = Unit {0}

-- behind others an object is made again by its canonical text
pub record IsAgain (before : List Object) (o : Object) : Type 0 where
  pub text : text_answer (spelling (creation_of o)) ≡ a_statement (creation_of o)
  pub fits : length (spelling (creation_of o)) < 2 ^ 64
  pub made : ddl_refusal before (creation_of o) ≡ None
  pub same : IsSameAgain o

-- a table that is found by its name among all, with rows that have a body and that it may have
pub record IsFilled (all : List Table) (t : Table) : Type 0 where
  pub found : rows_of t.definition.name all ≡ t.rows
  pub few : length t.rows < 2 ^ 64
  pub rows : AllByRecursion IsRow t.rows
  pub kept : table_of_rows t.definition t.rows ≡ Some t

-- objects are made again one after the other, and the tables among them are some tables, each of which is filled
abbrev pub AreAgain : (all : List Table) → (before : List Object) → List Object → List Table → Type 0
AreAgain all before [] [] = Unit {0}
AreAgain all before [] (t ∷ ts) = ⊥
AreAgain all before (table definition ∷ os) [] = ⊥
AreAgain all before (table definition ∷ os) (t ∷ ts) =
    IsAgain before (table definition) × ((t.definition ≡ definition) × (IsFilled all t × AreAgain all (before ++ table definition ∷ []) os ts))
AreAgain all before (function p ∷ os) ts = IsAgain before (function p) × AreAgain all (before ++ function p ∷ []) os ts
AreAgain all before (procedure p ∷ os) ts = IsAgain before (procedure p) × AreAgain all (before ++ procedure p ∷ []) os ts
AreAgain all before (reaction t ∷ os) ts = IsAgain before (reaction t) × AreAgain all (before ++ reaction t ∷ []) os ts

-- what is held has a snapshot's body
pub record IsSnapshot (kind : Kind) (generation : ℕ) (h : Held) : Type 0 where
  pub generation_fits : generation < 2 ^ 64
  pub number_fits : h.number < 2 ^ 64
  pub places : HasPlaces kind h
  pub few : length h.base.catalog < 2 ^ 32
  pub objects : AreAgain h.base.tables [] h.base.catalog h.base.tables
