-- The bodies of records, both ways. Numbers stand with their least byte first.
use Rattle.std.specs.Prelude.{◌<◌, ℕ, ◌^◌, ◌==◌, if◌then◌else◌, List, ◌++◌, flat_map, length, Option, None, FitsSigned}
use Rattle.std.specs.Int.{w64, cast_unsigned}
use Rattle.std.specs.List.{AllByRecursion}
use Rattle.val_types.specs.declared.value.Value.{Value}
use Rattle.val_types.specs.declared.value.Value.TheVariants.{Null, Int, Text}
use Rattle.val_types.specs.declared.change.Change.{Change}
use Rattle.val_types.specs.declared.change.Change.TheVariants.{Insert, Update, Delete}
use Rattle.byte_fields.specs.Field.{number_bytes}
use Rattle.binlog_sizes.specs.log_model.Images.{Read, and_then}
use Rattle.store_model.specs.declared.record.Kind.{Kind}
use Rattle.store_model.specs.declared.record.Kind.TheVariants.{Source, Replica}
use Rattle.store_model.specs.declared.record.Head.{Head}
use Rattle.store_model.specs.declared.record.Record.{Record}
use Rattle.store_model.specs.declared.record.Record.TheVariants.{Transaction, Definition, LogStart, TransactionApplied, DefinitionApplied, PlaceMoved}
use Rattle.store_model.specs.Reading.{read_as, to_the_end, number_of, text_behind, all_behind, change_in}

-- ---- written

-- a text behind its length, which has so many bytes
abbrev pub text_bytes : ℕ → List ℕ → List ℕ
text_bytes width text = number_bytes width (length text) ++ text

-- things behind their count, which has so many bytes
abbrev pub all_bytes : {X : Type 0} → ℕ → (X → List ℕ) → List X → List ℕ
all_bytes width one xs = number_bytes width (length xs) ++ flat_map one xs

abbrev pub value_bytes : Value → List ℕ
value_bytes Null = number_bytes 1 0
value_bytes (Int n) = number_bytes 1 1 ++ number_bytes 8 (cast_unsigned w64 n)
value_bytes (Text t) = number_bytes 1 2 ++ text_bytes 4 t

unfoldable pub row_bytes : List Value → List ℕ
row_bytes row = all_bytes 1 value_bytes row

unfoldable pub change_bytes : Change → List ℕ
change_bytes (Insert name row) = number_bytes 1 1 ++ text_bytes 1 name ++ row_bytes row
change_bytes (Update name before after) = number_bytes 1 2 ++ text_bytes 1 name ++ row_bytes before ++ row_bytes after
change_bytes (Delete name row) = number_bytes 1 3 ++ text_bytes 1 name ++ row_bytes row

-- the changes of a transaction
abbrev pub changes_bytes : List Change → List ℕ
changes_bytes cs = all_bytes 4 change_bytes cs

abbrev pub head_bytes : (kind : ℕ) → Head → List ℕ
head_bytes kind head = number_bytes 1 kind ++ number_bytes 8 head.number ++ number_bytes 4 head.log ++ number_bytes 4 head.pos

-- a record's body, by its kind
unfoldable pub body_of : Record → List ℕ
body_of (Transaction head cs) = head_bytes 1 head ++ changes_bytes cs
body_of (Definition head text) = head_bytes 2 head ++ text_bytes 4 text
body_of (LogStart head old_end) = head_bytes 3 head ++ number_bytes 4 old_end
body_of (TransactionApplied head cs) = head_bytes 17 head ++ changes_bytes cs
body_of (DefinitionApplied head text) = head_bytes 18 head ++ text_bytes 4 text
body_of (PlaceMoved head) = head_bytes 19 head

-- ---- read

abbrev pub head_in : List ℕ → Read Head
head_in bytes =
    and_then (λ number rest.
    and_then (λ log rest'.
    read_as (λ pos. record { number = number; log = log; pos = pos }) (number_of 4 rest')) (number_of 4 rest)) (number_of 8 bytes)

abbrev pub changes_in : List ℕ → Read (List Change)
changes_in bytes = all_behind 4 change_in bytes

-- behind a head, the record of some kinds
abbrev pub with_changes : (Head → List Change → Record) → Head → List ℕ → Read Record
with_changes make head bytes = read_as (make head) (changes_in bytes)

abbrev pub with_text : (Head → List ℕ → Record) → Head → List ℕ → Read Record
with_text make head bytes = read_as (make head) (text_behind 4 bytes)

abbrev pub with_old_end : Head → List ℕ → Read Record
with_old_end head bytes = read_as (λ old_end. LogStart head old_end) (number_of 4 bytes)

-- a record behind its kind, in a store of one kind
abbrev pub record_of_kind : Kind → ℕ → List ℕ → Read Record
record_of_kind Source kind bytes =
    if kind == 1 then and_then (with_changes (λ head cs. Transaction head cs)) (head_in bytes)
    else if kind == 2 then and_then (with_text (λ head text. Definition head text)) (head_in bytes)
    else if kind == 3 then and_then with_old_end (head_in bytes)
    else None
record_of_kind Replica kind bytes =
    if kind == 17 then and_then (with_changes (λ head cs. TransactionApplied head cs)) (head_in bytes)
    else if kind == 18 then and_then (with_text (λ head text. DefinitionApplied head text)) (head_in bytes)
    else if kind == 19 then read_as (λ head. PlaceMoved head) (head_in bytes)
    else None

-- the record that a body is, to its last byte
unfoldable pub record_of : Kind → List ℕ → Option Record
record_of kind body = to_the_end (and_then (record_of_kind kind) (number_of 1 body))

-- ---- what has a body

-- a number of 64 bits with a sign, a text whose length four bytes say
abbrev pub IsValue : Value → Type 0
IsValue Null = Unit {0}
IsValue (Int n) = FitsSigned w64 n
IsValue (Text t) = length t < 2 ^ 32

-- values, whose count one byte says
pub record IsRow (row : List Value) : Type 0 where
  pub few : length row < 2 ^ 8
  pub values : AllByRecursion IsValue row

-- the length of a table's name has one byte
abbrev pub IsChange : Change → Type 0
IsChange (Insert name row) = (length name < 2 ^ 8) × IsRow row
IsChange (Update name before after) = (length name < 2 ^ 8) × (IsRow before × IsRow after)
IsChange (Delete name row) = (length name < 2 ^ 8) × IsRow row

pub record AreChanges (cs : List Change) : Type 0 where
  pub few : length cs < 2 ^ 32
  pub each : AllByRecursion IsChange cs

pub record IsHead (head : Head) : Type 0 where
  pub number : head.number < 2 ^ 64
  pub log : head.log < 2 ^ 32
  pub pos : head.pos < 2 ^ 32

-- a record of a kind of store that has a body
abbrev pub IsRecord : Kind → Record → Type 0
IsRecord Source (Transaction head cs) = IsHead head × AreChanges cs
IsRecord Source (Definition head text) = IsHead head × (length text < 2 ^ 32)
IsRecord Source (LogStart head old_end) = IsHead head × (old_end < 2 ^ 32)
IsRecord Source (TransactionApplied head cs) = ⊥
IsRecord Source (DefinitionApplied head text) = ⊥
IsRecord Source (PlaceMoved head) = ⊥
IsRecord Replica (Transaction head cs) = ⊥
IsRecord Replica (Definition head text) = ⊥
IsRecord Replica (LogStart head old_end) = ⊥
IsRecord Replica (TransactionApplied head cs) = IsHead head × AreChanges cs
IsRecord Replica (DefinitionApplied head text) = IsHead head × (length text < 2 ^ 32)
IsRecord Replica (PlaceMoved head) = IsHead head
