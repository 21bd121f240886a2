-- What a journal's file stands for: records, each a gate byte, a length in four bytes and a body, one behind the other, and a closed gate
-- behind the last. Gate 0 is closed, any other value open.
use Rattle.std.specs.Prelude.{ℕ, ◌+◌, zero, suc, ◌==◌, nat_lt, nat_le, if◌then◌else◌, List, [], ◌∷◌, ◌++◌, length, take, drop, slice_index, Result, Ok, Err}
use Rattle.byte_fields.specs.Field.{number_at, number_bytes}
use Rattle.gate_journal.specs.declared.record.NextRecord.{NextRecord}
use Rattle.gate_journal.specs.declared.record.NextRecord.TheVariants.{End, Record, Damaged}

-- what stands at a gate. A file of at most one byte has no records. A record is whole where its length, its body and the next gate stand
-- in the file.
abbrev pub record_at : List ℕ → ℕ → NextRecord
record_at file gate =
    if nat_le (length file) 1 then End
    else if slice_index file gate == 0 then End
    else if nat_lt (gate + 5 + number_at (gate + 1) 4 file) (length file) then Record (number_at (gate + 1) 4 file)
    else Damaged

-- what a journal holds: the bodies of its open records, where their gates stand, and where the present gate stands, behind the last of them
pub record Opened : Type 0 where
  pub bodies : List (List ℕ)
  pub gates : List ℕ
  pub gate : ℕ

-- no record from a gate on
abbrev pub none_from : ℕ → Opened
none_from gate = record { bodies = []; gates = []; gate = gate }

-- a record more in front
abbrev pub with_first : List ℕ → ℕ → Result Opened ℕ → Result Opened ℕ
with_first body gate (Ok o) = Ok (record { bodies = body ∷ o.bodies; gates = gate ∷ o.gates; gate = o.gate })
with_first body gate (Err at) = Err at

-- a record more behind, at the present gate
abbrev pub with_last : List ℕ → Result Opened ℕ → Result Opened ℕ
with_last body (Ok o) = Ok (record { bodies = o.bodies ++ body ∷ []; gates = o.gates ++ o.gate ∷ []; gate = o.gate + 5 + length body })
with_last body (Err at) = Err at

-- the record at a gate, and those behind it
abbrev pub and_behind : NextRecord → List ℕ → ℕ → (ℕ → Result Opened ℕ) → Result Opened ℕ
and_behind End file gate behind = Ok (none_from gate)
and_behind (Record size) file gate behind = with_first (take size (drop (gate + 5) file)) gate (behind (gate + 5 + size))
and_behind Damaged file gate behind = Err gate

-- the open records from a gate on, at most n of them, or the gate of the first that is not whole
abbrev pub records_from : ℕ → List ℕ → ℕ → Result Opened ℕ
records_from zero file gate = Ok (none_from gate)
records_from (suc n) file gate = and_behind (record_at file gate) file gate (records_from n file)

-- the open records of a file, or the gate of the first that is not whole
unfoldable pub records : List ℕ → Result Opened ℕ
records file = records_from (length file) file 0

-- what stands behind the gate of a record: its length, its body, and the next gate, closed
abbrev pub framed : List ℕ → List ℕ
framed body = number_bytes 4 (length body) ++ body ++ 0 ∷ []
