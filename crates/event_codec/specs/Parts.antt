-- Parts of a body: each gives what was read and the bytes behind it, or what is wrong.
use Rattle.std.specs.Prelude.{ℕ, Bool, nat_lt, if◌then◌else◌, List, length, take, drop, Result, Ok, Err}
use denote.Ref.{Bor}
use Rattle.byte_fields.specs.declared.refusal.LenRefusal.{LenRefusal}
use Rattle.byte_fields.specs.Field.{number_at}
use Rattle.byte_fields.specs.LengthEncoded.{lenenc_at}
use Rattle.val_types.specs.declared.value.Value.{Value}
use Rattle.event_codec.specs.declared.event.VarValue.{VarValue}
use Rattle.event_codec.specs.declared.fault.Fault.{Fault}
use Rattle.event_codec.specs.declared.fault.Fault.TheVariants.{Damaged, Foreign}
use Rattle.event_codec.specs.Event.{value_of}

infixl 10 ◌>>=◌
-- goes on with what was read, or stops at what is wrong
abbrev pub ◌>>=◌ : {A B : Type 0} → Result A Fault → (A → Result B Fault) → Result B Fault
(Ok x) >>= f = f x
(Err fault) >>= f = Err fault

-- goes on where a part has its form
abbrev pub formed : {A : Type 0} → Bool → Result A Fault → Result A Fault
formed good next = if good then next else Err Damaged

-- goes on where a value is one that this log knows
abbrev pub known : {A : Type 0} → Bool → Result A Fault → Result A Fault
known good next = if good then next else Err Foreign

-- a number of so many bytes
abbrev pub number : ℕ → List ℕ → Result (ℕ × List ℕ) Fault
number count bytes = if nat_lt (length bytes) count then Err Damaged else Ok (number_at 0 count bytes, drop count bytes)

-- so many bytes
abbrev pub part : ℕ → List ℕ → Result (List ℕ × List ℕ) Fault
part count bytes = if nat_lt (length bytes) count then Err Damaged else Ok (take count bytes, drop count bytes)

-- a byte of length, and so many bytes
unfoldable pub text : List ℕ → Result (List ℕ × List ℕ) Fault
text bytes = number 1 bytes >>= λ n. part n.0 n.1

-- a length-encoded integer
abbrev pub lenenc_from : List ℕ → Result (ℕ × ℕ) LenRefusal → Result (ℕ × List ℕ) Fault
lenenc_from bytes (Ok x) = Ok (x.0, drop x.1 bytes)
lenenc_from bytes (Err refusal) = Err Damaged

abbrev pub lenenc : List ℕ → Result (ℕ × List ℕ) Fault
lenenc bytes = lenenc_from bytes (lenenc_at bytes 0)

-- parts of the code as plain data
abbrev pub number_seen : Result (ℕ × Bor (List ℕ)) Fault → Result (ℕ × List ℕ) Fault
number_seen (Ok x) = Ok (x.0, x.1.now)
number_seen (Err fault) = Err fault

abbrev pub bytes_seen : Result (Bor (List ℕ) × Bor (List ℕ)) Fault → Result (List ℕ × List ℕ) Fault
bytes_seen (Ok x) = Ok (x.0.now, x.1.now)
bytes_seen (Err fault) = Err fault

abbrev pub flag_seen : Result (Bool × Bor (List ℕ)) Fault → Result (Bool × List ℕ) Fault
flag_seen (Ok x) = Ok (x.0, x.1.now)
flag_seen (Err fault) = Err fault

abbrev pub value_seen : Result VarValue Fault → Result Value Fault
value_seen (Ok v) = Ok (value_of v)
value_seen (Err fault) = Err fault
