-- Laws of reading and writing.
use Rattle.std.specs.Prelude.{◌≡◌, ◌<◌, ◌^◌, ◌++◌, ℕ, List, length, IfSome}
use Rattle.std.specs.Prelude.{FitsSigned}
use Rattle.std.specs.Int.{w64}
use Rattle.val_types.specs.declared.value.Value.{Value}
use Rattle.val_types.specs.declared.value.Value.TheVariants.{Null, Int, Text}
use Rattle.event_codec.specs.declared.event.Header.{Header}
use Rattle.event_codec.specs.Event.{Body, query, rotate, int_var, rand, user_var, format_description, xid, table_map, rows}
use Rattle.event_codec.specs.Reading.{reading, event, Within}
use Rattle.event_codec.specs.Writing.{event_bytes, size, CanWrite}

-- an integer has 64 bits
abbrev pub FitsValue : Value → Type 0
FitsValue Null = Unit {0}
FitsValue (Int n) = FitsSigned w64 n
FitsValue (Text bytes) = Unit {0}

-- numbers are within the types that the code has for them
abbrev pub Fits : Body → Type 0
Fits (query q) = (q.thread < 2 ^ 32) × IfSome q.step (λ s. (s.increment < 2 ^ 16) × (s.offset < 2 ^ 16))
Fits (rotate next) = Unit {0}
Fits (int_var kind number) = Unit {0}
Fits (rand first second) = Unit {0}
Fits (user_var name content) = FitsValue content
Fits (format_description version) = Unit {0}
Fits (xid number) = number < 2 ^ 64
Fits (table_map m) = Unit {0}
Fits (rows r) = Unit {0}

-- what is written is read again, whatever follows it
abbrev pub WrittenIsRead : Type 0
WrittenIsRead = (b : Body) (h : Header) (rest : List ℕ) → CanWrite b h.pos → Fits b → h.stamp < 2 ^ 32
    → reading (event_bytes b h ++ rest) h.pos ≡ event (record { stamp = h.stamp; size = size b; body = b })

-- an event takes as many bytes as it says
abbrev pub HasLength : Type 0
HasLength = (b : Body) (h : Header) → length (event_bytes b h) ≡ size b

-- an event lies within its bytes
abbrev pub LiesWithin : Type 0
LiesWithin = (bytes : List ℕ) (pos : ℕ) → Within bytes pos (reading bytes pos)
