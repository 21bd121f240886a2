-- Events by hand.
use Rattle.std.specs.Prelude.{ℕ, List, [], ◌∷◌, ◌++◌, codes}
use Rattle.event_codec.specs.Event.{Map}

-- the header of the first event of a log, of 119 bytes from 4 on
unfoldable pub first_head : List ℕ
first_head =
    0x00 ∷ 0xf1 ∷ 0x53 ∷ 0x65 ∷ 0x0f ∷ 0x01 ∷ 0x00 ∷ 0x00 ∷ 0x00 ∷ 0x77 ∷ 0x00 ∷ 0x00 ∷ 0x00 ∷ 0x7b ∷ 0x00 ∷ 0x00 ∷ 0x00 ∷ 0x00 ∷ 0x00 ∷ []

-- an XID from 226 on
unfoldable pub xid_event : List ℕ
xid_event =
    0x01 ∷ 0xf1 ∷ 0x53 ∷ 0x65 ∷ 0x10 ∷ 0x01 ∷ 0x00 ∷ 0x00 ∷ 0x00 ∷ 0x1b ∷ 0x00 ∷ 0x00 ∷ 0x00 ∷ 0xfd ∷ 0x00 ∷ 0x00 ∷ 0x00 ∷ 0x00 ∷ 0x00
    ∷ 0x01 ∷ 0x00 ∷ 0x00 ∷ 0x00 ∷ 0x00 ∷ 0x00 ∷ 0x00 ∷ 0x00 ∷ []

-- the body of BEGIN by the first thread
unfoldable pub begin_body : List ℕ
begin_body = 1 ∷ 0 ∷ 0 ∷ 0 ∷ 0 ∷ 0 ∷ 0 ∷ 0 ∷ 2 ∷ 0 ∷ 0 ∷ 0 ∷ 0 ∷ (codes "db" ++ (0 ∷ codes "BEGIN"))

-- the body of a statement with increment 10 and offset 20
unfoldable pub step_body : List ℕ
step_body =
    1 ∷ 0 ∷ 0 ∷ 0 ∷ 0 ∷ 0 ∷ 0 ∷ 0 ∷ 2 ∷ 0 ∷ 0 ∷ 5 ∷ 0 ∷ 0x03 ∷ 0x0a ∷ 0x00 ∷ 0x14 ∷ 0x00 ∷ (codes "db" ++ (0 ∷ codes "x"))

-- the map of a table `t` of two INT, of which the second may be NULL
unfoldable pub table_of : ℕ → Map
table_of bits = record { id = 1; name = codes "t"; kinds = 3 ∷ 3 ∷ []; metadata = []; nulls = bits ∷ [] }

-- its body
unfoldable pub table_body : List ℕ
table_body =
    0x01 ∷ 0x00 ∷ 0x00 ∷ 0x00 ∷ 0x00 ∷ 0x00 ∷ 0x00 ∷ 0x00 ∷ 0x02 ∷ 0x64 ∷ 0x62 ∷ 0x00 ∷ 0x01 ∷ 0x74 ∷ 0x00 ∷ 0x02 ∷ 0x03 ∷ 0x03 ∷ 0x00 ∷ 0x02 ∷ []
