-- Events that are written one after the other.
use Rattle.std.specs.Prelude.{◌≡◌, ◌<◌, ◌^◌, ℕ, ◌+◌, List, [], ◌∷◌, ◌++◌, map, codes, length}
use Rattle.event_codec.specs.declared.event.Header.{Header}
use Rattle.event_codec.specs.Event.{Body, Seen, Query, query, xid}
use Rattle.event_codec.specs.Laws.{Fits}
use Rattle.event_codec.specs.Writing.{event_bytes, size, CanWrite}
use Rattle.log_model.specs.Events.{Placed, events_from, stop_from}
use Rattle.log_model.specs.Groups.{txn, group, group_at}
use Rattle.log_model.specs.Spelling.{Spelled, bodies, AreItems}

-- an event to be written: its timestamp and what it says
pub record Stamped : Type 0 where
  pub stamp : ℕ
  pub body : Body

abbrev pub body_of : Stamped → Body
body_of e = e.body

-- as it is read
abbrev pub seen_of : Stamped → Seen
seen_of e = record { stamp = e.stamp; size = size e.body; body = e.body }

abbrev pub header_of : (server pos : ℕ) → Stamped → Header
header_of server pos e = record { stamp = e.stamp; server_id = server; pos = pos }

-- their bytes, from a place on
abbrev pub bytes_of : (server pos : ℕ) → List Stamped → List ℕ
bytes_of server pos [] = []
bytes_of server pos (e ∷ es) = event_bytes e.body (header_of server pos e) ++ bytes_of server (pos + size e.body) es

-- how many bytes they have
abbrev pub total : List Stamped → ℕ
total [] = 0
total (e ∷ es) = size e.body + total es

-- with their places
abbrev pub placed : (pos : ℕ) → List Stamped → List Placed
placed pos [] = []
placed pos (e ∷ es) = record { pos = pos; event = seen_of e } ∷ placed (pos + size e.body) es

-- each can be written at its place
abbrev pub CanWriteAll : (pos : ℕ) → List Stamped → Type 0
CanWriteAll pos [] = Unit {0}
CanWriteAll pos (e ∷ es) = CanWrite e.body pos × Fits e.body × (e.stamp < 2 ^ 32) × CanWriteAll (pos + size e.body) es

-- ---- laws

-- events have as many bytes as they say
abbrev pub EventsHaveLength : Type 0
EventsHaveLength = (server pos : ℕ) (es : List Stamped) → length (bytes_of server pos es) ≡ total es

-- events that are written are read again, whatever follows them
abbrev pub EventsAreReadAgain : Type 0
EventsAreReadAgain = (server pos : ℕ) (es : List Stamped) (rest : List ℕ) → CanWriteAll pos es
    → (events_from (record { bytes = bytes_of server pos es ++ rest; pos = pos })
    ≡ placed pos es ++ events_from (record { bytes = rest; pos = pos + total es }))
    × (stop_from (record { bytes = bytes_of server pos es ++ rest; pos = pos }) ≡ stop_from (record { bytes = rest; pos = pos + total es }))

-- a transaction that is written is read again, whatever follows it: BEGIN, the events of one or more items, XID
abbrev pub TransactionIsReadAgain : Type 0
TransactionIsReadAgain =
    (server pos : ℕ) (opening last : Stamped) (es : List Stamped) (q : Query) (n : ℕ) (i : Spelled) (is : List Spelled) (rest : List ℕ)
    → opening.body ≡ query q → q.text ≡ codes "BEGIN" → map body_of es ≡ bodies (i ∷ is) → AreItems (i ∷ is) → last.body ≡ xid n
    → CanWriteAll pos (opening ∷ es ++ last ∷ [])
    → group_at (record { bytes = bytes_of server pos (opening ∷ es ++ last ∷ []) ++ rest; pos = pos })
    ≡ group (record {
      form = txn (record { stamp = opening.stamp; size = size opening.body; query = q }) (placed (pos + size opening.body) es) n;
      begin = pos;
      end = pos + total (opening ∷ es ++ last ∷ []);
    })
