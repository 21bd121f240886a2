-- The bytes of a log: what entries append behind a place.
use Rattle.std.specs.Prelude.{◌≡◌, ◌<◌, ◌^◌, false, ℕ, ◌+◌, ◌==◌, if◌then◌else◌, List, [], ◌∷◌, ◌++◌, codes, flat_map, replicate, take, None, length}
use Rattle.event_codec.specs.Event.{query, rotate, format_description, xid, Query}
use Rattle.log_entries.specs.declared.entries.Item.{Item}
use Rattle.log_entries.specs.declared.entries.Entry.{Entry}
use Rattle.log_entries.specs.declared.entries.Entry.TheVariants.{Transaction, Definition, LogStart}
use Rattle.std.specs.Str.{bytes_eq}
use Rattle.event_codec.specs.Writing.{size}
use Rattle.log_model.specs.Groups.{start, next_log, ddl, txn, group, group_at}
use Rattle.log_model.specs.Items.{query_of, item_events, AreCarried}
use Rattle.log_model.specs.Written.{Stamped, bytes_of, placed, total, CanWriteAll}

-- ---- events of entries

-- BEGIN, by the thread of the first item
abbrev pub begin_query : (thread : ℕ) → Query
begin_query thread = record { thread = thread; step = None; text = codes "BEGIN" }

-- BEGIN with the first item's timestamp and thread, the items, and XID with the transaction's number at the time of its commit
abbrev pub transaction : (stamp number : ℕ) → List Item → List Stamped
transaction stamp number [] = []
transaction stamp number (i ∷ is) =
    record { stamp = i.carried.stamp; body = query (begin_query i.carried.connection) }
    ∷ (flat_map item_events (i ∷ is) ++ record { stamp = stamp; body = xid number } ∷ [])

-- a CREATE, DROP or TRUNCATE: a QUERY
abbrev pub definition : (stamp : ℕ) → Item → List Stamped
definition stamp i = record { stamp = stamp; body = query (query_of i.text i.carried) } ∷ []

-- the next log is named
abbrev pub rotation : (stamp next : ℕ) → List Stamped
rotation stamp next = record { stamp = stamp; body = rotate next } ∷ []

-- the server's version in 50 bytes
abbrev pub version : List ℕ
version = codes "5.7.44-log" ++ replicate 40 0

abbrev pub magic : List ℕ
magic = 0xfe ∷ 0x62 ∷ 0x69 ∷ 0x6e ∷ []

-- the first event of a log
abbrev pub description : (stamp : ℕ) → List Stamped
description stamp = record { stamp = stamp; body = format_description version } ∷ []

-- how a log begins
abbrev pub head : (stamp server : ℕ) → List ℕ
head stamp server = magic ++ bytes_of server 4 (description stamp)

-- ---- places

-- a place in the log with a number; before the first log the number is 0
pub record LogPlace : Type 0 where
  pub log : ℕ
  pub pos : ℕ

abbrev pub moved : LogPlace → ℕ → LogPlace
moved p count = record { log = p.log; pos = p.pos + count }

-- where a writer stands behind an entry: behind the head of a new log
abbrev pub behind : Entry Item → (number : ℕ) → LogPlace → LogPlace
behind (Transaction stamp server is) number p = moved p (total (transaction stamp (number + 1) is))
behind (Definition stamp server i) number p = moved p (total (definition stamp i))
behind (LogStart stamp server) number p = record { log = p.log + 1; pos = 123 }

-- how many transactions there are behind it, definitions among them
abbrev pub counted : Entry Item → ℕ → ℕ
counted (Transaction stamp server is) number = number + 1
counted (Definition stamp server i) number = number + 1
counted (LogStart stamp server) number = number

-- where a reader stands behind an entry: at the first event of a new log
abbrev pub read_to : Entry Item → (number : ℕ) → LogPlace → LogPlace
read_to (Transaction stamp server is) number p = behind (Transaction stamp server is) number p
read_to (Definition stamp server i) number p = behind (Definition stamp server i) number p
read_to (LogStart stamp server) number p = record { log = p.log + 1; pos = 4 }

-- ---- bytes

-- a log begins: the log that stands before it ends with its name, and its own head follows
abbrev pub start_bytes : (stamp server : ℕ) → LogPlace → List ℕ
start_bytes stamp server p =
    (if p.log == 0 then [] else bytes_of server p.pos (rotation stamp (p.log + 1))) ++ head stamp server

-- the bytes of an entry behind a place, where so many transactions stand before it
abbrev pub entry_bytes : Entry Item → (number : ℕ) → LogPlace → List ℕ
entry_bytes (Transaction stamp server is) number p = bytes_of server p.pos (transaction stamp (number + 1) is)
entry_bytes (Definition stamp server i) number p = bytes_of server p.pos (definition stamp i)
entry_bytes (LogStart stamp server) number p = start_bytes stamp server p

-- those of entries, one after the other
abbrev pub log : List (Entry Item) → (number : ℕ) → LogPlace → List ℕ
log [] number p = []
log (e ∷ es) number p = entry_bytes e number p ++ log es (counted e number) (behind e number p)

-- where a writer stands behind entries
abbrev pub written_to : List (Entry Item) → (number : ℕ) → LogPlace → LogPlace
written_to [] number p = p
written_to (e ∷ es) number p = written_to es (counted e number) (behind e number p)

-- how many transactions there are behind entries
abbrev pub counted_all : List (Entry Item) → ℕ → ℕ
counted_all [] number = number
counted_all (e ∷ es) number = counted_all es (counted e number)

-- where a reader stands behind entries, who begins at a place
abbrev pub end_from : LogPlace → List (Entry Item) → (number : ℕ) → LogPlace → LogPlace
end_from reader [] number p = reader
end_from reader (e ∷ es) number p = end_from (read_to e number p) es (counted e number) (behind e number p)

-- and behind the first so many of them
abbrev pub end : LogPlace → List (Entry Item) → (count number : ℕ) → LogPlace → LogPlace
end reader es count number p = end_from reader (take count es) number p

-- ---- laws

-- a transaction that is logged is read as one, whatever follows it
abbrev pub TransactionIsOneGroup : Type 0
TransactionIsOneGroup =
    (stamp number server pos : ℕ) (i : Item) (is : List Item) (rest : List ℕ) → AreCarried (i ∷ is) → CanWriteAll pos (transaction stamp number (i ∷ is))
    → group_at (record { bytes = bytes_of server pos (transaction stamp number (i ∷ is)) ++ rest; pos = pos })
    ≡ group (record {
      form = txn (record {
        stamp = i.carried.stamp;
        size = size (query (begin_query i.carried.connection));
        query = begin_query i.carried.connection;
      }) (placed (pos + size (query (begin_query i.carried.connection))) (flat_map item_events (i ∷ is))) number;
      begin = pos;
      end = pos + total (transaction stamp number (i ∷ is));
    })

-- and so is a definition, whose text is not BEGIN
abbrev pub DefinitionIsOneGroup : Type 0
DefinitionIsOneGroup =
    (stamp server pos : ℕ) (i : Item) (rest : List ℕ) → bytes_eq i.text (codes "BEGIN") ≡ false → CanWriteAll pos (definition stamp i)
    → group_at (record { bytes = bytes_of server pos (definition stamp i) ++ rest; pos = pos })
    ≡ group (record {
      form = ddl (record { stamp = stamp; size = size (query (query_of i.text i.carried)); query = query_of i.text i.carried });
      begin = pos;
      end = pos + total (definition stamp i);
    })

-- entries behind others are logged behind what those append
abbrev pub LogGoesOn : Type 0
LogGoesOn = (front back : List (Entry Item)) (number : ℕ) (p : LogPlace)
    → log (front ++ back) number p ≡ log front number p ++ log back (counted_all front number) (written_to front number p)

-- a transaction or a definition moves a place by the bytes that it appends
abbrev pub EntriesHaveLength : Type 0
EntriesHaveLength =
    ((stamp server number : ℕ) (is : List Item) (p : LogPlace)
    → behind (Transaction stamp server is) number p ≡ moved p (length (entry_bytes (Transaction stamp server is) number p)))
    × ((stamp server number : ℕ) (i : Item) (p : LogPlace)
    → behind (Definition stamp server i) number p ≡ moved p (length (entry_bytes (Definition stamp server i) number p)))

-- a head has 123 bytes, behind which a writer stands
abbrev pub HeadsHaveLength : Type 0
HeadsHaveLength = (stamp server : ℕ) → length (head stamp server) ≡ 123

-- the first event of a log is read as its start, and the name of the next log as that
abbrev pub LogStartIsRead : Type 0
LogStartIsRead =
    ((stamp server : ℕ) (rest : List ℕ) → stamp < 2 ^ 32
    → group_at (record { bytes = bytes_of server 4 (description stamp) ++ rest; pos = 4 }) ≡ group (record { form = start; begin = 4; end = 123 }))
    × ((stamp next server pos : ℕ) (rest : List ℕ) → CanWriteAll pos (rotation stamp next)
    → group_at (record { bytes = bytes_of server pos (rotation stamp next) ++ rest; pos = pos })
    ≡ group (record { form = next_log next; begin = pos; end = pos + 40 }))
