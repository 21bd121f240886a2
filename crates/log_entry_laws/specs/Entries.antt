-- The group that an entry is read as, and which entries can be logged at a place.
use Rattle.std.specs.Prelude.{◌≡◌, ◌<◌, ◌≤◌, ◌^◌, ℕ, ◌+◌, false, List, [], ◌∷◌, codes, flat_map, length}
use Rattle.std.specs.Str.{bytes_eq}
use Rattle.event_codec.specs.Event.{query}
use Rattle.event_codec.specs.Writing.{size}
use Rattle.log_model.specs.log_entries.declared.entries.Item.{Item}
use Rattle.log_model.specs.log_entries.declared.entries.Entry.{Entry}
use Rattle.log_model.specs.log_entries.declared.entries.Entry.TheVariants.{Transaction, Definition, LogStart}
use Rattle.log_model.specs.Groups.{Form, start, ddl, txn, Group}
use Rattle.log_model.specs.Items.{query_of, item_events, AreCarried}
use Rattle.log_model.specs.Log.{LogPlace, begin_query, transaction, definition, behind, counted}
use Rattle.log_model.specs.Written.{placed, total, CanWriteAll}
use Rattle.log_entry_laws.specs.Ids.{AllSayIds}

-- ---- groups of entries

-- the first event of a log, from 4 to 123
abbrev pub start_group : Group
start_group = record { form = start; begin = 4; end = 123 }

-- a transaction with a number, from a place on; one of no items is never logged, and has any form here
abbrev pub transaction_form : (number pos : ℕ) → List Item → Form
transaction_form number pos [] = start
transaction_form number pos (i ∷ is) =
    txn (record {
      stamp = i.carried.stamp;
      size = size (query (begin_query i.carried.connection));
      query = begin_query i.carried.connection;
    }) (placed (pos + size (query (begin_query i.carried.connection))) (flat_map item_events (i ∷ is))) number

-- a CREATE, DROP or TRUNCATE
abbrev pub definition_form : (stamp : ℕ) → Item → Form
definition_form stamp i = ddl (record { stamp = stamp; size = size (query (query_of i.text i.carried)); query = query_of i.text i.carried })

-- the group that an entry is read as, where so many transactions stand before it; a log's start is that of the new log
abbrev pub group_of_entry : Entry Item → (number : ℕ) → LogPlace → Group
group_of_entry (Transaction stamp server is) number p = record {
  form = transaction_form (number + 1) p.pos is;
  begin = p.pos;
  end = p.pos + total (transaction stamp (number + 1) is);
}
group_of_entry (Definition stamp server i) number p = record {
  form = definition_form stamp i;
  begin = p.pos;
  end = p.pos + total (definition stamp i);
}
group_of_entry (LogStart stamp server) number p = start_group

-- ---- what can be logged

-- a transaction or a definition, which goes on with the log that it stands in
abbrev pub StaysInLog : Entry Item → Type 0
StaysInLog (Transaction stamp server is) = Unit {0}
StaysInLog (Definition stamp server i) = Unit {0}
StaysInLog (LogStart stamp server) = ⊥

-- an entry that can be written at a place and is read again: a transaction has items, whose ids a log can say, and no definition
-- reads BEGIN
abbrev pub CanLog : Entry Item → (number : ℕ) → LogPlace → Type 0
CanLog (Transaction stamp server is) number p =
    (1 ≤ length is) × AreCarried is × CanWriteAll p.pos (transaction stamp (number + 1) is) × AllSayIds is
CanLog (Definition stamp server i) number p = CanWriteAll p.pos (definition stamp i) × (bytes_eq i.text (codes "BEGIN") ≡ false)
CanLog (LogStart stamp server) number p = stamp < 2 ^ 32

-- each can be, behind the ones before it
abbrev pub CanLogAll : List (Entry Item) → (number : ℕ) → LogPlace → Type 0
CanLogAll [] number p = Unit {0}
CanLogAll (e ∷ es) number p = CanLog e number p × CanLogAll es (counted e number) (behind e number p)
