-- What a source's store holds behind an entry, and the record that it writes for it.
use Rattle.std.specs.Prelude.{◌≡◌, ◌≤◌, ◌<◌, ℕ, ◌+◌, ◌==◌, true, if◌then◌else◌, List, [], ◌∷◌, ◌++◌, length, map, flat_map, Option, Some}
use Rattle.std.specs.Option.{option_map, option_and_then}
use Rattle.val_types.specs.declared.change.Change.{Change}
use Rattle.sql_reach.specs.Reach.{is_definition}
use Rattle.sql_tree.specs.Statement.{Statement}
use Rattle.sql_reach.specs.catalog_rules.Bases.{Base, defined}
use Rattle.text_answers.specs.Answers.{a_statement, text_answer}
use Rattle.binlog_sizes.specs.log_entries.declared.entries.Item.{Item}
use Rattle.binlog_sizes.specs.log_entries.declared.entries.Entry.{Entry}
use Rattle.binlog_sizes.specs.log_entries.declared.entries.Entry.TheVariants.{Transaction, Definition, LogStart}
use Rattle.binlog_sizes.specs.log_entries.Entries.{entry_applied}
use Rattle.binlog_sizes.specs.log_model.Log.{LogPlace, behind, counted}
use Rattle.store_model.specs.declared.record.Head.{Head}
use Rattle.store_model.specs.declared.record.Record.{Record}
use Rattle.store_model.specs.declared.record.Record.TheVariants as records
use Rattle.store_model.specs.Held.{LogEnd, Held, last_end, with_last_end, most_committed, most_logs, latest_end, latest_old_end}

-- where a source writes: behind its last log, or before the first
abbrev pub writer_at : Held → LogPlace
writer_at h = record { log = length h.ends; pos = last_end h.ends }

-- where the log before a new one ends: behind the new one's name, which has 40 bytes; 0 where there is none before it
abbrev pub old_end : LogPlace → ℕ
old_end p = if p.log == 0 then 0 else p.pos + 40

-- the ends of logs behind an entry
abbrev pub ends_behind : Entry Item → (number : ℕ) → Held → List LogEnd
ends_behind (Transaction stamp server is) number h = with_last_end (behind (Transaction stamp server is) number (writer_at h)).pos h.ends
ends_behind (Definition stamp server i) number h = with_last_end (behind (Definition stamp server i) number (writer_at h)).pos h.ends
ends_behind (LogStart stamp server) number h =
    with_last_end (old_end (writer_at h)) h.ends ++ record { pos = (behind (LogStart stamp server) number (writer_at h)).pos } ∷ []

-- ---- the record of an entry

abbrev pub head_behind : Entry Item → (number : ℕ) → LogPlace → Head
head_behind e number p = record { number = counted e number; log = (behind e number p).log; pos = (behind e number p).pos }

abbrev pub changes_of_items : List Item → List Change
changes_of_items items = flat_map (λ (i : Item). i.changes) items

-- the record that a source writes for an entry, behind so many transactions and at a place
abbrev pub record_of_entry : Entry Item → (number : ℕ) → LogPlace → Record
record_of_entry (Transaction stamp server is) number p = records.Transaction (head_behind (Transaction stamp server is) number p) (changes_of_items is)
record_of_entry (Definition stamp server i) number p = records.Definition (head_behind (Definition stamp server i) number p) i.text
record_of_entry (LogStart stamp server) number p = records.LogStart (head_behind (LogStart stamp server) number p) (old_end p)

-- the entry is within what a source's store may have
abbrev pub IsWithin : Entry Item → Held → Type 0
IsWithin (Transaction stamp server is) h =
    (h.number < most_committed) × ((0 < length h.ends) × ((behind (Transaction stamp server is) h.number (writer_at h)).pos ≤ latest_end))
IsWithin (Definition stamp server i) h =
    (h.number < most_committed) × ((0 < length h.ends) × ((behind (Definition stamp server i) h.number (writer_at h)).pos ≤ latest_end))
IsWithin (LogStart stamp server) h = (h.number ≤ most_committed) × ((length h.ends < most_logs) × (last_end h.ends + 40 ≤ latest_old_end))

-- ---- entries of items of any type

-- an entry, by what is kept of an item
abbrev pub entry_of : {I : Type 0} → (I → Item) → Entry I → Entry Item
entry_of kept (Transaction stamp server items) = Transaction stamp server (map kept items)
entry_of kept (Definition stamp server i) = Definition stamp server (kept i)
entry_of kept (LogStart stamp server) = LogStart stamp server

-- by what is kept of an item, by its changes, and by what one that is a definition makes of a base
module _ {I : Type 0} (kept : I → Item) (changes_of : I → List Change) (define : I → Base → Option Base) where
  abbrev pub held_behind : Entry I → Held → Base → Held
  held_behind e h base = record {
    base = base;
    number = counted (entry_of kept e) h.number;
    ends = ends_behind (entry_of kept e) h.number h;
    place = h.place;
  }

  -- what a source's store holds behind entries, None where one cannot be made
  abbrev pub held_after : List (Entry I) → Held → Option Held
  held_after [] h = Some h
  held_after (e ∷ es) h = option_and_then (held_after es) (option_map (held_behind e h) (entry_applied changes_of define e h.base))

  -- What is kept says it: the changes of an item are those that are kept of it, and the text that is kept of a definition reads as the
  -- statement that makes of each base what it made.
  pub record Says (i : I) : Type 0 where
    pub tree : Statement
    pub text : text_answer (kept i).text ≡ a_statement tree
    pub is : is_definition tree ≡ true
    pub makes : (base : Base) → define i base ≡ defined tree base

  abbrev pub KeptSays : Entry I → Type 0
  KeptSays (Transaction stamp server items) = flat_map changes_of items ≡ changes_of_items (map kept items)
  KeptSays (Definition stamp server i) = Says i
  KeptSays (LogStart stamp server) = Unit {0}
