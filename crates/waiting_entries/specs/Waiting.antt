-- What entries leave to be written.
use Rattle.std.specs.Prelude.{◌≡◌, ◌≤◌, ◌<◌, ℕ, ◌+◌, ◌^◌, Bool, true, false, List, [], ◌∷◌, ◌++◌, length}
use Rattle.commit_store.specs.store_model.log_entries.declared.entries.Item.{Item}
use Rattle.commit_store.specs.store_model.log_entries.declared.entries.Entry.{Entry}
use Rattle.commit_store.specs.store_model.log_entries.declared.entries.Entry.TheVariants.{Transaction, Definition, LogStart}
use Rattle.commit_store.specs.store_model.log_model.Log.{LogPlace, behind, counted}
use Rattle.commit_store.specs.store_model.declared.record.Kind.TheVariants.{Source}
use Rattle.commit_store.specs.store_model.declared.record.Record.{Record}
use Rattle.commit_store.specs.store_model.Bodies.{IsRecord, body_of}
use Rattle.commit_store.specs.store_model.Entries.{record_of_entry}
use Rattle.commit_store.specs.store_model.Held.{most_committed, most_logs, latest_end, latest_old_end}
use Rattle.commit_store.specs.Next.{prepared_of}
use Rattle.binlog_items.specs.log_entry_laws.Entries.{CanLog}
use Rattle.waiting_entries.specs.Added.{added}
use Rattle.waiting_entries.specs.declared.making.Made.{Made}
use Rattle.waiting_entries.specs.declared.waiting.Waiting.{Waiting}

-- whether an entry counts as a transaction, so that a mark names it
abbrev pub counts : Entry Item → Bool
counts (Transaction stamp server is) = true
counts (Definition stamp server i) = true
counts (LogStart stamp server) = false

-- What an entry leaves to be written, where so many transactions stand before it and a source writes at a place: what it puts behind the log
-- of that place, what it puts into the log behind that one, and its record.
abbrev pub waiting_of : Entry Item → (number : ℕ) → LogPlace → Waiting
waiting_of e number p = record {
  tail = added p.log e number p;
  head = added (p.log + 1) e number p;
  prepared = prepared_of (record_of_entry e number p);
  counts = counts e;
}

-- what entries leave, one after the other
abbrev pub all_waiting : List (Entry Item) → (number : ℕ) → LogPlace → List Waiting
all_waiting [] number p = []
all_waiting (e ∷ es) number p = waiting_of e number p ∷ all_waiting es (counted e number) (behind e number p)

-- a source's record that has a body, whose length four bytes say
pub record HasBody (r : Record) : Type 0 where
  pub form : IsRecord Source r
  pub fits : length (body_of r) < 2 ^ 32

-- the entry is within what a source's store may have, where so many transactions stand before it and it comes at a place
abbrev pub FitsStore : Entry Item → (number : ℕ) → LogPlace → Type 0
FitsStore (Transaction stamp server is) number p =
    (number < most_committed) × ((0 < p.log) × ((behind (Transaction stamp server is) number p).pos ≤ latest_end))
FitsStore (Definition stamp server i) number p =
    (number < most_committed) × ((0 < p.log) × ((behind (Definition stamp server i) number p).pos ≤ latest_end))
FitsStore (LogStart stamp server) number p = (number ≤ most_committed) × ((p.log < most_logs) × (p.pos + 40 ≤ latest_old_end))

-- an entry can be logged where it comes, its record has a body, and a store may have it there
abbrev pub CanWait : Entry Item → (number : ℕ) → LogPlace → Type 0
CanWait e number p = CanLog e number p × (HasBody (record_of_entry e number p) × FitsStore e number p)

-- each can, behind the ones before it
abbrev pub CanWaitAll : List (Entry Item) → (number : ℕ) → LogPlace → Type 0
CanWaitAll [] number p = Unit {0}
CanWaitAll (e ∷ es) number p = CanWait e number p × CanWaitAll es (counted e number) (behind e number p)

-- What was made of an entry before it is committed is what it leaves; it can wait where it comes, and the next one comes at a position
-- of the same log.
pub record Leaves (e : Entry Item) (number : ℕ) (p : LogPlace) (made : Made) : Type 0 where
  pub waiting : made.waiting ≡ waiting_of e number p
  pub can : CanWait e number p
  pub next : behind e number p ≡ record { log = p.log; pos = made.end }

-- what it puts out, into one log and the next
abbrev pub put_out : Waiting → List ℕ
put_out w = w.tail ++ w.head

-- the record of each entry has a body
abbrev pub HaveBodies : List (Entry Item) → (number : ℕ) → LogPlace → Type 0
HaveBodies [] number p = Unit {0}
HaveBodies (e ∷ es) number p = HasBody (record_of_entry e number p) × HaveBodies es (counted e number) (behind e number p)
