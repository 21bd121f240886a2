-- What a store holds, and what a record makes of it.
use Rattle.std.specs.Prelude.{ℕ, ◌+◌, ◌-◌, ◌^◌, ◌==◌, ◌&&◌, ◌||◌, nat_le, nat_lt, Bool, min, if◌then◌else◌, List, [], ◌∷◌, ◌++◌, length, Option, Some, None}
use Rattle.std.specs.Option.{option_map, option_and_then}
use Rattle.val_types.specs.declared.change.Change.{Change}
use Rattle.table_rules.specs.Stored.{all_applied}
use Rattle.sql_tree.specs.Statement.{Statement}
use Rattle.sql_reach.specs.catalog_rules.Bases.{Base, empty_base, defined}
use Rattle.sql_reach.specs.Reach.{is_definition}
use Rattle.text_answers.specs.Answers.{TextAnswer, a_statement, a_syntax_error, too_deep, text_answer}
use Rattle.binlog_sizes.specs.log_entries.Entries.{with_tables}
use Rattle.binlog_sizes.specs.log_model.Log.{LogPlace}
use Rattle.store_model.specs.declared.record.Kind.{Kind}
use Rattle.store_model.specs.declared.record.Head.{Head}
use Rattle.store_model.specs.declared.record.Record.{Record}
use Rattle.store_model.specs.declared.record.Record.TheVariants.{Transaction, Definition, LogStart, TransactionApplied, DefinitionApplied, PlaceMoved}
use Rattle.store_model.specs.Bodies.{record_of}

-- where a log of a source ends
pub record LogEnd : Type 0 where
  pub pos : ℕ

-- Catalog and tables; how many transactions were committed, or carried out; the ends of a source's logs, from the first on; the place up
-- to which a replica has carried out its source's logs. A source moves no place, and a replica has no ends.
pub record Held : Type 0 where
  pub base : Base
  pub number : ℕ
  pub ends : List LogEnd
  pub place : LogPlace

-- the place at which a replica begins: the first event of the first log
abbrev pub first_read : LogPlace
first_read = record { log = 1; pos = 4 }

-- nothing
abbrev pub nothing_held : Held
nothing_held = record { base = empty_base; number = 0; ends = []; place = first_read }

-- ---- the ends of logs

-- where the last log ends, 0 where there is none
abbrev pub last_end : List LogEnd → ℕ
last_end [] = 0
last_end (e ∷ []) = e.pos
last_end (e ∷ f ∷ ends) = last_end (f ∷ ends)

-- the last log ends elsewhere
abbrev pub with_last_end : (pos : ℕ) → List LogEnd → List LogEnd
with_last_end pos [] = []
with_last_end pos (e ∷ []) = record e { pos = pos } ∷ []
with_last_end pos (e ∷ f ∷ ends) = e ∷ with_last_end pos (f ∷ ends)

-- how many transactions a source has at the most, how many logs, and where its last log and the others end at the latest
abbrev pub most_committed : ℕ
most_committed = 2 ^ 32 - 1

abbrev pub most_logs : ℕ
most_logs = 60000

abbrev pub latest_end : ℕ
latest_end = 1150000000

abbrev pub latest_old_end : ℕ
latest_old_end = 1150000040

-- ---- commits of a source

-- a head has the number behind the last one, and speaks of the last log
abbrev pub is_next_commit : Head → Held → Bool
is_next_commit head h =
    head.number == h.number + 1 && nat_le head.number most_committed
    && nat_lt 0 head.log && head.log == length h.ends && nat_le head.pos latest_end

-- a base, with the number of a head and the end that it gives for the last log
abbrev pub committed : Head → Held → Base → Held
committed head h base = record { base = base; number = head.number; ends = with_last_end head.pos h.ends; place = h.place }

-- a head has the last number, and speaks of the next log; the log before it ends there, and the first has none before it
abbrev pub begins_log : Head → (old_end : ℕ) → Held → Bool
begins_log head old_end h =
    head.number == h.number && nat_le head.number most_committed
    && head.log == length h.ends + 1 && nat_le head.log most_logs && nat_le head.pos latest_end
    && nat_le old_end latest_old_end && (nat_lt 0 (length h.ends) || old_end == 0)

abbrev pub log_begun : Head → (old_end : ℕ) → Held → Held
log_begun head old_end h =
    record h { ends = with_last_end old_end h.ends ++ record { pos = head.pos } ∷ [] }

-- ---- steps of a replica

-- the number behind another; behind the greatest of 64 bits it is that again
abbrev pub next_applied : ℕ → ℕ
next_applied n = min (n + 1) (2 ^ 64 - 1)

-- a base, with the number and the place of a head
abbrev pub carried_out : Head → Held → Base → Held
carried_out head h base = record { base = base; number = head.number; ends = h.ends; place = record { log = head.log; pos = head.pos } }

-- ---- what records make of a store

-- changes that can be made, one after the other
abbrev pub changed : List Change → Base → Option Base
changed cs base = option_map (with_tables base) (all_applied cs base.tables)

-- a CREATE, DROP or TRUNCATE that an answer is
abbrev pub definition_in : TextAnswer → Option Statement
definition_in (a_statement s) = if is_definition s then Some s else None
definition_in (a_syntax_error at) = None
definition_in too_deep = None

-- a text that reads as one of these, which nothing refuses
abbrev pub defined_by : List ℕ → Base → Option Base
defined_by text base = option_and_then (λ s. defined s base) (definition_in (text_answer text))

-- what is made where a test says so
abbrev pub where_so : {A : Type 0} → Bool → Option A → Option A
where_so test made = if test then made else None

-- what a record makes, None where it cannot be the next
unfoldable pub applied : Record → Held → Option Held
applied (Transaction head cs) h = where_so (is_next_commit head h) (option_map (committed head h) (changed cs h.base))
applied (Definition head text) h = where_so (is_next_commit head h) (option_map (committed head h) (defined_by text h.base))
applied (LogStart head old_end) h = where_so (begins_log head old_end h) (Some (log_begun head old_end h))
applied (TransactionApplied head cs) h = where_so (head.number == next_applied h.number) (option_map (carried_out head h) (changed cs h.base))
applied (DefinitionApplied head text) h = where_so (head.number == next_applied h.number) (option_map (carried_out head h) (defined_by text h.base))
applied (PlaceMoved head) h = where_so (head.number == h.number) (Some (carried_out head h h.base))

-- what the record that a body is makes
abbrev pub body_applied : Kind → List ℕ → Held → Option Held
body_applied kind body h = option_and_then (λ r. applied r h) (record_of kind body)

-- what those of bodies make, one after the other
abbrev pub bodies_applied : Kind → List (List ℕ) → Held → Option Held
bodies_applied kind [] h = Some h
bodies_applied kind (body ∷ bodies) h = option_and_then (bodies_applied kind bodies) (body_applied kind body h)
