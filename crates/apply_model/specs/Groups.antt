-- What an applier makes of a group of a log: a base and counters, or where it stops, which leaves them as they were.
use Rattle.std.specs.Prelude.{ℕ, ◌+◌, ◌||◌, nat_lt, Bool, true, false, if◌then◌else◌, List, [], ◌∷◌, ◌++◌, Option, Some, None, Result, Ok, Err, pos}
use Rattle.val_types.specs.declared.change.Change.{Change}
use Rattle.auto_inc.specs.declared.counters.Counter.{Counter}
use Rattle.event_codec.specs.declared.event.IntVarKind.{IntVarKind}
use Rattle.event_codec.specs.declared.event.IntVarKind.TheVariants.{LastInsertId, InsertId}
use Rattle.event_codec.specs.Event.{Body, query, rotate, int_var, rand, user_var, format_description, xid, table_map, rows, Query, Map, Rows}
use Rattle.port_traits.specs.declared.identity.Identity.{Identity}
use Rattle.port_traits.specs.declared.identity.Draw.{Draw}
use Rattle.sql_tree.specs.Statement.{Statement as Tree}
use Rattle.session_ctx.specs.catalog_rules.Bases.{Base, defined}
use Rattle.session_ctx.specs.catalog_rules.Creating.{ddl_refusal}
use Rattle.binlog_sizes.specs.log_entries.Variables.{variable_set}
use Rattle.binlog_sizes.specs.log_model.Events.{Placed}
use Rattle.binlog_sizes.specs.log_model.Groups.{Form, start, next_log, ddl, txn, Group, find}
use Rattle.binlog_sizes.specs.log_model.Images.{changes_of}
use Rattle.binlog_sizes.specs.Sizes.{changes_size, most_bytes}
use Rattle.sql_reach.specs.Defining.{counters_after}
use Rattle.sql_reach.specs.Reach.{is_definition}
use Rattle.apply_model.specs.Stops.{Differs, stop_at}
use Rattle.apply_model.specs.Rows.{Store, carry_change}
use Rattle.apply_model.specs.Texts.{Needs, no_needs, carried_of, Applier, Progress, carry_text, statement_in, stops_at}

-- ---- a transaction under way

-- What it has come to; how many bytes the events of its items have; and of the item under way the variables, the maps and the place
-- of its first rows.
pub record Going : Type 0 where
  pub progress : Progress
  pub bytes : ℕ
  pub needs : Needs
  pub maps : List Map
  pub begun : Option ℕ

abbrev pub going_from : Store → Going
going_from store = record { progress = record { store = store; changes = [] }; bytes = 0; needs = no_needs; maps = []; begun = None }

-- one more event
abbrev pub with_bytes : ℕ → Going → Going
with_bytes n g = record g { bytes = g.bytes + n }

-- the end of an item at a place: 1197 where the items' events or the changes have too many bytes
abbrev pub is_too_large : Going → Bool
is_too_large g = nat_lt most_bytes g.bytes || nat_lt most_bytes (changes_size g.progress.changes)

abbrev pub item_ended : (place : ℕ) → Going → Result Going Differs
item_ended place g =
    if is_too_large g then Err (stop_at place 1197)
    else Ok (record { progress = g.progress; bytes = g.bytes; needs = no_needs; maps = []; begun = None })

-- ---- rows

abbrev pub with_store : Change → Store → Progress → Progress
with_store c s p = record { store = s; changes = p.changes ++ c ∷ [] }

abbrev pub and_then : {A B : Type 0} → (A → Result B Differs) → Result A Differs → Result B Differs
and_then more (Ok a) = more a
and_then more (Err stop) = Err stop

-- changes one after the other, each as it is
abbrev pub carry_changes : (place : ℕ) → Map → List Change → Progress → Result Progress Differs
carry_changes place m [] p = Ok p
carry_changes place m (c ∷ cs) p = and_then (λ s. carry_changes place m cs (with_store c s p)) (carry_change place m c p.store)

-- rows end their item, or go on
abbrev pub rows_ended : (ends : Bool) → (first : ℕ) → Going → Result Going Differs
rows_ended true first g = item_ended first g
rows_ended false first g = Ok (record g { begun = Some first })

abbrev pub first_place : ℕ → Option ℕ → ℕ
first_place place None = place
first_place place (Some first) = first

abbrev pub carry_rows : (place : ℕ) → Rows → Going → Option Map → Result Going Differs
carry_rows place r g None = Ok g
carry_rows place r g (Some m) =
    and_then (λ p. rows_ended r.ends (first_place place g.begun) (record g { progress = p })) (carry_changes place m (changes_of m r) g.progress)

-- ---- one event

abbrev pub with_number : IntVarKind → ℕ → Needs → Needs
with_number LastInsertId n needs = record needs { last_id = Some (pos n) }
with_number InsertId n needs = record needs { first = Some (pos n) }

abbrev pub with_needs : Needs → Going → Going
with_needs needs g = record g { needs = needs }

abbrev pub text_ended : (place : ℕ) → Going → Progress → Result Going Differs
text_ended place g p = item_ended place (record g { progress = p })

-- a text runs with the variables before it, and with nothing of the items before
abbrev pub carry_query : Applier → Placed → Going → Query → Result Going Differs
carry_query a e g q =
    and_then (text_ended e.pos g) (stops_at e.pos (carry_text a q.text (carried_of e.event.stamp q g.needs) g.progress))

abbrev pub event_carried : Applier → Placed → Going → Body → Result Going Differs
event_carried a e g (query q) = carry_query a e g q
event_carried a e g (int_var kind n) = Ok (with_needs (with_number kind n g.needs) g)
event_carried a e g (rand x y) = Ok (with_needs (record (g.needs) { seeds = Some (x, y) }) g)
event_carried a e g (user_var name content) = Ok (with_needs (record (g.needs) { vars = variable_set g.needs.vars name content }) g)
event_carried a e g (table_map m) = Ok (record g { maps = g.maps ++ m ∷ [] })
event_carried a e g (rows r) = carry_rows e.pos r g (find r.id g.maps)
event_carried a e g (rotate next) = Ok g
event_carried a e g (format_description version) = Ok g
event_carried a e g (xid n) = Ok g

-- the events of a transaction's items, one after the other
abbrev pub items_carried : Applier → List Placed → Going → Result Going Differs
items_carried a [] g = Ok g
items_carried a (e ∷ es) g = and_then (items_carried a es) (event_carried a e (with_bytes e.event.size g) e.event.body)

-- ---- a group

-- What stands behind a group: a base and its counters.
pub record Applied : Type 0 where
  pub base : Base
  pub counters : List Counter

abbrev pub applied_by : Base → Going → Applied
applied_by base g = record { base = record base { tables = g.progress.store.tables }; counters = g.progress.store.counters }

-- a definition: 30005 for any other text, then the checks of definitions
abbrev pub define_if : Base → List Counter → Tree → Option ℕ → Option Base → Result Applied ℕ
define_if base counters s (Some code) made = Err code
define_if base counters s None None = Err 30005
define_if base counters s None (Some made) = Ok (record { base = made; counters = counters_after s counters })

abbrev pub define_allowed : Base → List Counter → Result Tree ℕ → Result Applied ℕ
define_allowed base counters (Err code) = Err code
define_allowed base counters (Ok s) =
    if is_definition s then define_if base counters s (ddl_refusal base.catalog s) (defined s base) else Err 30005

abbrev pub applier_of : Identity → Draw → Base → Applier
applier_of identity draw base = record { identity = identity; draw = draw; catalog = base.catalog }

abbrev pub store_of : Base → List Counter → Store
store_of base counters = record { tables = base.tables; counters = counters }

abbrev pub form_carried : Identity → Draw → Base → List Counter → (place : ℕ) → Form → Result Applied Differs
form_carried identity draw base counters place start = Ok (record { base = base; counters = counters })
form_carried identity draw base counters place (next_log next) = Ok (record { base = base; counters = counters })
form_carried identity draw base counters place (ddl s) = stops_at place (define_allowed base counters (statement_in s.query.text))
form_carried identity draw base counters place (txn opening items number) =
    and_then (λ g. Ok (applied_by base g)) (items_carried (applier_of identity draw base) items (going_from (store_of base counters)))

-- the group carried out by a replica with an identity and a draw
unfoldable pub group_carried : Identity → Draw → Base → List Counter → Group → Result Applied Differs
group_carried identity draw base counters g = form_carried identity draw base counters g.begin g.form
