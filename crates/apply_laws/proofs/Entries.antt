-- The group of an entry, carried out on the base before it.
use Rattle.std.proofs.Common.{◌≡◌, ℕ, ◌+◌, true, List, [], ◌∷◌, map, Option, Some, None, Result, Ok, refl, ap, ◌∙◌, arith}
use Rattle.std.specs.Prelude.{flat_map, nat_lt}
use Rattle.std.specs.Option.{option_map}
use Rattle.std.proofs.lemmas.Bool.{or_parts, ltb-false}
use Rattle.auto_inc.specs.declared.counters.Counter.{Counter}
use Rattle.port_traits.specs.declared.identity.Identity.{Identity}
use Rattle.port_traits.specs.declared.identity.Draw.{Draw}
use Rattle.table_rules.specs.Tables.{Table}
use Rattle.table_rules.specs.Stored.{all_applied}
use Rattle.table_rules.proofs.Equations.{applied_none}
use Rattle.table_rules.proofs.Storing.{some_same}
use Rattle.sql_tree.specs.Statement.{Statement}
use Rattle.statement_names.specs.catalog_rules.Creating.{ddl_refusal, catalog_after}
use Rattle.statement_names.specs.catalog_rules.Bases.{Base, tables_after, defined}
use Rattle.event_codec.specs.Event.{query}
use Rattle.event_codec.specs.Writing.{size}
use Rattle.log_entry_laws.specs.log_entries.declared.entries.Item.{Item}
use Rattle.log_entry_laws.specs.log_entries.declared.entries.Entry.TheVariants.{Transaction, Definition, LogStart}
use Rattle.log_entry_laws.specs.log_entries.Entries.{with_tables}
use Rattle.log_entry_laws.specs.log_model.Items.{item_events, AreCarried}
use Rattle.log_entry_laws.specs.log_model.Log.{begin_query}
use Rattle.log_entry_laws.specs.log_model.Written.{placed}
use Rattle.log_entry_laws.specs.Ids.{AllSayIds}
use Rattle.apply_model.specs.binlog_sizes.Sizes.{all_sizes, all_changes_size, most_bytes}
use Rattle.statement_names.specs.sql_meaning.Leading.{StatementsEndWell}
use Rattle.statement_names.specs.sql_reach.Defining.{counters_after}
use Rattle.statement_names.specs.sql_reach.Reach.{is_definition}
use Rattle.apply_model.specs.session_ctx.Carrying.{CarriedStandsIn}
use Rattle.session_replays.specs.independence_laws.Laws.{StatementsAreFollowed}
use Rattle.session_replays.specs.session_model.Machine.{Whole, kept_of}
use Rattle.session_replays.specs.session_model.Holding.{changes_in, define, AreOne, IsDefined}
use Rattle.apply_model.specs.Stops.{Differs}
use Rattle.apply_model.specs.Texts.{Progress, statement_in, stops_at}
use Rattle.apply_model.specs.Groups.{Going, Applied, and_then, going_from, items_carried, applied_by, define_if, define_allowed, applier_of, store_of, group_carried}
use Rattle.apply_laws.specs.Following.{BaseHolds, AllCanFollow}
use Rattle.apply_laws.specs.Laws.{EntryIsCarried}
use Rattle.apply_laws.proofs.Texts.{IsBehind, statement_is}
use Rattle.apply_laws.proofs.Transactions.{AllRead, all_read}

-- ---- what is to be shown of a group

-- A base and some counters stand behind a group.
abbrev Leaves : Result Applied Differs → Base → Type 0
Leaves r next = (counters : List Counter) × (r ≡ Ok (record { base = next; counters = counters }))

-- ---- transactions

module _ (identity : Identity) (draw : Draw) (base : Base) (counters : List Counter) (h : BaseHolds base) where
  abbrev begun : Progress
  begun = record { store = store_of base counters; changes = [] }

  behind_nothing : IsBehind base [] begun
  behind_nothing = record { made = applied_none base.tables; changes = refl; stands = record { kept = h.kept; theirs = refl } }

  tables_made : (o : Option (List Table)) (next : Base) → option_map (with_tables base) o ≡ Some next → (tables : List Table) × (o ≡ Some tables) × (with_tables base tables ≡ next)
  tables_made None next e = cc
  tables_made (Some tables) next e = (tables, refl, some_same (with_tables base tables) next e)

  module _ (followed : StatementsAreFollowed) (end_well : StatementsEndWell) (stands_in : CarriedStandsIn) where
    -- what an applier makes of the events of items
    abbrev items_done : (pos : ℕ) → List Whole → Result Applied Differs
    items_done pos items =
        and_then (λ g. Ok (applied_by base g))
        (items_carried (applier_of identity draw base) (placed pos (flat_map item_events (map kept_of items))) (going_from (store_of base counters)))

    read_leaves : (pos : ℕ) (items : List Whole) (tables : List Table) (next : Base) → AllRead followed end_well stands_in identity draw base h pos items begun 0 tables → with_tables base tables ≡ next
        → Leaves (items_done pos items) next
    read_leaves pos items tables next read e = (
      read.progress.store.counters,
      ap (and_then (λ (g : Going). Ok (applied_by base g))) read.carried
          ∙ ap (λ (ts : List Table). Ok (record { base = with_tables base ts; counters = read.progress.store.counters })) read.tables
          ∙ ap (λ (b : Base). Ok (record { base = b; counters = read.progress.store.counters })) e,
    )

    transaction_carried : (items : List Whole) (pos : ℕ) (next : Base) → AreOne items → AllCanFollow base [] items → AreCarried (map kept_of items) → AllSayIds (map kept_of items)
        → option_map (with_tables base) (all_applied (changes_in items) base.tables) ≡ Some next → Leaves (items_done pos items) next
    transaction_carried items pos next one can are ids e =
        let made = tables_made (all_applied (changes_in items) base.tables) next e in
        let kept : List Item = map kept_of items in
        let sizes = or_parts (nat_lt most_bytes (all_sizes kept)) (nat_lt most_bytes (all_changes_size kept)) one.small in
        let bytes = ltb-false most_bytes (all_sizes kept) sizes.0 in
        let changes = ltb-false most_bytes (all_changes_size kept) sizes.1 in
        read_leaves pos items made.0 next
        (all_read followed end_well stands_in identity draw base h items [] pos begun 0 made.0 can one.made are ids behind_nothing made.1 (omega (arith, bytes)) (omega (arith, changes))) made.2

  -- ---- definitions

  define_by : (s : Statement) (o : Option ℕ) (next : Base) → elim o as (λ _. Option Base) [
    | None ↦ Some (record { catalog = catalog_after s base.catalog; tables = tables_after s base.tables })
    | Some code ↦ None
  ] ≡ Some next → o ≡ None
  define_by s None next e = refl
  define_by s (Some code) next e = cc

  defines : (s : Statement) (next : Base) → defined s base ≡ Some next → is_definition s ≡ true
      → define_allowed base counters (Ok s) ≡ Ok (record { base = next; counters = counters_after s counters })
  defines s next e is =
      let free : ddl_refusal base.catalog s ≡ None = define_by s (ddl_refusal base.catalog s) next e in
      rw is (ap (λ (o : Option ℕ). define_if base counters s o (defined s base)) free ∙ ap (define_if base counters s None) e)

  definition_carried : (i : Whole) (place : ℕ) (next : Base) → IsDefined i → define i base ≡ Some next
      → Leaves (stops_at place (define_allowed base counters (statement_in i.kept.text))) next
  definition_carried i place next is e = (
    counters_after i.began.tree counters,
    ap (λ (r : Result Statement ℕ). stops_at place (define_allowed base counters r)) (statement_is i.kept.text i.began.tree is.text is.short)
        ∙ ap (stops_at place) (defines i.began.tree next e is.is),
  )

-- ---- entries

pub entry_is_carried : StatementsAreFollowed → StatementsEndWell → CarriedStandsIn → EntryIsCarried
unfolding group_carried
entry_is_carried followed end_well stands_in identity draw base next counters (Transaction stamp server []) number p c e = absurd (omega (arith, c.made.0))
entry_is_carried followed end_well stands_in identity draw base next counters (Transaction stamp server (i ∷ is)) number p c e =
    transaction_carried identity draw base counters c.holds followed end_well stands_in (i ∷ is) (p.pos + size (query (begin_query i.kept.carried.connection))) next c.made.1 c.items c.can.1 c.can.3 e
entry_is_carried followed end_well stands_in identity draw base next counters (Definition stamp server i) number p c e = definition_carried identity draw base counters c.holds i p.pos next c.made e
entry_is_carried followed end_well stands_in identity draw base next counters (LogStart stamp server) number p c e = absurd c.group
