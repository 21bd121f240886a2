-- The items of a transaction, each by its rows or by its text, carried out one after the other.
use Rattle.std.proofs.Common.{◌≡◌, ℕ, ◌+◌, ◌≤◌, Bool, true, false, List, [], ◌∷◌, ◌++◌, map, Some, Ok, refl, sym, ap, subst, ◌∙◌, arith}
use Rattle.std.specs.Prelude.{flat_map}
use Rattle.std.specs.Option.{option_and_then}
use Rattle.val_types.specs.declared.change.Change.{Change}
use Rattle.val_types.specs.declared.definitions.TableDef.{TableDef}
use Rattle.port_traits.specs.declared.identity.Identity.{Identity}
use Rattle.port_traits.specs.declared.identity.Draw.{Draw}
use Rattle.table_rules.specs.Tables.{Table}
use Rattle.table_rules.specs.Stored.{all_applied}
use Rattle.table_rules.specs.Stores.{definitions_of}
use Rattle.table_rules.proofs.Equations.{applied_none, all_applied_behind}
use Rattle.table_rules.proofs.Storing.{some_same}
use Rattle.statement_names.specs.catalog_rules.Bases.{Base}
use Rattle.statement_names.specs.catalog_rules.Objects.{Object}
use Rattle.log_entry_laws.specs.log_model.Items.{spelled, item_events, item_size, IsCarried, AreCarried}
use Rattle.log_entry_laws.specs.log_model.Spelling.{bodies_of}
use Rattle.log_entry_laws.specs.log_model.Written.{Stamped, placed}
use Rattle.log_entry_laws.specs.Ids.{SaysIds, AllSayIds}
use Rattle.apply_model.specs.binlog_sizes.Sizes.{changes_size, all_sizes, all_changes_size, most_bytes}
use Rattle.statement_names.specs.sql_meaning.Leading.{StatementsEndWell}
use Rattle.apply_model.specs.session_ctx.Carrying.{CarriedStandsIn}
use Rattle.session_replays.specs.independence_laws.Laws.{StatementsAreFollowed}
use Rattle.session_replays.specs.session_model.Running.{definitions_changed}
use Rattle.session_replays.specs.session_model.Machine.{Whole, kept_of}
use Rattle.session_replays.specs.session_model.Holding.{changes_of, changes_in, IsMade, AreMade}
use Rattle.apply_model.specs.Texts.{Progress, Applier}
use Rattle.apply_model.specs.Groups.{items_carried, applier_of}
use Rattle.apply_laws.specs.Following.{BaseHolds, ItemCanFollow, AllCanFollow}
use Rattle.apply_laws.proofs.Columns.{changed_among}
use Rattle.apply_laws.proofs.Changes.{then_some}
use Rattle.apply_laws.proofs.Items.{IsByRows, item_read}
use Rattle.apply_laws.proofs.Steps.{changes_size_both, between, ItemRead}
use Rattle.apply_laws.proofs.Texts.{IsBehind, text_item_read}

module _ (followed : StatementsAreFollowed) (end_well : StatementsEndWell) (stands_in : CarriedStandsIn) (identity : Identity) (draw : Draw) (base : Base) (holds : BaseHolds base) where
  abbrev here : Applier
  here = applier_of identity draw base

  abbrev all : List TableDef
  all = definitions_of base.tables

  -- ---- one item

  -- an item by its rows has those definitions of the base whose tables it changes
  by_rows : (before : List Change) (i : Whole) → ItemCanFollow base before i → IsMade i → i.kept.rows ≡ true → IsByRows all i.kept
  by_rows before i can made e = (
    e,
    made.defs ∙ ap (λ (os : List Object). definitions_changed os i.kept.changes) can.catalog
        ∙ ap (λ (ds : List TableDef). changed_among ds i.kept.changes) (sym holds.theirs),
  )

  -- what stands behind one item
  abbrev OneRead : (i : Whole) (pos : ℕ) (p : Progress) (bytes : ℕ) (next : List Table) (more : List Stamped) → Type 0
  OneRead i pos p bytes next more = ItemRead here all i.kept.carried.stamp pos (bodies_of (spelled i.kept)) (changes_of i) p bytes next more

  module _ (before : List Change) (i : Whole) (pos : ℕ) (p : Progress) (bytes : ℕ) (next : List Table) (more : List Stamped) where
    by_kind : (b : Bool) → i.kept.rows ≡ b → ItemCanFollow base before i → IsMade i → IsCarried i.kept.rows i.kept → SaysIds i.kept.rows i.kept → IsBehind base before p
        → all_applied (changes_of i) p.store.tables ≡ Some next → bytes + item_size i.kept ≤ most_bytes → changes_size (p.changes ++ changes_of i) ≤ most_bytes → OneRead i pos p bytes next more
    by_kind true e can made is ids at applied low few = item_read here all i.kept pos p bytes next more (by_rows before i can made e) is at.stands applied low few
    by_kind false e can made is ids at applied low few =
        text_item_read followed end_well stands_in identity draw base holds before i p next (can.text e) at applied pos bytes more e
        (subst (λ (b : Bool). SaysIds b i.kept) e ids) low few

    one_read : ItemCanFollow base before i → IsMade i → IsCarried i.kept.rows i.kept → SaysIds i.kept.rows i.kept → IsBehind base before p
        → all_applied (changes_of i) p.store.tables ≡ Some next → bytes + item_size i.kept ≤ most_bytes → changes_size (p.changes ++ changes_of i) ≤ most_bytes → OneRead i pos p bytes next more
    one_read can made is ids at applied low few = by_kind i.kept.rows refl can made is ids at applied low few

    -- behind it the base has its changes, too
    behind_one : IsBehind base before p → all_applied (changes_of i) p.store.tables ≡ Some next → (one : OneRead i pos p bytes next more) → IsBehind base (before ++ changes_of i) one.progress
    behind_one at applied one = record {
      made = all_applied_behind before (changes_of i) base.tables ∙ ap (option_and_then (all_applied (changes_of i))) at.made ∙ applied ∙ ap Some (sym one.reaches.tables);
      changes = one.reaches.changes ∙ ap (λ (cs : List Change). cs ++ changes_of i) at.changes;
      stands = one.reaches.stands;
    }

  -- ---- all items

  -- What stands behind all items.
  pub record AllRead (pos : ℕ) (is : List Whole) (p : Progress) (bytes : ℕ) (next : List Table) : Type 0 where
    pub progress : Progress
    pub now : ℕ
    pub carried : items_carried here (placed pos (flat_map item_events (map kept_of is))) (between p bytes) ≡ Ok (between progress now)
    pub tables : progress.store.tables ≡ next

  item_behind : (i : Whole) (is : List Whole) (pos : ℕ) (p : Progress) (bytes : ℕ) (mid next : List Table)
      → (one : OneRead i pos p bytes mid (flat_map item_events (map kept_of is))) → AllRead one.place is one.progress (bytes + item_size i.kept) next
      → AllRead pos (i ∷ is) p bytes next
  item_behind i is pos p bytes mid next one later = record { progress = later.progress; now = later.now; carried = one.carried ∙ later.carried; tables = later.tables }

  pub all_read : (is : List Whole) (before : List Change) (pos : ℕ) (p : Progress) (bytes : ℕ) (next : List Table) → AllCanFollow base before is → AreMade is → AreCarried (map kept_of is)
      → AllSayIds (map kept_of is) → IsBehind base before p → all_applied (changes_in is) p.store.tables ≡ Some next → bytes + all_sizes (map kept_of is) ≤ most_bytes
      → changes_size p.changes + all_changes_size (map kept_of is) ≤ most_bytes → AllRead pos is p bytes next
  all_read [] before pos p bytes next can made are ids at applied low few =
      record { progress = p; now = bytes; carried = refl; tables = some_same p.store.tables next (sym (applied_none p.store.tables) ∙ applied) }
  all_read (i ∷ is) before pos p bytes next can made are ids at applied low few =
      let rest : List Change = changes_in is in
      let more : List Stamped = flat_map item_events (map kept_of is) in
      let mid = then_some (all_applied rest) (all_applied (changes_of i) p.store.tables) next (sym (all_applied_behind (changes_of i) rest p.store.tables) ∙ applied) in
      let sizes = changes_size_both p.changes (changes_of i) in
      let one = one_read before i pos p bytes mid.0 more can.0 made.0 are.0 ids.0 at mid.1 (omega (arith, low)) (omega (arith, sizes, few)) in
      let size_now : changes_size one.progress.changes ≡ changes_size p.changes + changes_size (changes_of i) = ap changes_size one.reaches.changes ∙ sizes in
      item_behind i is pos p bytes mid.0 next one
      (all_read is (before ++ changes_of i) one.place one.progress (bytes + item_size i.kept) next can.1 made.1 are.1 ids.1
      (behind_one before i pos p bytes mid.0 more at mid.1 one) (ap (all_applied rest) one.reaches.tables ∙ mid.2) (omega (arith, low)) (omega (arith, size_now, few)))
