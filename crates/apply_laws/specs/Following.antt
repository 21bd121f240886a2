-- When a replica can carry out an entry as its source did.
use Rattle.std.specs.Prelude.{◌≡◌, ℕ, true, false, List, [], ◌∷◌, ◌++◌}
use Rattle.table_rules.specs.Changes.{AreKept}
use Rattle.table_rules.specs.Stores.{definitions_of, names_differ}
use Rattle.val_types.specs.declared.change.Change.{Change}
use Rattle.statement_names.specs.catalog_rules.Bases.{Base, definitions_in}
use Rattle.session_replays.specs.independence_laws.Followed.{is_followed}
use Rattle.log_entry_laws.specs.log_entries.declared.entries.Entry.{Entry}
use Rattle.log_entry_laws.specs.log_entries.declared.entries.Entry.TheVariants.{Transaction, Definition, LogStart}
use Rattle.log_entry_laws.specs.log_model.Log.{LogPlace}
use Rattle.log_entry_laws.specs.Entries.{StaysInLog, CanLog}
use Rattle.session_replays.specs.session_model.Machine.{Whole, kept_entry}
use Rattle.session_replays.specs.session_model.Holding.{changes_of, EntryMade}
use Rattle.session_replays.specs.Again.{Gives, EntryGives}
use Rattle.session_replays.specs.Followed.{EntriesFollow}
use Rattle.session_replays.specs.Texts.{SaysItself, EntriesSay}

-- The tables are those of the catalog, no two have the same name, and they hold what tables have to hold.
pub record BaseHolds (base : Base) : Type 0 where
  pub theirs : definitions_of base.tables ≡ definitions_in base.catalog
  pub names : names_differ (definitions_of base.tables) ≡ true
  pub kept : AreKept base.tables

-- a transaction or a definition, which is carried out as one group
abbrev pub IsGroup : Entry Whole → Type 0
IsGroup e = StaysInLog (kept_entry e)

-- ---- items

-- A text that does at a base, behind the changes before it, what it did at its source: it reads as its tree, this gives its changes
-- there again, and what it does follows from its tables and from what it carries.
pub record TextCanFollow (base : Base) (before : List Change) (i : Whole) : Type 0 where
  pub says : SaysItself i
  pub gives : Gives base before i
  pub follows : is_followed i.began.catalog i.began.tree ≡ true

-- An item that a replica with that base can carry out as its source did: it began with the catalog of that base, and if it is
-- logged by its text, this does there what it did.
pub record ItemCanFollow (base : Base) (before : List Change) (i : Whole) : Type 0 where
  pub catalog : i.began.catalog ≡ base.catalog
  pub text : i.kept.rows ≡ false → TextCanFollow base before i

-- items one after the other, each behind the changes of those before it
abbrev pub AllCanFollow : Base → List Change → List Whole → Type 0
AllCanFollow base before [] = Unit {0}
AllCanFollow base before (i ∷ is) = ItemCanFollow base before i × AllCanFollow base (before ++ changes_of i) is

-- the items of a transaction on the base before it
abbrev pub EntryCanFollow : Base → Entry Whole → Type 0
EntryCanFollow base (Transaction stamp server items) = AllCanFollow base [] items
EntryCanFollow base (Definition stamp server i) = Unit {0}
EntryCanFollow base (LogStart stamp server) = Unit {0}

-- ---- entries

-- An entry that a replica with a base can carry out as its source did, where the log stands at a place: a source made it, it is a group
-- that can be read again, and its items can follow.
pub record CanFollow (base : Base) (e : Entry Whole) (number : ℕ) (p : LogPlace) : Type 0 where
  pub holds : BaseHolds base
  pub made : EntryMade e
  pub items : EntryCanFollow base e
  pub can : CanLog (kept_entry e) number p
  pub group : IsGroup e

-- an entry of a run can, where its statements give its changes, its texts say what they are, and its items are logged by their rows or
-- do the same everywhere
abbrev pub EntriesOfRunsFollow : Type 0
EntriesOfRunsFollow =
    (base : Base) (e : Entry Whole) → EntryGives base e → EntriesSay (e ∷ []) → EntriesFollow (e ∷ []) → EntryCanFollow base e
