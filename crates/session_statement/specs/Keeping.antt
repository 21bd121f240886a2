-- What is kept of a statement that changed something.
use Rattle.std.specs.Prelude.{ℕ, Bool, true, false, if◌then◌else◌, List, [], ◌∷◌, Option, Some, None, Result, Ok, Err, ℤ}
use Rattle.val_types.specs.declared.change.Change.{Change}
use Rattle.proc_parts.specs.log_entries.declared.entries.Item.{Item}
use Rattle.proc_parts.specs.sql_meaning.Frames.{Context}
use Rattle.sql_tree.specs.Statement.{Statement}
use Rattle.proc_parts.specs.sql_reach.Carrying.{carried}
use Rattle.proc_parts.specs.sql_reach.Reasons.{reasons}
use Rattle.proc_parts.specs.catalog_rules.Objects.{Object}
use Rattle.session_shared.specs.binlog_items.declared.before.Before.{Before}
use Rattle.session_shared.specs.binlog_items.Items.{as_before, statement_item}
use Rattle.session_shared.specs.session_model.Formats.{logs_rows, warns}
use Rattle.session_shared.specs.session_model.Sessions.{Open, Session, Shared}
use Rattle.session_shared.specs.session_model.Running.{Call, Turn, all_committed, kept_entries, kept_open, logged_by, takes_too_much, transaction_of}
use Rattle.session_shared.specs.Desk.{cut_to, own_behind}

-- changes outside a transaction are one by itself; in an open one the session keeps the lock
abbrev pub kept_in : Call Item → Context → Item → Option (Open Item) → Shared → Shared
kept_in call context item None shared = all_committed (logged_by call (transaction_of call context (item ∷ []))) shared
kept_in call context item (Some open') shared = record shared { writer = Some call.number }

-- the changes behind a mark kept as an item, or taken back: whether they were kept
abbrev pub kept_if : Bool → Call Item → Item → ℕ → Shared → Session Item → Turn Item Bool
kept_if true call item mark shared session = record {
  shared = kept_in call session.vars.context item session.transaction shared;
  session = record session { transaction = kept_open item session.transaction };
  committed = kept_entries call session.vars.context item session.transaction;
  given = true;
}
kept_if false call item mark shared session = record { shared = cut_to call.number mark shared; session = session; committed = []; given = false }

-- they are kept where the transaction has not too many bytes then
abbrev pub item_kept : Call Item → Item → ℕ → Shared → Session Item → Turn Item Bool
item_kept call item mark shared session =
    if takes_too_much call session.transaction item then kept_if false call item mark shared session else kept_if true call item mark shared session

-- LAST_INSERT_ID() as it was
abbrev pub with_last_id : ℤ → Session Item → Session Item
with_last_id last_id session = record session { vars = record (session.vars) { context = record (session.vars.context) { last_id = last_id } } }

-- whether the statement is warned; 1197 where its changes were not kept
abbrev pub refused_unless : Bool → (warned : Bool) → ℤ → Turn Item Bool → Turn Item (Result Bool ℕ)
refused_unless true warned last_id t = record { shared = t.shared; session = t.session; committed = t.committed; given = Ok warned }
refused_unless false warned last_id t = record { shared = t.shared; session = with_last_id last_id t.session; committed = t.committed; given = Err 1197 }

-- no changes leave no item, of which nothing is warned
abbrev pub changes_kept : Call Item → (List Change → Item) → (warned : Bool) → List Change → ℕ → ℤ → Shared → Session Item → Turn Item (Result Bool ℕ)
changes_kept call item warned [] mark last_id shared session = record { shared = shared; session = session; committed = []; given = Ok false }
changes_kept call item warned (c ∷ cs) mark last_id shared session =
    refused_unless (item_kept call (item (c ∷ cs)) mark shared session).given warned last_id (item_kept call (item (c ∷ cs)) mark shared session)

-- the item of a statement by the context behind it, with the numbers before it, by its rows or by its text
abbrev pub item_made : List ℕ → Statement → Before → Option ℤ → (rows : Bool) → List Object → Context → List Change → Item
item_made text s before first rows catalog context changes = statement_item text (carried catalog s (as_before before context) first) rows catalog changes

-- what a statement of a session changed behind a mark: it is kept as its reasons and the session's format say
abbrev pub statement_kept : Call Item → List ℕ → Statement → Before → Option ℤ → ℕ → Shared → Session Item → Turn Item (Result Bool ℕ)
statement_kept call text s before first mark shared session =
    changes_kept call (item_made text s before first (logs_rows session.format (reasons shared.base.catalog s)) shared.base.catalog session.vars.context)
    (warns session.format (reasons shared.base.catalog s)) (own_behind call.number mark shared) mark before.last_id shared session

-- the same of an evaluation, unless an error refuses its values: then its changes are taken back
abbrev pub settled : Call Item → Option ℕ → List ℕ → Statement → Before → ℕ → Shared → Session Item → Turn Item (Result Bool ℕ)
settled call None text s before mark shared session = statement_kept call text s before None mark shared session
settled call (Some code) text s before mark shared session =
    record { shared = cut_to call.number mark shared; session = session; committed = []; given = Err code }
