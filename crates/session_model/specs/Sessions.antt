-- What a source keeps while it runs: its base, the open changes, the writer, and its sessions.
--
-- Sessions, transactions and entries are generic in what is known of an item: a node keeps what the log has of it, the
-- definition of a run keeps all that it began with, too.
use Rattle.std.specs.Prelude.{ℕ, Bool, false, List, [], Option, unwrap_or}
use Rattle.val_types.specs.declared.change.Change.{Change}
use Rattle.auto_inc.specs.declared.counters.Counter.{Counter}
use Rattle.table_rules.specs.Tables.{Table}
use Rattle.table_rules.specs.Stored.{all_applied}
use Rattle.session_ctx.specs.catalog_rules.Bases.{Base}
use Rattle.binlog_sizes.specs.log_model.Log.{LogPlace}
use Rattle.session_ctx.specs.declared.session.SessionVars.{SessionVars}
use Rattle.session_model.specs.declared.format.Format.{Format}

-- ---- transactions

-- A savepoint: its name, and how many items and changes the transaction had.
pub record Save : Type 0 where
  pub name : List ℕ
  pub items : ℕ
  pub changes : ℕ

-- An open transaction: its items, its savepoints, the oldest first, and whether a row was ever changed in it.
pub record Open (I : Type 0) : Type 0 where
  pub items : List I
  pub saves : List Save
  pub changed : Bool

abbrev pub just_opened : {I : Type 0} → Open I
just_opened = record { items = []; saves = []; changed = false }

-- ---- sessions

-- A session that has had a command: its variables, how its statements are logged, and perhaps an open transaction.
pub record Session (I : Type 0) : Type 0 where
  pub vars : SessionVars
  pub format : Format
  pub transaction : Option (Open I)

-- ---- what all sessions share

-- The committed base, the counters, the changes of the open transaction that has the writer's lock, the session that has it,
-- how many transactions were committed, and where the log ends.
pub record Shared : Type 0 where
  pub base : Base
  pub counters : List Counter
  pub changes : List Change
  pub writer : Option ℕ
  pub committed : ℕ
  pub place : LogPlace

-- the tables with the open changes made to them; these can always be made
abbrev pub tables_with : List Change → List Table → List Table
tables_with changes tables = unwrap_or (all_applied changes tables) tables

-- A source: what its sessions share, and each session by its number, None for one that has had no command.
pub record State (I : Type 0) : Type 0 where
  pub shared : Shared
  pub sessions : List (Option (Session I))
