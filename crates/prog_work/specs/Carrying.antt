-- What an applier's changes of rows leave as it was.
use Rattle.std.specs.Prelude.{◌≡◌, List, []}
use Rattle.auto_inc.specs.declared.counters.Counter.{Counter}
use Rattle.table_rules.specs.Stores.{definitions_of}
use Rattle.prog_work.specs.Contents.{Contents, committed_tables}

-- the catalog, the counters, the definitions of tables and the rows that were last committed are as before
pub record ChangesRows (before after : Contents) : Type 0 where
  pub objects : after.objects ≡ before.objects
  pub counters : after.counters ≡ before.counters
  pub definitions : definitions_of after.tables ≡ definitions_of before.tables
  pub committed : committed_tables after ≡ committed_tables before

-- the rows as they were last committed, no change, and other counters
abbrev pub given_up : List Counter → Contents → Contents
given_up counters c = record c { tables = committed_tables c; changes = []; counters = counters }
