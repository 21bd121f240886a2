-- How carrying out a part of a group ends.
use Rattle.std.specs.Prelude.{◌≡◌, Result, Ok, Err}
use Rattle.auto_inc.specs.Counting.{tables_of}
use Rattle.apply_model.specs.Stops.{Differs}
use Rattle.apply_model.specs.Texts.{Progress}
use Rattle.prog_work.specs.Contents.{Contents, committed_tables}
use Rattle.row_apply.specs.declared.stop.Stop.{Stop}
use Rattle.row_apply.specs.declared.stop.Stop.TheVariants as stop

-- what a transaction under way has come to, all of whose changes stand open
abbrev pub progress_in : Contents → Progress
progress_in c = record { store = record { tables = c.tables; counters = c.counters }; changes = c.changes }

-- it comes to what there is now, or stops just there; where memory is wanted, nothing is said
abbrev pub Ends : {A : Type 0} → Result (Unit {0}) Stop → A → Result A Differs → Type 0
Ends (Ok done) now carried = carried ≡ Ok now
Ends (Err (stop.Differs place code table key)) now carried = carried ≡ Err (record { place = place; code = code; table = table; key = key })
Ends (Err stop.NoMemory) now carried = Unit {0}

-- the catalog, the rows that were last committed, and which tables have counters, are as before
pub record Stays (before after : Contents) : Type 0 where
  pub objects : after.objects ≡ before.objects
  pub committed : committed_tables after ≡ committed_tables before
  pub counted : tables_of after.counters ≡ tables_of before.counters
