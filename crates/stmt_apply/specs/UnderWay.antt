-- A transaction under way, in the code and in the definition.
use Rattle.std.specs.Prelude.{◌≡◌, ℕ, List, map, Result, Ok, Err}
use Rattle.event_codec.specs.Event.{Query, map_of}
use Rattle.log_groups.specs.log_model.Events.{Placed}
use Rattle.apply_laws.specs.row_events.Sizes.{bounded}
use Rattle.apply_laws.specs.binlog_sizes.Sizes.{changes_size}
use Rattle.apply_model.specs.Stops.{Differs}
use Rattle.apply_model.specs.Texts.{Applier, carried_of, carry_text, stops_at}
use Rattle.apply_model.specs.Groups.{Going, Applied, and_then, applied_by, going_from, items_carried, store_of, text_ended}
use Rattle.row_apply.specs.prog_work.Contents.{Contents, base_of}
use Rattle.row_apply.specs.Ends.{progress_in}
use Rattle.row_apply.specs.declared.stop.Stop.{Stop}
use Rattle.row_apply.specs.declared.stop.Stop.TheVariants as stop
use Rattle.stmt_apply.specs.Needing.{needs_of}
use Rattle.stmt_apply.specs.declared.under_way.UnderWay.{UnderWay}

-- the code is where the definition is
pub record Stands (work : Contents) (here : UnderWay) (g : Going) : Type 0 where
  pub progress : g.progress ≡ progress_in work
  pub bytes : here.bytes ≡ bounded g.bytes
  pub changed : here.changed ≡ bounded (changes_size work.changes)
  pub needs : g.needs ≡ needs_of here.needs
  pub maps : g.maps ≡ map map_of here.maps
  pub begun : g.begun ≡ here.begun

-- it goes on to where the code is then, or stops just there; where memory is wanted, nothing is said
abbrev pub Goes : Result (Unit {0}) Stop → Contents → UnderWay → Result Going Differs → Type 0
Goes (Ok done) work here carried = (g : Going) × (carried ≡ Ok g) × Stands work here g
Goes (Err (stop.Differs place code table key)) work here carried = carried ≡ Err (record { place = place; code = code; table = table; key = key })
Goes (Err stop.NoMemory) work here carried = Unit {0}

-- the same where only what was made of the rows is asked for
abbrev pub ComesTo : Result (Unit {0}) Stop → Contents → Result Going Differs → Type 0
ComesTo (Ok done) work carried = (g : Going) × (carried ≡ Ok g) × (g.progress ≡ progress_in work)
ComesTo (Err (stop.Differs place code table key)) work carried = carried ≡ Err (record { place = place; code = code; table = table; key = key })
ComesTo (Err stop.NoMemory) work carried = Unit {0}

-- a text at a place and a moment, run with what stands before it
abbrev pub text_carried : Applier → (place stamp : ℕ) → Query → Going → Result Going Differs
text_carried a place stamp q g = and_then (text_ended place g) (stops_at place (carry_text a q.text (carried_of stamp q g.needs) g.progress))

-- the items of a transaction, from where its base and counters are
abbrev pub items_from : Applier → List Placed → Contents → Result Going Differs
items_from a es c = items_carried a es (going_from (store_of (base_of c) c.counters))

-- what stands behind a transaction
abbrev pub transaction_carried : Applier → List Placed → Contents → Result Applied Differs
transaction_carried a es c = and_then (λ g. Ok (applied_by (base_of c) g)) (items_from a es c)
