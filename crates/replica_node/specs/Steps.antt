-- APPLY, step by step.
use Rattle.std.specs.Prelude.{◌≡◌, ◌<◌, ℕ, ◌+◌, drop, length, Some, None, Result, Ok, Err}
use Rattle.std.specs.Option.{option_map}
use Rattle.port_traits.specs.declared.identity.Identity.{Identity}
use Rattle.port_traits.specs.declared.identity.Draw.{Draw}
use Rattle.relay_log.specs.apply_model.Stops.{Differs}
use Rattle.relay_log.specs.apply_model.Groups.{Applied}
use Rattle.relay_log.specs.log_model.Log.{moved}
use Rattle.stmt_apply.specs.prog_run.prog_work.Contents.{Contents}
use Rattle.replica_model.specs.Applying.{Going, Stop, differs, damaged, foreign, go_on, going_from}
use Rattle.replica_model.specs.Replica.{Replica}
use Rattle.relay_log.specs.declared.place.Walk.{Walk}
use Rattle.relay_log.specs.Reaching.{Fetched, IsAhead, place_seen}
use Rattle.stmt_apply.specs.Applying.{applied_in}
use Rattle.row_apply.specs.declared.stop.Stop as code_stop
use Rattle.commit_store.specs.store_model.Held.{next_applied}
use Rattle.replica_node.specs.Kept.{Kept}
use Rattle.replica_node.specs.declared.told.Applied as code_applied
use Rattle.replica_node.specs.declared.told.Step.{Step}
use Rattle.replica_node.specs.declared.told.Step.TheVariants.{Over, Moved, Carried, Waits, Stopped as StoppedBy}
use Rattle.replica_node.specs.declared.told.Stopped.{Stopped}
use Rattle.replica_node.specs.declared.told.Stopped.TheVariants as stopped

-- ---- what is told

abbrev pub stop_of : Stopped → Stop
stop_of (stopped.Differs pos code table key) = differs (record { place = pos; code = code; table = table; key = key })
stop_of (stopped.Damaged pos) = damaged pos
stop_of (stopped.Foreign pos kind) = foreign pos kind

-- how an APPLY ended
pub record IsTold (told : code_applied.Applied) (a : Going) : Type 0 where
  pub count : told.count ≡ a.count
  pub place : record { log = told.log; pos = told.pos } ≡ a.replica.place
  pub stop : option_map stop_of told.stop ≡ a.stop

-- ---- a group

-- it is carried out, or stops just so and leaves all as it was
abbrev pub CarriesOut : Step → Contents → Contents → Result Applied Differs → Type 0
CarriesOut (Carried p) before after carried = carried ≡ Ok (applied_in after)
CarriesOut (StoppedBy (stopped.Differs pos code table key)) before after carried =
    (carried ≡ Err (record { place = pos; code = code; table = table; key = key })) × (after ≡ before)
CarriesOut (StoppedBy (stopped.Damaged pos)) before after carried = ⊥
CarriesOut (StoppedBy (stopped.Foreign pos kind)) before after carried = ⊥
CarriesOut (Over ahead) before after carried = ⊥
CarriesOut (Moved p) before after carried = ⊥
CarriesOut Waits before after carried = ⊥

-- why it stops; want of memory is no step
abbrev pub Tells : code_stop.Stop → Step → Type 0
Tells (code_stop.TheVariants.Differs pos code table key) step = step ≡ StoppedBy (stopped.Differs pos code table key)
Tells code_stop.TheVariants.NoMemory step = ⊥

-- ---- a step

-- an APPLY on its way, at a replica and behind so many bytes that were passed over
abbrev pub going_at : Replica → (passed count : ℕ) → Going
going_at r passed count = record { replica = r; passed = passed; count = count; stop = None }

-- what it has fetched, from the applied place on
abbrev pub relay_of : Replica → Fetched
relay_of r = record { place = r.place; bytes = r.relay }

-- a place behind bytes that were passed over, of which whole groups and no end of a log were passed
pub record IsOver (r : Replica) (walk : Walk) : Type 0 where
  pub ahead : IsAhead (relay_of r) walk
  pub place : place_seen walk.place ≡ moved r.place walk.passed

-- what was fetched, passed up to a place ahead
abbrev pub passed_to : Walk → Fetched → Fetched
passed_to to f = record { place = place_seen to.place; bytes = drop to.passed f.bytes }

-- a node behind a step that carried a group out, up to a place ahead; behind another it stays
abbrev pub behind_step : Step → Walk → Kept → Kept
behind_step (Carried p) to k = record k { number = next_applied k.number; relay = passed_to to k.relay }
behind_step (Over ahead) to k = k
behind_step (Moved p) to k = k
behind_step Waits to k = k
behind_step (StoppedBy stop) to k = k

-- how an APPLY goes on behind a step
abbrev pub ended_by : (Going → Going) → Step → Replica → (passed count : ℕ) → Going
ended_by more (Over ahead) r passed count = more (going_at r ahead.passed count)
ended_by more (Moved p) r passed count = more (going_at r 0 count)
ended_by more (Carried p) r passed count = more (going_at r 0 (count + 1))
ended_by more Waits r passed count = going_at r passed count
ended_by more (StoppedBy stop) r passed count = record (going_at r passed count) { stop = Some (stop_of stop) }

-- where it goes on, fewer bytes lie ahead of it than before
abbrev pub GoesOn : Step → (left : ℕ) → Replica → Type 0
GoesOn (Over ahead) left r = IsOver r ahead × (length r.relay < ahead.passed + left)
GoesOn (Moved p) left r = length r.relay < left
GoesOn (Carried p) left r = length r.relay < left
GoesOn Waits left r = Unit {0}
GoesOn (StoppedBy stop) left r = Unit {0}

-- ---- an APPLY that memory cut short

-- a replica as it is behind so many steps of it
abbrev pub IsFront : (wanted : ℕ) → Identity → Draw → (first now : Replica) → Type 0
IsFront wanted identity draw first now = (steps : ℕ) × (now ≡ (go_on steps wanted identity draw (going_from first)).replica)
