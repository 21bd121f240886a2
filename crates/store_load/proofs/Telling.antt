-- What is told of a store that is read, call by call.
use Rattle.std.proofs.Common.{◌≡◌, ℕ, ◌≤◌, List, length, Option, Some, None, Ok, Err, sym, ◌∙◌, subst}
use Rattle.std.specs.Prelude.{IfSome, MatchBool}
use Rattle.disk_model.specs.declared.refusals.OpenRefusal.{OpenRefusal}
use Rattle.disk_model.specs.declared.refusals.OpenRefusal.TheVariants.{Disk, Damaged, NoMemory}
use Rattle.disk_model.specs.Story.{Story, seen}
use Rattle.disk_model.specs.Moments.{Only}
use Rattle.disk_model.specs.Claims.{Quietly}
use Rattle.gate_journal.specs.declared.journal.Journal.{Journal}
use Rattle.gate_journal.specs.Journal.{IsAtGate, IsFound}
use Rattle.store_model.specs.Stores.{first_log, held_by, journal_applied, journal_of, HasLogs}
use Rattle.store_load.specs.declared.stored.Stored.{Stored}
use Rattle.store_load.specs.Loading.{Begins, TellsDamage, TellsFirstShort, TellsGate, ends_at, held_in}
use Rattle.store_load.proofs.Whole.{gate_told, loaded, short_told}

-- ---- damage

module _ (t u : Option Story) (file : ℕ) (begun : Stored) (named : file ≡ journal_of begun.generation) (quiet : Quietly t u) (begins : Begins t begun) where
  -- a record's is the store's
  pub gate_damage : (e : OpenRefusal) → TellsGate {A = Unit {0}} u begun.node file (held_in begun) (Err e) → TellsDamage {A = Unit {0}} t begun.node (Err e)
  gate_damage Disk told = tt
  gate_damage NoMemory told = tt
  gate_damage (Damaged f at) told = gate_told begun.node begun.generation file (held_in begun) named t u f at quiet begins told

  module _ (v : Option Story) (s : Stored) (later : Quietly u v) (made : IfSome u (λ _. journal_applied begun.node (seen u file) (held_in begun) ≡ Ok (held_in s))) where
    -- so is a log's
    pub logs_damage : (e : OpenRefusal) → TellsFirstShort {A = Unit {0}} v (ends_at s.reached.ends) (Err e) → TellsDamage {A = Unit {0}} t begun.node (Err e)
    logs_damage Disk told = tt
    logs_damage NoMemory told = tt
    logs_damage (Damaged f at) told = short_told begun.node begun.generation file (held_in begun) named t u v (held_in s) f at quiet later begins made told

    -- and where there is none it was read whole
    pub store_read : IfSome v (λ _. HasLogs first_log (ends_at s.reached.ends) (seen v)) → IfSome t (λ _. held_by begun.node (seen t) ≡ Ok (held_in s))
    store_read logs = loaded begun.node begun.generation file (held_in begun) named t u v (held_in s) quiet later begins made logs

-- ---- calls that only look

pub found_still : (t u : Option Story) (j : Journal) → Quietly t u → IsFound t j → IsFound u j
found_still None None j quiet found = record { room = found.room; gate = tt }
found_still None (Some v) j quiet found = absurd quiet.on
found_still (Some s) None j quiet found = record { room = found.room; gate = tt }
found_still (Some s) (Some v) j quiet found = record {
  room = found.room;
  gate = subst (λ (file : List ℕ). MatchBool j.fresh ((length file ≤ 1) × (j.gate ≡ 0)) (IsAtGate file j.gate)) (sym (quiet.reads j.file)) found.gate;
}

pub only_still : (t u : Option Story) (f : ℕ) → Quietly t u → Only t f (seen t f) → Only u f (seen u f)
only_still t u f quiet only c left = only c (quiet.left f c left) ∙ sym (quiet.reads f)
