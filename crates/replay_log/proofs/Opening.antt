-- A replay from the opening of its replica on.
use Rattle.std.proofs.Common.{◌≡◌, inl, ℕ, List, [], Option, Some, None, refl, ap, ◌∙◌, arith, subst}
use Rattle.answer_text.specs.declared.report.Mark.{Mark}
use Rattle.answer_text.specs.declared.report.Report.{Report}
use Rattle.answer_text.specs.declared.status.Status.{Status}
use Rattle.answer_text.specs.declared.status.Status.TheVariants.{Done, BadWords, BadScript, ReadFault, WriteFault, SourceDisk, ReplicaDisk, SourceDamaged, ReplicaDamaged, LogDamaged, LogForeign, Differs, NoMemory}
use Rattle.port_traits.specs.declared.identity.Identity.{Identity}
use Rattle.port_traits.specs.declared.identity.Draw.{Draw}
use Rattle.disk_model.specs.Story.{Story}
use Rattle.disk_model.specs.Moments.{GoesOn, IsSettled}
use Rattle.disk_model.proofs.Moments.{on_trans}
use Rattle.store_model.specs.Held.{Held}
use Rattle.durable_replica.specs.store_replica.durable_runs.Replicas.{CarriesTo, ReplicaRuns}
use Rattle.durable_replica.proofs.of_store_replica.of_durable_runs.States.{carries_none, carries_begins, carries_behind, carries_images, carries_join}
use Rattle.durable_replica.specs.store_replica.Writing.{OpensOn}
use Rattle.log_reader.specs.log_file_model.Walk.{Ending, ended, damaged, foreign, Piece}
use Rattle.durable_replica.specs.replica_node.Kept.{held_of}
use Rattle.durable_replica.specs.replica_node.replica_model.Replica.{Replica, reopened}
use Rattle.replay_log.specs.declared.replaying.Replaying as code_replaying
use Rattle.replay_log.specs.Ends.{IsBehind, NotOpened, Opened, ReplayEnds, Reports, Survives}
use Rattle.replay_log.specs.Replaying.{Broke, CameTo, ComesTo, IsRefused, Lasts, Refused, Through, UpToFault, kept}

-- ---- an opening

-- what an opening leaves on the disk
pub opening_survives : (t u : Option Story) → ((held : Held) → OpensOn t held → ReplicaRuns t u held [] [] []) → Survives (λ held now. now ≡ held) t u []
opening_survives t u runs held holds fit =
    carries_images (λ now. now ≡ held) t u held [] (carries_none (λ now. now ≡ held) t u held [] [] refl (runs held holds)).carries

-- no call was made
pub nothing_called : (t : Option Story) → IsSettled t → Survives (λ held now. now ≡ held) t t []
nothing_called t settled held holds fit =
    carries_images (λ now. now ≡ held) t t held [] (carries_begins (λ now. now ≡ held) t held settled holds refl).carries

-- ---- behind it

module _ (identity : Identity) (draw : Draw) (from : Replica) (t u v : Option Story) (opens : OpensOn t (held_of from)) (runs : (held : Held) → OpensOn t held → ReplicaRuns t u held [] [] [])
    (goes : GoesOn t u) (start left : Option (List ℕ)) (r : code_replaying.Replaying) (marks : List Mark) where
  opening : (pieces : List Piece) → CarriesTo (IsBehind identity draw from pieces) t u (held_of from) (held_of from) [] []
  opening pieces =
      carries_none (IsBehind identity draw from pieces) t u (held_of from) [] [] (record { first = 0; within = omega arith; is = refl }) (runs (held_of from) opens)

  lasts_from : (pieces : List Piece) → Lasts identity draw from pieces u v r marks → Lasts identity draw from pieces t v r marks
  lasts_from pieces lasts = record {
    on = lasts.on;
    goes = on_trans t u v goes lasts.goes;
    carries = λ fit.
        carries_join (IsBehind identity draw from pieces) t u v (held_of from) (held_of from) (held_of (kept r)) [] [] marks (opening pieces) (lasts.carries fit);
    marked = lasts.marked;
  }

  broke_from : (pieces : List Piece) → Broke identity draw from pieces u v marks → Broke identity draw from pieces t v marks
  broke_from pieces broke = record {
    goes = on_trans t u v goes broke.goes;
    carries = λ fit. carries_behind (IsBehind identity draw from pieces) t u v (held_of from) (held_of from) [] [] marks (opening pieces) (broke.carries fit);
    named = broke.named;
  }

  through_from : (ending : Ending) → Through ending identity draw from start u v r marks → Through ending identity draw from start t v r marks
  through_from ending x = record { pieces = x.pieces; log = x.log; running = x.running; stands = x.stands; lasts = lasts_from x.pieces x.lasts }

  fault_from : UpToFault identity draw from start u v marks → UpToFault identity draw from start t v marks
  fault_from x = record { pieces = x.pieces; log = x.log; broke = broke_from x.pieces x.broke }

  pub comes_from : (status : Status) → ComesTo status identity draw from start left u v r marks → ComesTo status identity draw from start left t v r marks
  comes_from Done comes = (through_from ended comes.0, comes.1)
  comes_from (LogDamaged pos) comes = through_from (damaged pos) comes
  comes_from (LogForeign pos kind) comes = through_from (foreign pos kind) comes
  comes_from (Differs pos code table key) comes =
      record { pieces = comes.pieces; log = comes.log; stopped = comes.stopped; stands = comes.stands; lasts = lasts_from comes.pieces comes.lasts }
  comes_from ReadFault comes = fault_from comes
  comes_from ReplicaDisk comes = fault_from comes
  comes_from NoMemory comes = fault_from comes
  comes_from BadWords comes = absurd comes
  comes_from (BadScript at) comes = absurd comes
  comes_from WriteFault comes = absurd comes
  comes_from SourceDisk comes = absurd comes
  comes_from (SourceDamaged file at) comes = absurd comes
  comes_from (ReplicaDamaged file at) comes = absurd comes

-- ---- what it opened on

opened_by : (t : Option Story) (from : Replica) → from ≡ reopened from → OpensOn t (held_of from) → Opened t from
opened_by None from counters opens = record { counters = counters; held = tt }
opened_by (Some t) from counters opens = record { counters = counters; held = (held_of from, opens, counters) }

pub opened_on : (t : Option Story) (from : Replica) → from ≡ reopened from → OpensOn t (held_of from) → Opened t from
opened_on t from counters opens = opened_by t from counters opens

-- what the replica of an opening keeps, it has read
pub relay_none : (from : Replica) → from ≡ reopened from → from.relay ≡ []
relay_none from counters = ap (λ (r : Replica). r.relay) counters

-- ---- the whole replay

pub came_from : (status : Status) (identity : Identity) (draw : Draw) (from : Replica) (start left : Option (List ℕ)) (t u v : Option Story) (report : Report) (r : code_replaying.Replaying)
    → Reports identity draw report → Opened t from → OpensOn t (held_of from) → ((held : Held) → OpensOn t held → ReplicaRuns t u held [] [] []) → GoesOn t u
    → ComesTo status identity draw from start left u v r report.marks → CameTo status start left t v report r
came_from status identity draw from start left t u v report r told opened opens runs goes comes = record {
  identity = identity;
  draw = draw;
  told = told;
  from = from;
  opened = opened;
  holds = opens;
  comes = comes_from identity draw from t u v opens runs goes start left r report.marks status comes;
}

-- a report to which marks were put tells the same
pub still_told : (identity : Identity) (draw : Draw) (old new : Report) → new ≡ record old { marks = new.marks } → Reports identity draw old → Reports identity draw new
still_told identity draw old new is told = record {
  source = ap (λ (r : Report). r.src_identity) is ∙ told.source;
  replica = ap (λ (r : Report). r.rep_identity) is ∙ told.replica;
  src_draws = ap (λ (r : Report). r.src_draws) is ∙ told.src_draws;
  rep_draws = ap (λ (r : Report). r.rep_draws) is ∙ told.rep_draws;
  now = ap (λ (r : Report). r.now) is ∙ told.now;
}

-- ---- the status of an opening that was refused

pub refused_ends : (status : Status) (input : Option (List ℕ)) (t u : Option Story) (report : Report) (before : Option (List ℕ)) → Refused status t u report
    → ReplayEnds status input input t u report before before
refused_ends status input t u report before refused = by status refused.why
  where
    none : NotOpened input input t u report before before
    none = record { unread = refl; written = refl; now = refused.now; marks = refused.marks; survives = refused.survives }

    by : (s : Status) → IsRefused s t → ReplayEnds s input input t u report before before
    by ReplicaDisk why = inl none
    by (ReplicaDamaged file at) why = (why, none)
    by NoMemory why = inl none
    by Done why = absurd why
    by BadWords why = absurd why
    by (BadScript at) why = absurd why
    by ReadFault why = absurd why
    by WriteFault why = absurd why
    by SourceDisk why = absurd why
    by (SourceDamaged file at) why = absurd why
    by (LogDamaged pos) why = absurd why
    by (LogForeign pos kind) why = absurd why
    by (Differs pos code table key) why = absurd why

-- such a status is no fault of a stream, and no end
pub refused_is : (P : Type 0) (status other : Status) (t : Option Story) → IsRefused status t → (IsRefused other t → ⊥) → status ≡ other → P
refused_is P status other t why never same = absurd (never (subst (λ (s : Status). IsRefused s t) same why))
