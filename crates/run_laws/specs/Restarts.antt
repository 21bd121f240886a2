-- What a RESTART leaves of a run: what was committed and carried out stays, and goes on.
use Rattle.std.specs.Prelude.{◌≡◌, ℕ, None}
use Rattle.port_traits.specs.declared.identity.Draw.{Draw}
use Rattle.apply_laws.specs.session_model.Formats.{first_format}
use Rattle.apply_laws.specs.session_model.Machine.{Machine}
use Rattle.apply_laws.specs.session_model.Holding.{format_of, session_at}
use Rattle.run_model.specs.Asked.{restart_source, restart_replica}
use Rattle.run_model.specs.Run.{Names, Both, mark_at, next}
use Rattle.run_model.specs.Following.{Follows}
use Rattle.run_laws.specs.Laws.{IsSound}

-- A source that opened again: all that was committed is as it was, and nothing was put out; each session begins anew, with the format of
-- a new one.
pub record KeptByRestart (old new : Machine) : Type 0 where
  pub history : new.history ≡ old.history
  pub base : new.state.shared.base ≡ old.state.shared.base
  pub number : new.state.shared.committed ≡ old.state.shared.committed
  pub place : new.state.shared.place ≡ old.state.shared.place
  pub sessions : (n : ℕ) → session_at n new ≡ None
  pub formats : (n : ℕ) → format_of (session_at n new) ≡ first_format

-- so it is of a source that a replica follows
abbrev pub RestartsKeep : Type 0
RestartsKeep = (names : Names) (b : Both) (draw : Draw) → Follows names b → IsSound b.from b.machine → KeptByRestart b.machine (next names b restart_source draw).both.machine

-- what it has committed can still be run and read again
abbrev pub RestartsStaySound : Type 0
RestartsStaySound = (names : Names) (b : Both) (draw : Draw) → Follows names b → IsSound b.from b.machine → IsSound b.from (next names b restart_source draw).both.machine

-- RESTARTs raise and lower no number of a mark
pub record RestartsKeepMarks : Type 0 where
  pub source : (names : Names) (b : Both) (k : ℕ) (draw : Draw) → mark_at k (next names b restart_source draw).both ≡ mark_at k b
  pub replica : (names : Names) (b : Both) (k : ℕ) (draw : Draw) → mark_at k (next names b restart_replica draw).both ≡ mark_at k b
