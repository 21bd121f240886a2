use Rattle.std.proofs.Common.{List, [], ◌∷◌, ◌++◌, ap, ◌∙◌}
use Rattle.port_traits.specs.declared.identity.Draw.{Draw}
use Rattle.disk_model.proofs.Moments.{on_refl}
use Rattle.script_run.proofs.Opened.{replica_idle, replica_is, replica_refused, replica_stood, replica_survives}
use Rattle.script_run.proofs.commands.open_replica.Goals as goal

pub returns-in-Ok-clause-opened : goal.returns-in-Ok-clause-opened
returns-in-Ok-clause-opened g c = record {
  identity = c.in_ok-name.name;
  draw = c.in_ok-name.draw;
  named = c.in-Ok.ensures.identity;
  told = c.in_ok-name.ensures.told.0;
  drawn = c.in_ok-name.ensures.told.1 ∙ ap (λ (ds : List Draw). ds ++ c.in_ok-name.draw ∷ []) c.requires.draws;
  is = replica_is _ c.in-Ok.replica c.in-Ok.ensures.opens;
  holds = c.in-Ok.ensures.held;
  runs = c.open-2.ensures.runs;
  active = c.in-Ok.ensures.active;
  on = c.in-Ok.ensures.on;
}

pub returns-in-Ok-clause-stood : goal.returns-in-Ok-clause-stood
returns-in-Ok-clause-stood g c = replica_stood _ c.in-Ok.replica c.in-Ok.ensures.held

pub returns-in-Ok-clause-survives : goal.returns-in-Ok-clause-survives
returns-in-Ok-clause-survives g c = replica_survives _ _ c.requires.settled c.open-2.ensures.runs

pub returns-in-Err-clause-survives : goal.returns-in-Err-clause-survives
returns-in-Err-clause-survives g c = replica_survives _ _ c.requires.settled c.open-2.ensures.runs

pub returns-in-Err-clause-refuses : goal.returns-in-Err-clause-refuses
returns-in-Err-clause-refuses g c src n = rw c.by_replica.ensures (replica_refused _ c.in-Err.refusal src _ _ _ n c.in-Err.ensures.damaged c.in-Err.ensures.cause.disk)

pub returns-in_err-name-clause-survives : goal.returns-in_err-name-clause-survives
returns-in_err-name-clause-survives g c = replica_idle _ c.requires.settled

pub returns-in_err-name-clause-goes : goal.returns-in_err-name-clause-goes
returns-in_err-name-clause-goes g c = on_refl _
