use Rattle.std.proofs.Common.{List, [], ◌∷◌, ◌++◌, ap, ◌∙◌}
use Rattle.port_traits.specs.declared.identity.Draw.{Draw}
use Rattle.run_laws.specs.session_model.Openings.{opened_from}
use Rattle.run_stores.specs.durable_runs.Sources.{Stored}
use Rattle.durable_source.specs.Standing.{beginning_of}
use Rattle.script_run.proofs.Opened.{goes_there, idle_survives, opening_survives, source_refused}
use Rattle.script_run.proofs.commands.open_source.Goals as goal

pub returns-in-Ok-clause-opened : goal.returns-in-Ok-clause-opened
returns-in-Ok-clause-opened g c = record {
  identity = c.in_ok-name.name;
  draw = c.in_ok-name.draw;
  fits = c.moment_fits.ensures;
  named = c.in-Ok.ensures.identity;
  told = c.in_ok-name.ensures.told.0;
  drawn = c.in_ok-name.ensures.told.1 ∙ ap (λ (ds : List Draw). ds ++ c.in_ok-name.draw ∷ []) c.requires.draws;
  stands = c.in-Ok.ensures.stands;
  active = c.in-Ok.ensures.active;
  runs = c.open-2.ensures.runs;
}

pub returns-in-Ok-clause-on : goal.returns-in-Ok-clause-on
returns-in-Ok-clause-on g c =
    let from : Stored = c.in-Ok.ensures.some.0 in
    (from, (opened_from c.in_ok-name.name c.in_ok-name.draw (beginning_of from), (c.in-Ok.ensures.some.1, c.openings_hold.ensures.openings c.in_ok-name.name c.in_ok-name.draw (beginning_of from))))

pub returns-in-Ok-clause-goes : goal.returns-in-Ok-clause-goes
returns-in-Ok-clause-goes g c = goes_there _ _ c.in-Ok.ensures.held (λ start on. (c.open-2.ensures.runs start [] on).on)

pub returns-in-Ok-clause-survives : goal.returns-in-Ok-clause-survives
returns-in-Ok-clause-survives g c = opening_survives c.runs_last.ensures.source c.sources_last.ensures _ _ c.in_ok-name.name c.in_ok-name.draw c.requires.settled c.open-2.ensures.runs

pub returns-in-Err-clause-survives : goal.returns-in-Err-clause-survives
returns-in-Err-clause-survives g c = opening_survives c.runs_last.ensures.source c.sources_last.ensures _ _ c.in_ok-name.name c.in_ok-name.draw c.requires.settled c.open-2.ensures.runs

pub returns-in-Err-clause-refuses : goal.returns-in-Err-clause-refuses
returns-in-Err-clause-refuses g c rep n = rw c.by_source.ensures (source_refused _ c.in-Err.refusal _ rep _ _ n c.in-Err.ensures.damaged c.in-Err.ensures.cause.disk)

pub returns-in_err-name-clause-survives : goal.returns-in_err-name-clause-survives
returns-in_err-name-clause-survives g c = idle_survives c.sources_last.ensures _ c.requires.settled
