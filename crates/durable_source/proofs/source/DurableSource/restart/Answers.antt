use Rattle.std.proofs.Common.{Err, refl, ◌∙◌}
use Rattle.std.proofs.lemmas.Result.{err_from_is_err_and}
use Rattle.session_model.specs.Openings.{opened_from, opening_entries}
use Rattle.durable_source.specs.declared.source.DurableSource.{DurableSource}
use Rattle.durable_source.specs.Standing.{beginning_of}
use Rattle.durable_source.proofs.Restarting.{not_damaged, opens_now, restarted_by, restarted_runs_by, same_generation}
use Rattle.durable_source.proofs.Standings.{idle_runs}
use Rattle.durable_source.proofs.source.DurableSource.restart.Goals as goal

pub returns-in_err-identity-clause-runs : goal.returns-in_err-identity-clause-runs
returns-in_err-identity-clause-runs g c from m stands marks holds =
    idle_runs _ c.args.self.now from m stands (opening_entries c.args.self.now.node.identity c.args.draw.now m.state.shared.place) marks

pub returns-in_err-self-clause-runs : goal.returns-in_err-self-clause-runs
returns-in_err-self-clause-runs g c from m stands marks holds =
    restarted_runs_by _ c.args.self.now from m stands holds c.in_ok-identity.identity c.args.self.now.node.identity (c.in_ok-identity.ensures ∙ c.identity.ensures) c.args.draw.now _ marks
    (c.open.ensures.runs stands.now marks (opens_now _ c.args.self.now from m stands))

pub returns-in_err-self-clause-whole : goal.returns-in_err-self-clause-whole
returns-in_err-self-clause-whole g c from m file at stands =
    let p = err_from_is_err_and c.from_residual-in_err-self.result c.from_residual-in_err-self.ensures.1 in
    rw (p.1, p.2) (not_damaged DurableSource _ _ stands.now (Err c.in_err-self.field-0.0) c.in_err-self.field-0.0 file at refl (opens_now _ c.args.self.now from m stands) c.in_err-self.ensures.damaged)

pub returns-clause-stands : goal.returns-clause-stands
returns-clause-stands g c from m stands holds =
    restarted_by _ c.args.self.now from m stands holds c.in_ok-identity.identity c.args.self.now.node.identity (c.in_ok-identity.ensures ∙ c.identity.ensures) c.args.draw.now _ _
    (c.in_ok-self.ensures.stands stands.now (opens_now _ c.args.self.now from m stands))

pub returns-clause-some : goal.returns-clause-some
returns-clause-some g c =
    let from = c.in_ok-self.ensures.some.0 in (
      from,
      (
        opened_from c.in_ok-identity.identity c.args.draw.now (beginning_of from),
        (c.in_ok-self.ensures.some.1, c.openings_hold.ensures.openings c.in_ok-identity.identity c.args.draw.now (beginning_of from)),
      ),
    )

pub returns-clause-runs : goal.returns-clause-runs
returns-clause-runs g c from m stands marks holds =
    restarted_runs_by _ c.args.self.now from m stands holds c.in_ok-identity.identity c.args.self.now.node.identity (c.in_ok-identity.ensures ∙ c.identity.ensures) c.args.draw.now _ marks
    (c.open.ensures.runs stands.now marks (opens_now _ c.args.self.now from m stands))

pub returns-clause-generation : goal.returns-clause-generation
returns-clause-generation g c from m stands = same_generation _ c.args.self.now from m stands _ c.in_ok-self.ensures.active
