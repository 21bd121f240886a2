use Rattle.std.proofs.Common.{ap, ◌∙◌, arith}
use Rattle.answer_text.specs.declared.report.Report.{Report}
use Rattle.std.proofs.lemmas.Result.{err_from_is_err_and}
use Rattle.script_run.proofs.Drawing.{drawn_still, tells_none, tells_still, told_still}
use Rattle.script_run.proofs.Opened.{opened_each, replica_idle, source_still}
use Rattle.script_run.proofs.Spoken.{open_replica_behind}
use Rattle.script_run.proofs.commands.open_nodes.Goals as goal

pub returns-clause-opened : goal.returns-clause-opened
returns-clause-opened g c =
    opened_each c.openings_hold.ensures.openings c.runs_open.ensures.opens c.runs_last.ensures.source c.sources_last.ensures _ _ _ _
    (source_still _ _ _ _ _ c.in_ok-source.ensures.opened c.open_replica.ensures.rest) c.in_ok-replica.ensures.opened
    (record { source = c.in_ok-source.ensures.goes; replica = c.open_replica.ensures.goes })
    (ap (λ (r : Report). r.now) c.open_replica.ensures.rest ∙ ap (λ (r : Report). r.now) c.open_source.ensures.rest ∙ c.requires.report.stands)
    (ap (λ (r : Report). r.marks) c.open_replica.ensures.rest ∙ ap (λ (r : Report). r.marks) c.open_source.ensures.rest ∙ c.requires.report.marks)

pub returns-clause-on : goal.returns-clause-on
returns-clause-on g c = record { source = c.in_ok-source.ensures.on; replica = c.in_ok-replica.ensures.opened.on }

pub returns-clause-stood : goal.returns-clause-stood
returns-clause-stood g c = record { source = c.in_ok-source.ensures.stood; replica = c.in_ok-replica.ensures.stood }

pub returns-clause-goes : goal.returns-clause-goes
returns-clause-goes g c = record { source = c.in_ok-source.ensures.goes; replica = c.open_replica.ensures.goes }

pub returns-clause-later : goal.returns-clause-later
returns-clause-later g c = record { source = c.open_source.ensures.later; replica = c.open_replica.ensures.later }

pub returns-in_err-source-clause-later : goal.returns-in_err-source-clause-later
returns-in_err-source-clause-later g c = record { source = c.open_source.ensures.later; replica = omega arith }

pub returns-in_err-replica-clause-later : goal.returns-in_err-replica-clause-later
returns-in_err-replica-clause-later g c = record { source = c.open_source.ensures.later; replica = c.open_replica.ensures.later }

pub returns-in_err-source-clause-rep_survives : goal.returns-in_err-source-clause-rep_survives
returns-in_err-source-clause-rep_survives g c = replica_idle _ c.requires.rep_settled

pub returns-in_err-source-clause-rep_drawn : goal.returns-in_err-source-clause-rep_drawn
returns-in_err-source-clause-rep_drawn g c =
    told_still _ _ _ _ _ (ap (λ (r : Report). r.rep_draws) c.open_source.ensures.rest ∙ c.requires.report.rep_draws) (c.draws_begin.ensures _)

pub returns-in_err-source-clause-replica : goal.returns-in_err-source-clause-replica
returns-in_err-source-clause-replica g c =
    tells_none _ _ _ _ (ap (λ (r : Report). r.rep_identity) c.open_source.ensures.rest ∙ c.requires.report.rep_identity) (ap (λ (r : Report). r.rep_draws) c.open_source.ensures.rest ∙ c.requires.report.rep_draws)

pub returns-in_err-replica-clause-src_drawn : goal.returns-in_err-replica-clause-src_drawn
returns-in_err-replica-clause-src_drawn g c = told_still _ _ _ _ _ (ap (λ (r : Report). r.src_draws) c.open_replica.ensures.rest) c.in_ok-source.ensures.drawn

pub returns-clause-src_drawn : goal.returns-clause-src_drawn
returns-clause-src_drawn g c = drawn_still _ _ _ _ (ap (λ (r : Report). r.src_draws) c.open_replica.ensures.rest) c.in_ok-source.ensures.drawn

pub returns-clause-source : goal.returns-clause-source
returns-clause-source g c =
    tells_still _ _ _ _ _ _ (ap (λ (r : Report). r.src_identity) c.open_replica.ensures.rest) (ap (λ (r : Report). r.src_draws) c.open_replica.ensures.rest) c.open_source.ensures.tells

pub returns-in_err-replica-clause-source : goal.returns-in_err-replica-clause-source
returns-in_err-replica-clause-source g c =
    tells_still _ _ _ _ _ _ (ap (λ (r : Report). r.src_identity) c.open_replica.ensures.rest) (ap (λ (r : Report). r.src_draws) c.open_replica.ensures.rest) c.open_source.ensures.tells

pub returns-in_err-source-clause-refuses : goal.returns-in_err-source-clause-refuses
returns-in_err-source-clause-refuses g c =
    let p = err_from_is_err_and c.from_residual.result c.from_residual.ensures.1 in
    rw (p.1, p.2) (c.in_err-source.ensures.refuses _ _)

pub returns-in_err-replica-clause-refuses : goal.returns-in_err-replica-clause-refuses
returns-in_err-replica-clause-refuses g c =
    let p = err_from_is_err_and c.from_residual-in_err-replica.result c.from_residual-in_err-replica.ensures.1 in
    rw (p.1, p.2) (open_replica_behind c.in_err-replica.field-0.0 _ _ _ _ _ _ c.in_err-replica.ensures.refuses c.open_source.ensures.later)
