use Rattle.std.proofs.Common.{arith, ◌∙◌, ap, refl, List, ℕ}
use Rattle.std.proofs.lemmas.Result.{err_from_is_err_and}
use Rattle.disk_model.proofs.Moments.{on_trans}
use Rattle.durable_replica.specs.replica_node.replica_model.Replica.{fetched}
use Rattle.replay_log.specs.Replaying.{kept}
use Rattle.replay_log.proofs.Applying.{room_for, room_to_count, went_on, now_stands}
use Rattle.replay_log.proofs.Keeping.{broke_before, broke_fetching, broke_applying, kept_applying, kept_err}
use Rattle.replay_log.proofs.replaying.Replaying.apply.Goals as goal

pub fetch-requires-clause-room : goal.fetch-requires-clause-room
fetch-requires-clause-room g c = room_for c.args.self.now c.args.reader.now c.in_ok-group.group c.requires.next (c.in_ok-group.ensures ∙ c.bytes.ensures)

pub overflow_add-self : goal.overflow_add-self
overflow_add-self g c =
    let room =
    room_to_count c.args.draw.now c.args.self.now c.args.reader.now c.requires.next c.in_ok-group.group (c.in_ok-group.ensures ∙ c.bytes.ensures) c.fetch.new.self c.apply.new.self c.in_ok-fetch.ensures.identity
    c.in_ok-fetch.ensures.ok c.in_ok-count.field-0 c.in_ok-count.ensures.replica c.in_ok-count.ensures.told in
    omega (arith, room.0, room.1)

pub returns-clause-went_on : goal.returns-clause-went_on
returns-clause-went_on g c =
    went_on c.args.draw.now c.args.self.now c.args.reader.now c.requires.next c.in_ok-group.group (c.in_ok-group.ensures ∙ c.bytes.ensures)
    c.fetch.new.self c.apply.new.self c.in_ok-fetch.ensures.identity c.in_ok-fetch.ensures.ok c.in_ok-count.field-0 c.in_ok-count.ensures.replica c.in_ok-count.ensures.told

pub returns-in_err-group-clause-kept : goal.returns-in_err-group-clause-kept
returns-in_err-group-clause-kept g c gr s is stands running =
    let p = err_from_is_err_and c.from_residual.result c.from_residual.ensures.1 in
    kept_err _ p.0 p.1 _ _ _ _ _ _ _ _ _
    (broke_before c.args.self.now.node.node.identity c.args.draw.now c.args.self.now c.args.reader.now c.requires.next gr s is stands running (g.R.Disk.told c.args.rep.now) c.args.report.now.now c.args.report.now.marks c.requires.on)

pub returns-in_err-fetch-clause-kept : goal.returns-in_err-fetch-clause-kept
returns-in_err-fetch-clause-kept g c gr s is stands running =
    let p = err_from_is_err_and c.from_residual-in_err-fetch.result c.from_residual-in_err-fetch.ensures.1 in
    kept_err _ p.0 p.1 _ _ _ _ _ _ _ _ _
    (broke_fetching c.args.self.now.node.node.identity c.args.draw.now c.args.self.now c.args.reader.now c.requires.next gr s is stands running (g.R.Disk.told c.args.rep.now) c.args.report.now.now c.args.report.now.marks
    (g.R.Disk.told c.fetch.new.d) c.in_err-fetch.ensures.runs)

pub returns-in_err-count-clause-kept : goal.returns-in_err-count-clause-kept
returns-in_err-count-clause-kept g c gr s is stands running =
    let p = err_from_is_err_and c.from_residual-in_err-count.result c.from_residual-in_err-count.ensures.1 in
    kept_err _ p.0 p.1 _ _ _ _ _ _ _ _ _
    (broke_applying c.args.self.now.node.node.identity c.args.draw.now c.args.self.now c.args.reader.now c.requires.next gr s is stands running (g.R.Disk.told c.args.rep.now) c.args.report.now.now c.args.report.now.marks
    (g.R.Disk.told c.fetch.new.d) c.in_ok-fetch.ensures.runs
    (g.R.Disk.told c.apply.new.d) c.fetch.new.self c.apply.new.self c.in_ok-fetch.ensures.identity
    (c.in_ok-fetch.ensures.ok ∙ ap (λ (bs : List ℕ). fetched bs (kept c.args.self.now)) (c.in_ok-group.ensures ∙ c.bytes.ensures))
    c.apply.new.report.marks c.apply.new.self.store.number c.in_err-count.ensures.pushed c.in_err-count.ensures.carries)

pub returns-in_err-count-clause-goes : goal.returns-in_err-count-clause-goes
returns-in_err-count-clause-goes g c = on_trans _ _ _ c.in_ok-fetch.ensures.goes c.in_err-count.ensures.goes

pub returns-clause-kept : goal.returns-clause-kept
returns-clause-kept g c gr s is stands running =
    kept_applying c.args.self.now.node.node.identity c.args.draw.now c.args.self.now c.args.reader.now c.requires.next gr s is stands running (g.R.Disk.told c.args.rep.now) c.args.report.now.now c.args.report.now.marks
    (g.R.Disk.told c.fetch.new.d) c.in_ok-fetch.ensures.runs
    (g.R.Disk.told c.apply.new.d) c.fetch.new.self c.apply.new.self c.in_ok-fetch.ensures.identity
    (c.in_ok-fetch.ensures.ok ∙ ap (λ (bs : List ℕ). fetched bs (kept c.args.self.now)) (c.in_ok-group.ensures ∙ c.bytes.ensures))
    c.apply.new.report.marks c.apply.new.self.store.number c.in_ok-count.ensures.pushed c.in_ok-count.ensures.reaches
    _
    (now_stands c.args.draw.now c.args.self.now c.args.reader.now c.requires.next c.in_ok-group.group (c.in_ok-group.ensures ∙ c.bytes.ensures)
    c.fetch.new.self c.apply.new.self c.in_ok-fetch.ensures.identity c.in_ok-fetch.ensures.ok c.in_ok-count.field-0 c.in_ok-count.ensures.replica c.in_ok-count.ensures.told
    gr s is stands running)
    refl c.in_ok-count.ensures.on c.in_ok-count.ensures.number (omega (arith, c.in_ok-count.ensures.marks))

pub returns-clause-goes : goal.returns-clause-goes
returns-clause-goes g c = on_trans _ _ _ c.in_ok-fetch.ensures.goes c.in_ok-count.ensures.goes
