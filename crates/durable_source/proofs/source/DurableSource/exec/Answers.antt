use Rattle.std.proofs.Common.{map}
use Rattle.session_model.specs.Machine.{kept_entry, machine_after, step, whole}
use Rattle.durable_source.proofs.Entering.{can_log_all}
use Rattle.durable_source.proofs.Standings.{can_write, holds_on, idle_runs, pushed_from, stands_on}
use Rattle.durable_source.proofs.source.DurableSource.exec.Goals as goal

pub returns-in_default-clause-runs : goal.returns-in_default-clause-runs
returns-in_default-clause-runs g c from m stands holds fits =
    idle_runs _ c.args.self.now from m stands (step whole c.args.self.now.node.identity m.state c.args.session c.args.text.now c.args.draw.now).committed c.args.report.now.marks

pub write_out-requires : goal.write_out-requires
write_out-requires g c =
    let from = c.requires.on.0 in
    let m = c.requires.on.1.0 in
    let stands = c.requires.on.1.1.0 in
    let holds = c.requires.on.1.1.1 in
    (stands.now, ((step whole c.args.self.now.node.identity m.state c.args.session c.args.text.now c.args.draw.now).committed, can_write _ c.args.self.now from m stands holds c.runs_hold.ensures.goes_on c.args.session c.requires.number c.args.text.now c.requires.length c.args.draw.now c.exec.new.self c.in-Ok.answer (c.in-Ok.ensures.stands m stands.node) c.take_waiting-queue.result c.take_waiting-queue.ensures.taken))

pub returns-in_err-write_out-clause-runs : goal.returns-in_err-write_out-clause-runs
returns-in_err-write_out-clause-runs g c from m stands holds fits =
    c.write_out.ensures.run stands.now (step whole c.args.self.now.node.identity m.state c.args.session c.args.text.now c.args.draw.now).committed
    (can_write _ c.args.self.now from m stands holds c.runs_hold.ensures.goes_on c.args.session c.requires.number c.args.text.now c.requires.length c.args.draw.now c.exec.new.self c.in-Ok.answer (c.in-Ok.ensures.stands m stands.node) c.take_waiting-queue.result c.take_waiting-queue.ensures.taken) fits

pub returns-in_err-write_out-clause-goes : goal.returns-in_err-write_out-clause-goes
returns-in_err-write_out-clause-goes g c =
    let from = c.requires.on.0 in
    let m = c.requires.on.1.0 in
    let stands = c.requires.on.1.1.0 in
    let holds = c.requires.on.1.1.1 in
    c.write_out.ensures.goes stands.now (step whole c.args.self.now.node.identity m.state c.args.session c.args.text.now c.args.draw.now).committed
    (can_write _ c.args.self.now from m stands holds c.runs_hold.ensures.goes_on c.args.session c.requires.number c.args.text.now c.requires.length c.args.draw.now c.exec.new.self c.in-Ok.answer (c.in-Ok.ensures.stands m stands.node) c.take_waiting-queue.result c.take_waiting-queue.ensures.taken)

pub returns-in_err-write_out-clause-pushed : goal.returns-in_err-write_out-clause-pushed
returns-in_err-write_out-clause-pushed g c =
    let from = c.requires.on.0 in
    let m = c.requires.on.1.0 in
    let stands = c.requires.on.1.1.0 in
    let holds = c.requires.on.1.1.1 in
    pushed_from _ c.args.self.now from m stands _ _ _ _ (c.write_out.ensures.pushed stands.now (step whole c.args.self.now.node.identity m.state c.args.session c.args.text.now c.args.draw.now).committed
    (can_write _ c.args.self.now from m stands holds c.runs_hold.ensures.goes_on c.args.session c.requires.number c.args.text.now c.requires.length c.args.draw.now c.exec.new.self c.in-Ok.answer (c.in-Ok.ensures.stands m stands.node) c.take_waiting-queue.result c.take_waiting-queue.ensures.taken))

pub returns-clause-stands : goal.returns-clause-stands
returns-clause-stands g c from m stands holds = (
  (c.in-Ok.ensures.stands m stands.node).answer,
  stands_on _ c.args.self.now from m stands holds c.runs_hold.ensures.goes_on c.args.session c.requires.number c.args.text.now c.requires.length c.args.draw.now c.exec.new.self c.in-Ok.answer (c.in-Ok.ensures.stands m stands.node) _
      (record { alloc = c.args.self.now.alloc; node = c.take_waiting-queue.new.self; store = c.write_out.new.store }) c.take_waiting-queue.ensures.rest
      (λ after made. c.in_ok-write_out.ensures.on stands.now after (step whole c.args.self.now.node.identity m.state c.args.session c.args.text.now c.args.draw.now).committed
      (can_write _ c.args.self.now from m stands holds c.runs_hold.ensures.goes_on c.args.session c.requires.number c.args.text.now c.requires.length c.args.draw.now c.exec.new.self c.in-Ok.answer (c.in-Ok.ensures.stands m stands.node) c.take_waiting-queue.result c.take_waiting-queue.ensures.taken) made),
)

pub returns-clause-runs : goal.returns-clause-runs
returns-clause-runs g c from m stands holds fits =
    c.write_out.ensures.run stands.now (step whole c.args.self.now.node.identity m.state c.args.session c.args.text.now c.args.draw.now).committed
    (can_write _ c.args.self.now from m stands holds c.runs_hold.ensures.goes_on c.args.session c.requires.number c.args.text.now c.requires.length c.args.draw.now c.exec.new.self c.in-Ok.answer (c.in-Ok.ensures.stands m stands.node) c.take_waiting-queue.result c.take_waiting-queue.ensures.taken) fits

pub returns-clause-can : goal.returns-clause-can
returns-clause-can g c from m stands holds =
    can_log_all (map kept_entry (step whole c.args.self.now.node.identity m.state c.args.session c.args.text.now c.args.draw.now).committed) m.state.shared.committed m.state.shared.place
    (c.in-Ok.ensures.stands m stands.node).can

pub returns-clause-goes : goal.returns-clause-goes
returns-clause-goes g c =
    let from = c.requires.on.0 in
    let m = c.requires.on.1.0 in
    let stands = c.requires.on.1.1.0 in
    let holds = c.requires.on.1.1.1 in
    c.write_out.ensures.goes stands.now (step whole c.args.self.now.node.identity m.state c.args.session c.args.text.now c.args.draw.now).committed
    (can_write _ c.args.self.now from m stands holds c.runs_hold.ensures.goes_on c.args.session c.requires.number c.args.text.now c.requires.length c.args.draw.now c.exec.new.self c.in-Ok.answer (c.in-Ok.ensures.stands m stands.node) c.take_waiting-queue.result c.take_waiting-queue.ensures.taken)

pub returns-clause-some : goal.returns-clause-some
returns-clause-some g c =
    let from = c.requires.on.0 in
    let m = c.requires.on.1.0 in
    let stands = c.requires.on.1.1.0 in
    let holds = c.requires.on.1.1.1 in (
      from,
      (
        machine_after m (step whole c.args.self.now.node.identity m.state c.args.session c.args.text.now c.args.draw.now),
        (
          stands_on _ c.args.self.now from m stands holds c.runs_hold.ensures.goes_on c.args.session c.requires.number c.args.text.now c.requires.length c.args.draw.now c.exec.new.self c.in-Ok.answer (c.in-Ok.ensures.stands m stands.node) _
              (record { alloc = c.args.self.now.alloc; node = c.take_waiting-queue.new.self; store = c.write_out.new.store }) c.take_waiting-queue.ensures.rest
              (λ after made. c.in_ok-write_out.ensures.on stands.now after (step whole c.args.self.now.node.identity m.state c.args.session c.args.text.now c.args.draw.now).committed
              (can_write _ c.args.self.now from m stands holds c.runs_hold.ensures.goes_on c.args.session c.requires.number c.args.text.now c.requires.length c.args.draw.now c.exec.new.self c.in-Ok.answer (c.in-Ok.ensures.stands m stands.node) c.take_waiting-queue.result c.take_waiting-queue.ensures.taken) made),
          holds_on _ c.args.self.now from m stands holds c.runs_hold.ensures.goes_on c.args.session c.requires.number c.args.text.now c.requires.length c.args.draw.now,
        ),
      ),
    )

pub returns-clause-pushed : goal.returns-clause-pushed
returns-clause-pushed g c =
    let from = c.requires.on.0 in
    let m = c.requires.on.1.0 in
    let stands = c.requires.on.1.1.0 in
    let holds = c.requires.on.1.1.1 in
    pushed_from _ c.args.self.now from m stands _ _ _ _ (c.write_out.ensures.pushed stands.now (step whole c.args.self.now.node.identity m.state c.args.session c.args.text.now c.args.draw.now).committed
    (can_write _ c.args.self.now from m stands holds c.runs_hold.ensures.goes_on c.args.session c.requires.number c.args.text.now c.requires.length c.args.draw.now c.exec.new.self c.in-Ok.answer (c.in-Ok.ensures.stands m stands.node) c.take_waiting-queue.result c.take_waiting-queue.ensures.taken))

pub returns-clause-generation : goal.returns-clause-generation
returns-clause-generation g c = c.write_out.ensures.generation
