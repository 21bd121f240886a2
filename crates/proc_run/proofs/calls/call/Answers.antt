use Rattle.proc_parts.specs.catalog_objects.Keys.{objects_of}
use Rattle.exec_state.specs.declared.running.Running.{Nothing}
use Rattle.exec_state.specs.UnderWay.{under_way}
use Rattle.proc_parts.specs.Calls.{held_of, left_of}
use Rattle.proc_run.proofs.Answering.{call_comes, nobody_runs}
use Rattle.proc_run.proofs.calls.call.Goals as goal

pub returns-clause-call : goal.returns-clause-call
returns-clause-call g c =
    call_comes g.R.Ruled.rules g.R.Runner.faults (objects_of c.args.catalog.now) (left_of c.args.m.now) c.args.name.now c.args.values (under_way Nothing).functions
    (record { turns = c.args.m.now.turns; uuids = c.args.m.now.uuids; sets = c.new.result; affected = 0 }) c.call_procedure-result.result c.answer.result (held_of c.call_procedure-result.new.held) c.args.r.now c.call_procedure-result.new.r
    nobody_runs (λ i. record { turns = c.args.m.now.turns; uuids = c.args.m.now.uuids; sets = c.new.ensures i; affected = 0 })
    c.call_procedure-result.ensures.gives c.answer.ensures.gives
