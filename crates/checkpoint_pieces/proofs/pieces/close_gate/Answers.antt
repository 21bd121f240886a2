use Rattle.disk_model.proofs.Quiet.{quiet_trans}
use Rattle.checkpoint_pieces.proofs.Both.{ok_one, only_quiet}
use Rattle.checkpoint_pieces.proofs.Closing.{gate_put_closed, gate_put_shut, nothing_closed, said_before, stood_shut}
use Rattle.checkpoint_pieces.proofs.pieces.close_gate.Goals as goal

pub returns-in_err-settle-clause-steps : goal.returns-in_err-settle-clause-steps
returns-in_err-settle-clause-steps g c = nothing_closed _ _ c.args.file c.settle.ensures.quiet c.requires.durable

pub returns-in_err-shut-clause-steps : goal.returns-in_err-shut-clause-steps
returns-in_err-shut-clause-steps g c = nothing_closed _ _ c.args.file (quiet_trans _ _ _ c.settle.ensures.quiet c.is_shut.ensures.quiet) c.requires.durable

pub returns-then-shut-clause-durable : goal.returns-then-shut-clause-durable
returns-then-shut-clause-durable g c = only_quiet _ _ c.args.file c.is_shut.ensures.quiet c.in_ok-settle.ensures.durable

pub returns-then-shut-clause-shut : goal.returns-then-shut-clause-shut
returns-then-shut-clause-shut g c = stood_shut _ _ c.args.file (quiet_trans _ _ _ c.settle.ensures.quiet c.is_shut.ensures.quiet) c.requires.durable
    (said_before _ _ c.args.file _ _ c.if-shut.true c.settle.ensures.quiet c.in_ok-shut.ensures.is)

pub returns-then-shut-clause-steps : goal.returns-then-shut-clause-steps
returns-then-shut-clause-steps g c = nothing_closed _ _ c.args.file (quiet_trans _ _ _ c.settle.ensures.quiet c.is_shut.ensures.quiet) c.requires.durable

pub put-requires-clause-durable : goal.put-requires-clause-durable
put-requires-clause-durable g c = only_quiet _ _ c.args.file c.is_shut.ensures.quiet c.in_ok-settle.ensures.durable

pub returns-clause-shut : goal.returns-clause-shut
returns-clause-shut g c = ok_one c.put.result c.put.ensures.reads (λ reads.
    gate_put_shut _ _ c.args.file (quiet_trans _ _ _ c.settle.ensures.quiet c.is_shut.ensures.quiet) c.requires.durable _ c.put.ensures.puts reads)

pub returns-clause-steps : goal.returns-clause-steps
returns-clause-steps g c = gate_put_closed _ _ c.args.file (quiet_trans _ _ _ c.settle.ensures.quiet c.is_shut.ensures.quiet) c.requires.durable _ c.put.ensures.puts
    (said_before _ _ c.args.file _ _ c.if-shut.false c.settle.ensures.quiet c.in_ok-shut.ensures.is)
