use Rattle.test_checkpoints.proofs.Staying.{made_stays, of_node}
use Rattle.test_checkpoints.proofs.opening.once.Goals as goal

pub checkpoint-requires : goal.checkpoint-requires
checkpoint-requires g c = record { durable = of_node _ c.args.node _ c.in_ok-opened.ensures.node c.in_ok-opened.ensures.durable }

pub returns : goal.returns
returns g c = made_stays c.checkpoint.result c.as_opening.result tt _ _ c.args.node c.as_opening.ensures c.checkpoint.ensures.durable c.in_ok-opened.ensures.node
