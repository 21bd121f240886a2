use Rattle.test_checkpoints.proofs.Staying.{of_node}
use Rattle.test_checkpoints.proofs.opening.checkpointed_beside.Goals as goal

pub checkpoint-requires : goal.checkpoint-requires
checkpoint-requires g c = record { durable = of_node _ c.args.node _ c.in_ok-opened.ensures.node c.in_ok-opened.ensures.durable }
