use Rattle.std.proofs.Common.{ap, sym}
use Rattle.snapshot_bodies.specs.store_bodies.Ends.{ends_at}
use Rattle.checkpoint.specs.Checkpoints.{held_kept}
use Rattle.checkpoint_pieces.proofs.Both.{ok_one}
use Rattle.checkpoint.proofs.Framing.{body_made, same_place}
use Rattle.checkpoint.proofs.snapshot.put_body.Goals as goal

pub returns-clause-body : goal.returns-clause-body
returns-clause-body c = ok_one c.put_base.result c.put_base.ensures.base (λ base.
    body_made c.args.s.now.node _ c.args.generation _ (held_kept c.args.s.now c.args.tables.now c.args.objects.now) _ _ _ _ c.node-kind.ensures c.number.ensures
    c.in_ok-put_head.ensures
    (c.in_ok-put_places.ensures (held_kept c.args.s.now c.args.tables.now c.args.objects.now) (ap ends_at (sym c.ends.ensures)) (same_place _ _ _ _ c.log.ensures c.pos.ensures))
    base)
