use Rattle.std.proofs.Common.{◌+◌, ap, refl, ◌∙◌}
use Rattle.checkpoint.proofs.Keeping.{at_next, closes, goes_on, journal_durable, snapshot_durable, to_work, untouched}
use Rattle.checkpoint.proofs.checkpointing.checkpoint.Goals as goal

pub returns-then-generation-clause-images : goal.returns-then-generation-clause-images
returns-then-generation-clause-images g c held can = untouched c.args.s.now c.args.tables.now c.args.objects.now _ refl _ held can

pub returns-in_err-framed-clause-images : goal.returns-in_err-framed-clause-images
returns-in_err-framed-clause-images g c held can = untouched c.args.s.now c.args.tables.now c.args.objects.now _ refl _ held can

pub put_pieces-requires-clause-snapshot : goal.put_pieces-requires-clause-snapshot
put_pieces-requires-clause-snapshot g c = snapshot_durable _ _ _ c.requires.durable

pub put_pieces-requires-clause-journal : goal.put_pieces-requires-clause-journal
put_pieces-requires-clause-journal g c = journal_durable _ _ _ c.requires.durable

pub returns-in_err-put_pieces-clause-images : goal.returns-in_err-put_pieces-clause-images
returns-in_err-put_pieces-clause-images g c held can =
    let next_is = ap (λ n. n + 1) c.generation-generation.ensures in
    at_next c.args.s.now c.args.tables.now c.args.objects.now _ next_is _ _ held
    (c.put_pieces.ensures.images _ _ held next_is (to_work _ c.args.s.now c.args.tables.now c.args.objects.now held can _ _ next_is (c.as_slice.ensures ∙ c.in_ok-framed.ensures.bytes) c.in_ok-framed.ensures.sizes))

pub returns-clause-images : goal.returns-clause-images
returns-clause-images g c held can =
    let next_is = ap (λ n. n + 1) c.generation-generation.ensures in
    at_next c.args.s.now c.args.tables.now c.args.objects.now _ next_is _ _ held
    (c.put_pieces.ensures.images _ _ held next_is (to_work _ c.args.s.now c.args.tables.now c.args.objects.now held can _ _ next_is (c.as_slice.ensures ∙ c.in_ok-framed.ensures.bytes) c.in_ok-framed.ensures.sizes))

pub returns-clause-keeps : goal.returns-clause-keeps
returns-clause-keeps g c held can =
    let next_is = ap (λ n. n + 1) c.generation-generation.ensures in
    c.move_to.ensures.keeps _ held (goes_on c.args.s.now c.args.tables.now c.args.objects.now _ next_is _ _ held can
    (c.in_ok-put_pieces.ensures.newest _ _ held next_is (to_work _ c.args.s.now c.args.tables.now c.args.objects.now held can _ _ next_is (c.as_slice.ensures ∙ c.in_ok-framed.ensures.bytes) c.in_ok-framed.ensures.sizes)))

pub returns-clause-closed : goal.returns-clause-closed
returns-clause-closed g c held can more =
    let next_is = ap (λ n. n + 1) c.generation-generation.ensures in
    closes c.args.s.now c.args.tables.now c.args.objects.now _ next_is _ held
    (c.in_ok-put_pieces.ensures.newest _ _ held next_is (to_work _ c.args.s.now c.args.tables.now c.args.objects.now held can _ _ next_is (c.as_slice.ensures ∙ c.in_ok-framed.ensures.bytes) c.in_ok-framed.ensures.sizes))
