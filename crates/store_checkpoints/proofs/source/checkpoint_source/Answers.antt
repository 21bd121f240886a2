use Rattle.std.proofs.Common.{rules, ap, ◌∙◌}
use Rattle.commit_store.specs.declared.store.Store.{Store}
use Rattle.store_model.specs.declared.record.Kind.TheVariants.{Source}
use Rattle.store_source.proofs.Begun.{not_empty}
use Rattle.store_source.proofs.Images.{no_call}
use Rattle.store_checkpoints.proofs.Again.{has_log, next_is, read_again, source_numbers}
use Rattle.store_checkpoints.proofs.Staying.{on_ok, source_on, source_stays, source_told}
use Rattle.store_checkpoints.proofs.source.checkpoint_source.Goals as goal

pub checkpoint-requires : goal.checkpoint-requires
checkpoint-requires g c = record { durable = c.requires.1.keeps.holds.durable }

pub returns-then-generation-clause-stays : goal.returns-then-generation-clause-stays
returns-then-generation-clause-stays g c s can = no_call _ _ s can.on

pub returns-then-is_empty-clause-stays : goal.returns-then-is_empty-clause-stays
returns-then-is_empty-clause-stays g c s can = no_call _ _ s can.on

pub returns-clause-stays : goal.returns-clause-stays
returns-clause-stays g c s can =
    source_stays _ c.args.store.now c.args.tables.now c.args.objects.now s can c.generation_fits.ensures
    (λ next. read_again c.held_is_made_again.ensures.images c.held_is_read_again.ensures Source c.args.store.now.generation s.held can.tables next _ c.calls.ensures.bytes
    (source_told _ c.args.store.now s can.on) (source_numbers c.sources_have_places.ensures c.args.store.now.generation _ s.held (has_log _ c.args.store.now s can.on
    (not_empty c.is_empty.result c.ends.result.now c.args.store.now.ends.list c.is_empty.ensures (search rules) c.ends.ensures))))
    _ (c.checkpoint.ensures.images s.held) (λ last. (c.checkpoint.ensures.last last).1)

pub returns-clause-on : goal.returns-clause-on
returns-clause-on g c s can =
    source_on _ c.args.store.now c.args.tables.now c.args.objects.now s can c.generation_fits.ensures
    (λ next. read_again c.held_is_made_again.ensures.images c.held_is_read_again.ensures Source c.args.store.now.generation s.held can.tables next _ c.calls.ensures.bytes
    (source_told _ c.args.store.now s can.on) (source_numbers c.sources_have_places.ensures c.args.store.now.generation _ s.held (has_log _ c.args.store.now s can.on
    (not_empty c.is_empty.result c.ends.result.now c.args.store.now.ends.list c.is_empty.ensures (search rules) c.ends.ensures))))
    _ c.checkpoint.result c.checkpoint.new.s (c.checkpoint.ensures.images s.held) (c.checkpoint.ensures.keeps s.held)
    (ap (λ (k : Store). k.node) c.checkpoint.ensures.rest) (λ last. ((c.checkpoint.ensures.last last).1, (c.checkpoint.ensures.last last).2))

pub returns-clause-generation : goal.returns-clause-generation
returns-clause-generation g c = on_ok c.checkpoint.result c.checkpoint.ensures.generation (λ is. is ∙ next_is _ c.generation_fits.ensures)

pub returns-clause-number : goal.returns-clause-number
returns-clause-number g c = ap (λ (k : Store). k.number) c.checkpoint.ensures.rest
