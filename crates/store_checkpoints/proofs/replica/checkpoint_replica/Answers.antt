use Rattle.std.proofs.Common.{ap, ◌∙◌}
use Rattle.commit_store.specs.declared.store.Store.{Store}
use Rattle.store_model.specs.declared.record.Kind.TheVariants.{Replica}
use Rattle.store_checkpoints.proofs.Again.{next_is, read_again, replica_numbers}
use Rattle.store_checkpoints.proofs.Staying.{on_ok, replica_fetched, replica_goes, replica_on, replica_stays, replica_told}
use Rattle.store_checkpoints.proofs.replica.checkpoint_replica.Goals as goal

pub checkpoint-requires : goal.checkpoint-requires
checkpoint-requires g c = record { durable = c.requires.1.keeps.holds.durable }

pub returns-clause-goes : goal.returns-clause-goes
returns-clause-goes g c held can =
    replica_goes _ c.args.store.now c.args.tables.now c.args.objects.now held can c.generation_fits.ensures
    (λ next. read_again c.held_is_made_again.ensures.images c.held_is_read_again.ensures Replica c.args.store.now.generation held can.tables next _ c.calls.ensures.bytes
    (replica_told _ c.args.store.now held can.on) (λ stands. replica_numbers _ c.args.store.now held can.on c.place_fits.ensures.log c.place_fits.ensures.pos))
    _ (c.checkpoint.ensures.images held) (λ last. (c.checkpoint.ensures.last last).1)

pub returns-clause-images : goal.returns-clause-images
returns-clause-images g c held can =
    replica_stays _ c.args.store.now c.args.tables.now c.args.objects.now held can c.generation_fits.ensures
    (λ next. read_again c.held_is_made_again.ensures.images c.held_is_read_again.ensures Replica c.args.store.now.generation held can.tables next _ c.calls.ensures.bytes
    (replica_told _ c.args.store.now held can.on) (λ stands. replica_numbers _ c.args.store.now held can.on c.place_fits.ensures.log c.place_fits.ensures.pos))
    _ (c.checkpoint.ensures.images held) (λ last. (c.checkpoint.ensures.last last).1)

pub returns-clause-fetched : goal.returns-clause-fetched
returns-clause-fetched g c held can =
    replica_fetched _ c.args.store.now c.args.tables.now c.args.objects.now held can c.generation_fits.ensures
    (λ next. read_again c.held_is_made_again.ensures.images c.held_is_read_again.ensures Replica c.args.store.now.generation held can.tables next _ c.calls.ensures.bytes
    (replica_told _ c.args.store.now held can.on) (λ stands. replica_numbers _ c.args.store.now held can.on c.place_fits.ensures.log c.place_fits.ensures.pos))
    _ (c.checkpoint.ensures.images held) (λ last. (c.checkpoint.ensures.last last).1)

pub returns-clause-on : goal.returns-clause-on
returns-clause-on g c held can =
    replica_on _ c.args.store.now c.args.tables.now c.args.objects.now held can c.generation_fits.ensures
    (λ next. read_again c.held_is_made_again.ensures.images c.held_is_read_again.ensures Replica c.args.store.now.generation held can.tables next _ c.calls.ensures.bytes
    (replica_told _ c.args.store.now held can.on) (λ stands. replica_numbers _ c.args.store.now held can.on c.place_fits.ensures.log c.place_fits.ensures.pos))
    _ (c.checkpoint.ensures.images held) c.checkpoint.result c.checkpoint.new.s (c.checkpoint.ensures.keeps held)
    (ap (λ (k : Store). k.node) c.checkpoint.ensures.rest) (λ last. ((c.checkpoint.ensures.last last).1, (c.checkpoint.ensures.last last).2))

pub returns-clause-generation : goal.returns-clause-generation
returns-clause-generation g c = on_ok c.checkpoint.result c.checkpoint.ensures.generation (λ is. is ∙ next_is _ c.generation_fits.ensures)

pub returns-clause-number : goal.returns-clause-number
returns-clause-number g c = ap (λ (k : Store). k.number) c.checkpoint.ensures.rest
