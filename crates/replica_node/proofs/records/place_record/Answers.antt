use Rattle.std.proofs.Common.{refl}
use Rattle.commit_store.specs.store_model.declared.record.Kind.TheVariants as kind
use Rattle.commit_store.specs.store_model.declared.record.Record.TheVariants.{PlaceMoved}
use Rattle.replica_node.proofs.Recording.{made_of, place_body}
use Rattle.replica_node.proofs.records.place_record.Goals as goal

pub new-requires-clause-form : goal.new-requires-clause-form
new-requires-clause-form c = (kind.Replica, (place_body c.args.head c.is_head.ensures).form)

pub new-requires-clause-fits : goal.new-requires-clause-fits
new-requires-clause-fits c = (place_body c.args.head c.is_head.ensures).fits

pub returns : goal.returns
returns c = made_of c.new.result (PlaceMoved c.args.head) (PlaceMoved c.args.head) c.new.ensures refl (place_body c.args.head c.is_head.ensures)
