use Rattle.std.proofs.Common.{refl}
use Rattle.std.specs.Fmt.{digits}
use Rattle.dump_store.proofs.worked.dumps_by_hand.Goals as goal

pub returns-clause-objects : goal.returns-clause-objects
unfolding digits
returns-clause-objects c = refl
