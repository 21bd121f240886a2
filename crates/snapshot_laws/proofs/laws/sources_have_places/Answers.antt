use Rattle.snapshot_laws.proofs.Places.{places_held}
use Rattle.snapshot_laws.proofs.laws.sources_have_places.Goals as goal

pub returns : goal.returns
returns c generation image held stands some = places_held generation image held stands some
