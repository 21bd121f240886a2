use Rattle.durable_runs.proofs.Storing.{source_begins, source_behind, source_images}
use Rattle.durable_runs.proofs.stores.sources_last.Goals as goal

pub returns : goal.returns
returns c = record { begins = source_begins; images = source_images; behind = source_behind }
