use Rattle.store_model.proofs.Standing.{one_more_stands}
use Rattle.store_model.proofs.laws.records_are_applied.Goals as goal

pub returns : goal.returns
returns c kind generation image image' body r held now stands same read is makes logs =
    one_more_stands kind generation image image' held stands same body r now read is makes logs
