use Rattle.store_laws.proofs.Records.{body_still}
use Rattle.store_laws.proofs.Snapshots.{stands_again}
use Rattle.store_laws.proofs.laws.held_is_made_again.Goals as goal

pub returns-clause-records : goal.returns-clause-records
returns-clause-records c kind body held now bytes e are = body_still c.still_made_again.ensures.bases kind body held now bytes e are

pub returns-clause-images : goal.returns-clause-images
returns-clause-images c kind image held bytes e =
    let stands = (c.images_stand.ensures.apart kind image held e) in
    stands_again c.still_made_again.ensures.bases c.still_made_again.ensures.none kind stands.0 image held bytes stands.1
