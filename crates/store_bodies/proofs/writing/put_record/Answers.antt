use Rattle.store_bodies.proofs.Fitting.{has_form}
use Rattle.store_bodies.proofs.writing.put_record.Goals as goal

pub put_body-put-requires : goal.put_body-put-requires
put_body-put-requires c = has_form c.requires.0 c.args.r.now c.requires.1
