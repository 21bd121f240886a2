use Rattle.sql_locals.proofs.Places.{bytes_small}
use Rattle.sql_locals.proofs.locals.is_text.Goals as goal

pub returns : goal.returns
returns c = bytes_small c.args.bytes.now c.type_inv.bytes
