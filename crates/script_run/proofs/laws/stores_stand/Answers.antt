use Rattle.script_run.proofs.Beginning.{stores_stand}
use Rattle.script_run.proofs.laws.stores_stand.Goals as goal

pub returns : goal.returns
returns c = stores_stand c.images_stand.ensures.apart c.images_stand.ensures.logs
