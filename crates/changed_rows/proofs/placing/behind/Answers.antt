use Rattle.std.proofs.Common.{refl}
use Rattle.changed_rows.proofs.Inserts.{is_behind}
use Rattle.changed_rows.proofs.placing.behind.Goals as goal

pub returns : goal.returns
returns c = is_behind c.args.around.now _ c.args.row refl
