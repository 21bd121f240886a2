use Rattle.test_rows.proofs.Beside.{beside}
use Rattle.test_rows.proofs.tests.changes.is_shown_again.Goals as goal

pub put_back-requires : goal.put_back-requires
put_back-requires c = beside c.in-Ok.aside c.args.tables.now c.set_aside.new.self c.is_put_beside-beside.new.tables c.in-Ok.ensures.aside c.in-Ok.ensures.ok c.is_put_beside-beside.ensures
