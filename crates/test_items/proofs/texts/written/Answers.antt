use Rattle.test_items.proofs.Written.{text_can}
use Rattle.test_items.proofs.texts.written.Goals as goal

pub put_item-requires-clause-carried : goal.put_item-requires-clause-carried
put_item-requires-clause-carried c = rw c.requires tt

pub put_item-requires-clause-events : goal.put_item-requires-clause-events
put_item-requires-clause-events c = rw c.requires text_can
