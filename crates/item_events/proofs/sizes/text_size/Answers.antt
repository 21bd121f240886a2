use Rattle.item_events.proofs.Measuring.{text_sized}
use Rattle.item_events.proofs.sizes.text_size.Goals as goal

pub returns : goal.returns
returns c = λ stamp.
    text_sized c.args.text.now c.args.carried.now stamp c.numbers_size.result c.vars_size.result c.saturating_add-needs.result c.query_size.result c.saturating_add.result
    c.numbers_size.ensures c.vars_size.ensures c.saturating_add-needs.ensures c.query_size.ensures c.saturating_add.ensures
