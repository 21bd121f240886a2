use Rattle.std.proofs.Common.{arith}
use Rattle.row_events.specs.log_model.Items.{query_of}
use Rattle.item_events.proofs.Measuring.{size_of_query}
use Rattle.item_events.proofs.sizes.query_size.Goals as goal

pub returns : goal.returns
returns c =
    let size-of = size_of_query (query_of c.args.text.now c.args.carried.now) in
    omega (arith, size-of, c.len.ensures, c.step_size.ensures, c.saturating_add-text_size.ensures, c.saturating_add.ensures)
