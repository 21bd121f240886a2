use Rattle.row_events.proofs.Summing.{item_sized}
use Rattle.row_events.proofs.event_sizes.rows_size.Goals as goal

pub returns : goal.returns
returns c = λ stamp. item_sized c.args.defs.now c.args.changes.now stamp c.maps_size.result c.runs_size.result c.saturating_add.result c.maps_size.ensures c.runs_size.ensures c.saturating_add.ensures
