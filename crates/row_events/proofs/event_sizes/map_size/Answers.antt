use Rattle.row_events.proofs.Summing.{map_sized}
use Rattle.std.proofs.Common.{arith}
use Rattle.row_events.proofs.event_sizes.map_size.Goals as goal

pub returns : goal.returns
returns c = λ id.
    map_sized id c.args.name.now c.args.columns.now c.all_metadata_size-metadata.result c.encoded_size.result c.encoded_size-2.result c.div_ceil.result c.saturating_add.result
    c.all_metadata_size-metadata.ensures.exact c.encoded_size.ensures.exact c.encoded_size-2.ensures.exact (omega (arith, c.div_ceil.ensures)) (omega (arith, c.saturating_add.ensures, c.len.ensures))
