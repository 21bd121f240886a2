use Rattle.std.proofs.Common.{arith, map, length-append}
use Rattle.val_types.specs.Fitting.{is_null}
use Rattle.log_model.specs.Images.{row_bytes, bits_bytes, values_bytes}
use Rattle.log_model.specs.Items.{kind_of}
use Rattle.row_events.proofs.Measuring.{bits_size}
use Rattle.row_events.proofs.image_sizes.row_size.Goals as goal

pub returns : goal.returns
unfolding row_bytes
returns c =
    let bits = bits_size c.args.row.now in
    let whole = length-append (bits_bytes (map is_null c.args.row.now)) (values_bytes (map kind_of c.args.columns.now) c.args.row.now) in
    omega (arith, bits, whole, c.div_ceil.ensures, c.values_size.ensures, c.saturating_add.ensures)
