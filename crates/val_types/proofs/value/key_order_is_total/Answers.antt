use Rattle.val_types.proofs.Values.{key_order_total}
use Rattle.val_types.proofs.value.key_order_is_total.Goals as goal

pub returns : goal.returns
returns c = key_order_total
