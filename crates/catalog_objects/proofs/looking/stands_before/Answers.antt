use Rattle.std.proofs.Common.{◌≡◌, ◌∙◌, rules}
use Rattle.std.specs.Ordering.{is_gt}
use Rattle.catalog_objects.specs.Keys.{Key, key_of, key_order}
use Rattle.catalog_objects.proofs.Orders.{keys_total, keys_exact}
use Rattle.catalog_objects.proofs.Rising.{is_before_gt}
use Rattle.catalog_objects.proofs.looking.stands_before.Goals as goal

pub returns : goal.returns
returns c =
    let key : Key = record { kind = c.args.kind; name = c.args.name.now } in
    let gt : c.is_gt.result ≡ is_gt (key_order key (key_of c.args.object.now)) = search rules in
    gt ∙ is_before_gt key_of keys_total keys_exact key c.args.object.now
