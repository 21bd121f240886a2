use Rattle.std.proofs.Common.{rules}
use Rattle.std.proofs.lemmas.List.Sorted.{IsPartitionPoint-from_clause}
use Rattle.catalog_objects.specs.Keys.{Key, key_of, key_order}
use Rattle.catalog_objects.specs.Rising.{is_before}
use Rattle.catalog_objects.proofs.Orders.{keys_total, keys_exact}
use Rattle.catalog_objects.proofs.Rising.{parted, parts_at}
use Rattle.catalog_objects.proofs.looking.place_of.Goals as goal

pub returns : goal.returns
returns c =
    let key : Key = record { kind = c.args.kind; name = c.args.name.now } in
    parts_at key_of keys_total keys_exact key c.args.named.now c.partition_point.result c.partition_point.ensures.bound
    (IsPartitionPoint-from_clause (is_before key_order key_of key) _ _ c.partition_point.ensures.partitioned (parted key_of keys_total keys_exact key c.args.named.now c.requires) (λ a r q k. search rules))
