use Rattle.std.proofs.Common.{◌≡◌, true, false, rules, arith}
use Rattle.catalog_objects.specs.Keys.{Key, key_of, key_order}
use Rattle.catalog_objects.specs.Rising.{has_key}
use Rattle.catalog_objects.proofs.Orders.{keys_total, keys_exact}
use Rattle.catalog_objects.proofs.Rising.{found_at, missed_at, past_all}
use Rattle.catalog_objects.proofs.looking.object_of.Goals as goal
use Rattle.catalog_objects.proofs.looking.object_of.Goals.{then-at-named+else-is_eq, else-at-named}

pub returns-then-is_eq : goal.returns-then-is_eq
returns-then-is_eq c =
    let key : Key = record { kind = c.args.kind; name = c.args.name.now } in
    let is : has_key key_order key_of key c.index-named-at.result ≡ true = search rules in
    found_at key_of keys_total keys_exact key c.args.named.now c.place_of-at.result c.index-named-at.result c.place_of-at.ensures c.if-at-named.true c.index-named-at.is is

pub returns : goal.returns
returns c = elim c.if-at-named.branch [
  | then-at-named+else-is_eq w ↦
      let key : Key = record { kind = c.args.kind; name = c.args.name.now } in
      let other : has_key key_order key_of key w.index-named-at.result ≡ false = search rules in
      missed_at key_of keys_total keys_exact key c.args.named.now c.place_of-at.result w.index-named-at.result c.requires c.place_of-at.ensures w.index-named-at.is other
  | else-at-named w ↦ past_all key_of keys_total keys_exact (record { kind = c.args.kind; name = c.args.name.now }) c.args.named.now c.place_of-at.result c.requires c.place_of-at.ensures (omega arith)
]
