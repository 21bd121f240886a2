use Rattle.std.proofs.Common.{◌≡◌, ℕ, ◌≤◌, length, ap, ◌∙◌, arith, rules}
use Rattle.std.specs.List.{insert}
use Rattle.catalog_objects.specs.Keys.{key_of, key_order}
use Rattle.catalog_objects.specs.Rising.{is_not_before, place}
use Rattle.catalog_objects.proofs.Orders.{keys_total, keys_exact}
use Rattle.catalog_objects.proofs.Rising.{inserted, place_at_most}
use Rattle.catalog_objects.proofs.looking.put_named.Goals as goal

pub put_in-requires-clause-within : goal.put_in-requires-clause-within
put_in-requires-clause-within c =
    let at : c.place_of-at.result ≡ place (is_not_before key_order key_of (key_of c.args.object)) c.args.named.now.items = search rules in
    let most : place (is_not_before key_order key_of (key_of c.args.object)) c.args.named.now.items ≤ length c.args.named.now.items =
    place_at_most (is_not_before key_order key_of (key_of c.args.object)) c.args.named.now.items in
    omega arith

pub returns : goal.returns
returns c =
    let at : c.place_of-at.result ≡ place (is_not_before key_order key_of (key_of c.args.object)) c.args.named.now.items = search rules in
    c.put_in.ensures ∙ ap (λ (k : ℕ). insert c.args.named.now.items k c.args.object) at
    ∙ inserted key_of keys_total keys_exact c.args.object c.args.named.now.items
