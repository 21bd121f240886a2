-- A transaction or a definition that is logged is read as one group.
use Rattle.std.proofs.Common.{◌≡◌, ℕ, ◌+◌, false, List, [], ◌∷◌, ◌++◌, map, refl, ap, ◌∙◌, arith}
use Rattle.std.specs.Prelude.{flat_map, codes}
use Rattle.std.specs.Str.{bytes_eq}
use Rattle.event_codec.specs.Event.{Body, query, xid}
use Rattle.event_codec.specs.Writing.{size}
use Rattle.log_entries.specs.declared.entries.Item.{Item}
use Rattle.log_model.specs.Events.{Place, Placed, stop_from}
use Rattle.log_model.specs.Groups.{ddl, txn, group, group_at, group_of}
use Rattle.log_model.specs.Items.{query_of, spelled, at_time, item_events, AreCarried}
use Rattle.log_model.specs.Log.{begin_query, transaction, definition}
use Rattle.log_model.specs.Spelling.{bodies_of, bodies, AreItems}
use Rattle.log_model.specs.Written.{Stamped, body_of, bytes_of, placed, total, CanWriteAll}
use Rattle.log_model.proofs.Carrying.{item_spelled}
use Rattle.log_model.proofs.ReadAgain.{events_again, transaction_again}

bodies_at : (stamp : ℕ) (bs : List Body) → map body_of (at_time stamp bs) ≡ bs
bodies_at stamp [] = refl
bodies_at stamp (b ∷ bs) = ap (λ (xs : List Body). b ∷ xs) (bodies_at stamp bs)

map_both : (xs ys : List Stamped) → map body_of (xs ++ ys) ≡ map body_of xs ++ map body_of ys
map_both [] ys = refl
map_both (x ∷ xs) ys = ap (λ (bs : List Body). x.body ∷ bs) (map_both xs ys)

items_bodies : (is : List Item) → map body_of (flat_map item_events is) ≡ bodies (map spelled is)
items_bodies [] = refl
items_bodies (i ∷ is) =
    map_both (item_events i) (flat_map item_events is) ∙ ap (λ (bs : List Body). bs ++ map body_of (flat_map item_events is)) (bodies_at i.carried.stamp (bodies_of (spelled i)))
    ∙ ap (λ (bs : List Body). bodies_of (spelled i) ++ bs) (items_bodies is)

are_items : (is : List Item) → AreCarried is → AreItems (map spelled is)
are_items [] are = tt
are_items (i ∷ is) are = (item_spelled i are.0, are_items is are.1)

pub one_transaction : (stamp number server pos : ℕ) (i : Item) (is : List Item) (rest : List ℕ) → AreCarried (i ∷ is) → CanWriteAll pos (transaction stamp number (i ∷ is))
    → group_at (record { bytes = bytes_of server pos (transaction stamp number (i ∷ is)) ++ rest; pos = pos })
    ≡ group (record {
      form = txn (record {
        stamp = i.carried.stamp;
        size = size (query (begin_query i.carried.connection));
        query = begin_query i.carried.connection;
      }) (placed (pos + size (query (begin_query i.carried.connection))) (flat_map item_events (i ∷ is))) number;
      begin = pos;
      end = pos + total (transaction stamp number (i ∷ is));
    })
one_transaction stamp number server pos i is rest are can =
    transaction_again server pos (record { stamp = i.carried.stamp; body = query (begin_query i.carried.connection) }) (record { stamp = stamp; body = xid number })
    (flat_map item_events (i ∷ is)) (begin_query i.carried.connection) number (spelled i) (map spelled is) rest refl refl (items_bodies (i ∷ is)) (are_items (i ∷ is) are) refl can

pub one_definition : (stamp server pos : ℕ) (i : Item) (rest : List ℕ) → bytes_eq i.text (codes "BEGIN") ≡ false → CanWriteAll pos (definition stamp i)
    → group_at (record { bytes = bytes_of server pos (definition stamp i) ++ rest; pos = pos })
    ≡ group (record {
      form = ddl (record { stamp = stamp; size = size (query (query_of i.text i.carried)); query = query_of i.text i.carried });
      begin = pos;
      end = pos + total (definition stamp i);
    })
unfolding group_at
one_definition stamp server pos i rest other can =
    let p : Place = record { bytes = bytes_of server pos (definition stamp i) ++ rest; pos = pos } in
    let n : ℕ = size (query (query_of i.text i.carried)) in
    let end : pos + n ≡ pos + (n + 0) = omega arith in
    ap (λ (xs : List Placed). group_of xs (stop_from p)) (events_again server pos (definition stamp i) rest can).0
    ∙ rw other (ap (λ (m : ℕ). group (record { form = ddl (record { stamp = stamp; size = n; query = query_of i.text i.carried }); begin = pos; end = m })) end)
