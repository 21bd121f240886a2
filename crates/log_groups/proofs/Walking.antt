-- A walk over the events of a transaction, and the maps among them.
use Rattle.std.proofs.Common.{◌≡◌, ℕ, zero, suc, ◌+◌, ◌-◌, ◌≤◌, Bool, true, false, List, [], ◌∷◌, ◌++◌, add-one, drop, take, Option, Some, None, refl, sym, ap, ◌∙◌, arith}
use Rattle.std.specs.Prelude.{if◌then◌else◌, ◌==◌}
use Rattle.event_codec.specs.Event.{Seen, Body, query, rotate, int_var, rand, user_var, format_description, xid, table_map, rows, Map, Query}
use Rattle.event_codec.specs.Reading.{event, none, Stop, reading, Within}
use Rattle.event_codec.proofs.Lying.{lies_within}
use Rattle.row_image.specs.log_model.Events.{Place, Placed, past, events_from, stop_from}
use Rattle.row_image.specs.log_model.Groups.{until_xid, is_xid, find, Stage, go, close, refuse, move, Scan, scan, scanned, txn, Next, group, damaged_at, stop_next, txn_of, begun_by, group_at, statement_of}
use Rattle.row_image.proofs.of_log_model.Walking.{events_some, stop_some, events_none, stop_none}
use Rattle.log_groups.specs.declared.stage.Move as moves
use Rattle.log_groups.specs.declared.stage.Move.TheVariants as move_is
use Rattle.log_groups.specs.declared.stage.Stage.TheVariants as stage_is
use Rattle.log_groups.specs.declared.items.Items.{Items}
use Rattle.log_groups.specs.Views.{walked, maps_in, with_map, map_with, parts, IsMaps, IsNoMaps, StandsThen}

-- ---- the events of a transaction

-- nothing, and what is left
abbrev pub no_step : List Placed → Option Placed × List Placed
no_step ys = (None, ys)

abbrev pub no_map : Option Map
no_map = None

-- what a walk has before it, at an event that does not end the transaction
pub parts_some : (p : Place) (e : Seen) → reading p.bytes p.pos ≡ event e → is_xid e.body ≡ false
    → until_xid (events_from p) ≡ record { pos = p.pos; event = e } ∷ until_xid (events_from (past e p))
parts_some p e is other = ap until_xid (events_some p e is) ∙ rw other refl

parts_xid : (p : Place) (e : Seen) → reading p.bytes p.pos ≡ event e → is_xid e.body ≡ true → until_xid (events_from p) ≡ []
parts_xid p e is other = ap until_xid (events_some p e is) ∙ rw other refl

pub step_some : (p q : Place) (e : Seen) (b : Bool) → event e ≡ reading p.bytes p.pos → b ≡ is_xid e.body → b ≡ false → q ≡ past e p
    → (Some (record { pos = p.pos; event = e }), until_xid (events_from q)) ≡ walked (until_xid (events_from p))
step_some p q e b is xid-is other same = rw (same, parts_some p e (sym is) (sym xid-is ∙ other)) refl

pub step_xid : (p : Place) (e : Seen) (b : Bool) → event e ≡ reading p.bytes p.pos → b ≡ is_xid e.body → b ≡ true
    → no_step (until_xid (events_from p)) ≡ walked (until_xid (events_from p))
step_xid p e b is xid-is other = rw (parts_xid p e (sym is) (sym xid-is ∙ other)) refl

pub step_none : (p : Place) (stop : Stop) → none stop ≡ reading p.bytes p.pos → no_step (until_xid (events_from p)) ≡ walked (until_xid (events_from p))
step_none p stop is = rw (events_none p stop (sym is)) refl

-- ---- maps among events

walked_none : (xs ys : List Placed) → no_step ys ≡ walked xs → xs ≡ []
walked_none [] ys e = refl
walked_none (x ∷ xs) ys e = let f = ap (λ (r : Option Placed × List Placed). r.0) e in cc

walked_some : (xs ys : List Placed) (x : Placed) → (Some x, ys) ≡ walked xs → xs ≡ x ∷ ys
walked_some [] ys x e = let f = ap (λ (r : Option Placed × List Placed). r.0) e in cc
walked_some (y ∷ xs) ys x e =
    let f = ap (λ (r : Option Placed × List Placed). r.0) e in
    let g = ap (λ (r : Option Placed × List Placed). r.1) e in
    cc

pub find_end : (n id : ℕ) (xs ys : List Placed) → no_step ys ≡ walked xs → find id (maps_in (take n xs)) ≡ None
find_end zero id xs ys e = refl
find_end (suc n) id xs ys e = rw (walked_none xs ys e) refl

abbrev either : Option Map → Option Map → Option Map
either None o = o
either (Some m) o = Some m

find_in : (id : ℕ) (b : Body) (ms : List Map) → find id (with_map b ms) ≡ either (map_with id b) (find id ms)
find_in id (table_map m) ms = by (m.id == id)
  where
    by : (t : Bool) → (if t then Some m else find id ms) ≡ either (if t then Some m else None) (find id ms)
    by true = refl
    by false = refl
find_in id (query q) ms = refl
find_in id (rotate next) ms = refl
find_in id (int_var kind n) ms = refl
find_in id (rand a b) ms = refl
find_in id (user_var name v) ms = refl
find_in id (format_description version) ms = refl
find_in id (xid n) ms = refl
find_in id (rows r) ms = refl

find_first : (n m id : ℕ) (xs ys : List Placed) (x : Placed) → (Some x, ys) ≡ walked xs → n ≡ suc m
    → find id (maps_in (take n xs)) ≡ either (map_with id x.event.body) (find id (maps_in (take m ys)))
find_first n m id xs ys x e more = rw (more, walked_some xs ys x e) (find_in id x.event.body (maps_in (take m ys)))

pub find_here : (n id : ℕ) (xs ys : List Placed) (x : Placed) (m : Map) → (Some x, ys) ≡ walked xs → 1 ≤ n → Some m ≡ map_with id x.event.body
    → find id (maps_in (take n xs)) ≡ Some m
find_here n id xs ys x m e more is = find_first n (n - 1) id xs ys x e (omega arith) ∙ rw (← is) refl

pub find_on : (n id : ℕ) (xs ys : List Placed) (x : Placed) → (Some x, ys) ≡ walked xs → 1 ≤ n → no_map ≡ map_with id x.event.body
    → find id (maps_in (take n xs)) ≡ find id (maps_in (take (n - 1) ys))
find_on n id xs ys x e more is = find_first n (n - 1) id xs ys x e (omega arith) ∙ rw (← is) refl

with_more : (b : Body) (ms ns : List Map) → with_map b (ms ++ ns) ≡ with_map b ms ++ ns
with_more (query q) ms ns = refl
with_more (rotate next) ms ns = refl
with_more (int_var kind n) ms ns = refl
with_more (rand a b) ms ns = refl
with_more (user_var name v) ms ns = refl
with_more (format_description version) ms ns = refl
with_more (xid n) ms ns = refl
with_more (table_map m) ms ns = refl
with_more (rows r) ms ns = refl

maps_by : (n : ℕ) (xs ys : List Placed) (x : Placed) (m : Map) → drop n xs ≡ x ∷ ys → x.event.body ≡ table_map m
    → maps_in (take (suc n) xs) ≡ maps_in (take n xs) ++ m ∷ []
maps_by zero xs ys x m e is = rw (e, is) refl
maps_by (suc n) [] ys x m e is = cc
maps_by (suc n) (z ∷ zs) ys x m e is =
    ap (with_map z.event.body) (maps_by n zs ys x m e is) ∙ with_more z.event.body (maps_in (take n zs)) (m ∷ [])

-- one more of the events, which is a map
pub maps_more : (n : ℕ) (xs ys : List Placed) (x : Placed) (m : Map) → drop n xs ≡ x ∷ ys → x.event.body ≡ table_map m
    → maps_in (take (n + 1) xs) ≡ maps_in (take n xs) ++ m ∷ []
maps_more n xs ys x m e is = rw add-one (maps_by n xs ys x m e is)

-- ---- where one stands among maps

pub within_of : (p : Place) (e : Seen) → reading p.bytes p.pos ≡ event e → Within p.bytes p.pos (event e)
within_of p e is = rw is at (lies_within p.bytes p.pos)

pub map_next : (p : Place) (e : Seen) (m : Map) → reading p.bytes p.pos ≡ event e → e.body ≡ table_map m
    → until_xid (events_from p) ≡ record { pos = p.pos; event = e } ∷ until_xid (events_from (past e p))
map_next p e m is body = parts_some p e is (ap is_xid body)

pub first_map : (p : Place) (e : Seen) (m : Map) → reading p.bytes p.pos ≡ event e → e.body ≡ table_map m → maps_in (take 1 (until_xid (events_from p))) ≡ m ∷ []
first_map p e m is body = rw (map_next p e m is body, body) refl

pub first_stands : (p : Place) (e : Seen) (m : Map) → reading p.bytes p.pos ≡ event e → e.body ≡ table_map m → drop 1 (until_xid (events_from p)) ≡ until_xid (events_from (past e p))
first_stands p e m is body = rw (map_next p e m is body) refl

drop_by : (n : ℕ) (xs ys : List Placed) (x : Placed) → drop n xs ≡ x ∷ ys → drop (suc n) xs ≡ ys
drop_by zero xs ys x e = rw e refl
drop_by (suc n) [] ys x e = cc
drop_by (suc n) (z ∷ zs) ys x e = drop_by n zs ys x e

pub drop_more : (n : ℕ) (xs ys : List Placed) (x : Placed) → drop n xs ≡ x ∷ ys → drop (n + 1) xs ≡ ys
drop_more n xs ys x e = rw add-one (drop_by n xs ys x e)

pub stands_then : (m : moves.Move) (items : Items) (n : ℕ) (here : Place) → IsMaps m items n → drop n (parts items) ≡ until_xid (events_from here) → n ≤ here.pos
    → StandsThen m here
stands_then (move_is.Go (stage_is.Maps its count)) items n here same e low = rw (same.0, same.1) (e, low)
stands_then (move_is.Go stage_is.First) items n here same e low = tt
stands_then (move_is.Go stage_is.Between) items n here same e low = tt
stands_then (move_is.Go (stage_is.Vars passed)) items n here same e low = tt
stands_then (move_is.Go (stage_is.Rows its count)) items n here same e low = tt
stands_then (move_is.Close k) items n here same e low = tt
stands_then move_is.Refuse items n here same e low = tt

-- ---- the transaction, event after event

scan_some : (s : Stage) (p : Place) (e : Seen) → event e ≡ reading p.bytes p.pos
    → scan s (events_from p) (stop_from p) ≡ scanned (record { pos = p.pos; event = e }) (λ t. scan t (events_from (past e p)) (stop_from (past e p))) (move s e.body)
scan_some s p e is = rw (events_some p e (sym is), stop_some p e (sym is)) refl

pub goes_on : (s t : Stage) (p q : Place) (e : Seen) (all : Scan) → event e ≡ reading p.bytes p.pos → go t ≡ move s e.body → q ≡ past e p
    → scan s (events_from p) (stop_from p) ≡ all → scan t (events_from q) (stop_from q) ≡ all
goes_on s t p q e all is moved same so = rw same (rw (scan_some s p e is, ← moved) at so)

pub closes : (s : Stage) (p : Place) (e : Seen) (n size : ℕ) (opening : Placed) (q : Query) (es : List Placed) (all : Scan) → event e ≡ reading p.bytes p.pos → close n ≡ move s e.body → size ≡ e.size
    → scan s (events_from p) (stop_from p) ≡ all
    → group (record { form = txn (statement_of opening q) (until_xid es) n; begin = opening.pos; end = p.pos + size }) ≡ txn_of opening q es all
closes s p e n size opening q es all is moved len so = rw (← so, scan_some s p e is, ← moved, len) refl

pub refuses : (s : Stage) (p : Place) (e : Seen) (opening : Placed) (q : Query) (es : List Placed) (all : Scan) → event e ≡ reading p.bytes p.pos → refuse ≡ move s e.body
    → scan s (events_from p) (stop_from p) ≡ all → damaged_at p.pos ≡ txn_of opening q es all
refuses s p e opening q es all is moved so = rw (← so, scan_some s p e is, ← moved) refl

pub ends : (s : Stage) (p : Place) (stop : Stop) (opening : Placed) (q : Query) (es : List Placed) (all : Scan) → none stop ≡ reading p.bytes p.pos
    → scan s (events_from p) (stop_from p) ≡ all → stop_next stop ≡ txn_of opening q es all
ends s p stop opening q es all is so = rw (← so, events_none p stop (sym is), stop_none p stop (sym is)) refl

-- ---- the group

pub begins : (p q : Place) (e : Seen) (n : Next) → event e ≡ reading p.bytes p.pos → q ≡ past e p
    → n ≡ begun_by (record { pos = p.pos; event = e }) (events_from q) (stop_from q) e.body → n ≡ group_at p
unfolding group_at
begins p q e n is same so = rw (events_some p e (sym is), stop_some p e (sym is), ← same) so

pub no_group : (p : Place) (stop : Stop) → none stop ≡ reading p.bytes p.pos → stop_next stop ≡ group_at p
unfolding group_at
no_group p stop is = rw (events_none p stop (sym is), stop_none p stop (sym is)) refl

-- ---- moves that lead to no maps

pub no_maps_stands : (m : moves.Move) (here : Place) → IsNoMaps m → StandsThen m here
no_maps_stands (move_is.Go (stage_is.Maps items count)) here is = absurd is
no_maps_stands (move_is.Go stage_is.First) here is = tt
no_maps_stands (move_is.Go stage_is.Between) here is = tt
no_maps_stands (move_is.Go (stage_is.Vars passed)) here is = tt
no_maps_stands (move_is.Go (stage_is.Rows items count)) here is = tt
no_maps_stands (move_is.Close n) here is = tt
no_maps_stands move_is.Refuse here is = tt
