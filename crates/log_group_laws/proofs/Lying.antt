-- A whole group lies within its bytes.
use Rattle.std.proofs.Common.{◌≡◌, ◌≤◌, ◌<◌, ℕ, zero, suc, ◌+◌, ◌-◌, Bool, true, false, cond, eqb, List, [], ◌∷◌, length, length-drop, refl, sym, ap, ◌∙◌, arith, subst}
use Rattle.std.specs.Prelude.{codes}
use Rattle.std.specs.Str.{bytes_eq}
use Rattle.event_codec.specs.Event.{Body, query, rotate, int_var, rand, user_var, format_description, xid, table_map, rows, Query}
use Rattle.event_codec.specs.Reading.{Reading, event, none, Stop, short, damaged, foreign, reading, Within}
use Rattle.event_codec.proofs.Lying.{lies_within}
use Rattle.log_model.specs.Events.{Place, Placed, past, events_from, stop_from}
use Rattle.log_model.specs.Groups.{Stage, first, Move, go, close, refuse, move, Scan, done, stopped, scan, scanned, end_of, start, ddl, Group, Next, group, not_whole, damaged_at, foreign_at, stop_next, statement_of, alone, txn_of, begun_by, group_of, group_at}
use Rattle.log_model.proofs.Walking.{events_some, events_none, stop_none}
use Rattle.log_group_laws.specs.Laws.{Lies}

-- ---- events

-- events one after the other, from a place on, among so many bytes
abbrev pub AreWithin : (pos count : ℕ) → List Placed → Type 0
AreWithin pos count [] = Unit {0}
AreWithin pos count (e ∷ es) =
    (e.pos ≡ pos) × (19 ≤ e.event.size) × (e.event.size ≤ count) × (pos + e.event.size ≤ 1200000000) × AreWithin (pos + e.event.size) (count - e.event.size) es

within_by : (p : Place) → ((q : Place) → length q.bytes < length p.bytes → AreWithin q.pos (length q.bytes) (events_from q))
    → (r : Reading) → reading p.bytes p.pos ≡ r → Within p.bytes p.pos r → AreWithin p.pos (length p.bytes) (events_from p)
within_by p again (none stop) is within = subst (AreWithin p.pos (length p.bytes)) (sym (events_none p stop is)) tt
within_by p again (event e) is within =
    let left : length (past e p).bytes ≡ length p.bytes - e.size = length-drop e.size p.bytes in
    let later : AreWithin (past e p).pos (length (past e p).bytes) (events_from (past e p)) = again (past e p) (omega (arith, left, within.0, within.1)) in
    subst (AreWithin p.pos (length p.bytes)) (sym (events_some p e is))
    (refl, within.0, within.1, within.2, subst (λ (n : ℕ). AreWithin (p.pos + e.size) n (events_from (past e p))) left later)

events_within : (most : ℕ) (p : Place) → length p.bytes ≤ most → AreWithin p.pos (length p.bytes) (events_from p)
events_within zero p few = within_by p (λ (q : Place) less. absurd (omega (arith, few, less))) (reading p.bytes p.pos) refl (lies_within p.bytes p.pos)
events_within (suc most) p few =
    within_by p (λ (q : Place) less. events_within most q (omega (arith, few, less))) (reading p.bytes p.pos) refl (lies_within p.bytes p.pos)

-- ---- a transaction

-- where its XID ends
abbrev Ends : (pos count end : ℕ) → Type 0
Ends pos count end = (pos + 19 ≤ end) × (end ≤ pos + count) × (end ≤ 1200000000)

scan_ends : (es : List Placed) (stop : Stop) (s : Stage) (pos count number end : ℕ) → AreWithin pos count es → scan s es stop ≡ done number end → Ends pos count end
scan_ends [] stop s pos count number end within e = cc
scan_ends (x ∷ xs) stop s pos count number end within e =
    by (λ t f. scan_ends xs stop t (pos + x.event.size) (count - x.event.size) number end within.4 f) (move s x.event.body) e
  where
    by : ((t : Stage) → scan t xs stop ≡ done number end → Ends (pos + x.event.size) (count - x.event.size) end) → (m : Move)
        → scanned x (λ t. scan t xs stop) m ≡ done number end → Ends pos count end
    by again (go t) f =
        let later = again t f in
        (omega (arith, later.0), omega (arith, later.1, within.2), later.2)
    by again (close n) f =
        let same : end_of x ≡ end = cc in
        (omega (arith, same, within.0, within.1), omega (arith, same, within.0, within.2), omega (arith, same, within.0, within.3))
    by again refuse f = cc

-- ---- groups

-- where a group is read, it lies there
abbrev LiesIf : (pos count : ℕ) → Next → Type 0
LiesIf pos count (group g) = Lies pos count g
LiesIf pos count not_whole = Unit {0}
LiesIf pos count (damaged_at p) = Unit {0}
LiesIf pos count (foreign_at p kind) = Unit {0}

stop_lies : (pos count : ℕ) (stop : Stop) → LiesIf pos count (stop_next stop)
stop_lies pos count (short need) = tt
stop_lies pos count (damaged p) = tt
stop_lies pos count (foreign p kind) = tt

module _ (pos count : ℕ) (x : Placed) (xs : List Placed) (stop : Stop) (within : AreWithin pos count (x ∷ xs)) where
  -- a group that ends with its first event
  one : Lies pos count (record { form = start; begin = x.pos; end = end_of x })
  one = record {
    begins = within.0;
    header = omega (arith, within.0, within.1);
    within = omega (arith, within.0, within.2);
    ends = omega (arith, within.0, within.3);
  }

  txn_lies : (q : Query) (s : Scan) → scan first xs stop ≡ s → LiesIf pos count (txn_of x q xs s)
  txn_lies q (stopped st) e = stop_lies pos count st
  txn_lies q (done n end) e =
      let ends = scan_ends xs stop first (pos + x.event.size) (count - x.event.size) n end within.4 e in
      record {
        begins = within.0;
        header = omega (arith, ends.0);
        within = omega (arith, ends.1, within.2);
        ends = ends.2;
      }

  query_lies : (q : Query) (b : Bool) → LiesIf pos count (cond b (txn_of x q xs (scan first xs stop)) (alone x (ddl (statement_of x q))))
  query_lies q true = txn_lies q (scan first xs stop) refl
  query_lies q false = record { begins = one.begins; header = one.header; within = one.within; ends = one.ends }

  start_lies : (b : Bool) → LiesIf pos count (cond b (alone x start) (damaged_at x.pos))
  start_lies true = one
  start_lies false = tt

  begun_lies : (b : Body) → LiesIf pos count (begun_by x xs stop b)
  begun_lies (query q) = query_lies q (bytes_eq q.text (codes "BEGIN"))
  begun_lies (rotate next) = record { begins = one.begins; header = one.header; within = one.within; ends = one.ends }
  begun_lies (int_var kind n) = tt
  begun_lies (rand a b) = tt
  begun_lies (user_var name v) = tt
  begun_lies (format_description version) = start_lies (eqb x.pos 4)
  begun_lies (xid n) = tt
  begun_lies (table_map m) = tt
  begun_lies (rows r) = tt

group_of_lies : (pos count : ℕ) (es : List Placed) (stop : Stop) → AreWithin pos count es → LiesIf pos count (group_of es stop)
group_of_lies pos count [] stop within = stop_lies pos count stop
group_of_lies pos count (x ∷ xs) stop within = begun_lies pos count x xs stop within x.event.body

pub group_lies : (bytes : List ℕ) (pos : ℕ) (g : Group) → group_at (record { bytes = bytes; pos = pos }) ≡ group g → Lies pos (length bytes) g
unfolding group_at
group_lies bytes pos g is =
    let p : Place = record { bytes = bytes; pos = pos } in
    subst (LiesIf pos (length bytes)) is (group_of_lies pos (length bytes) (events_from p) (stop_from p) (events_within (length bytes) p (omega arith)))

-- ---- nothing

nothing_read : (pos : ℕ) → reading [] pos ≡ none (short 19)
unfolding reading
nothing_read pos = refl

pub nothing_there : (pos : ℕ) → group_at (record { bytes = []; pos = pos }) ≡ not_whole
unfolding group_at
nothing_there pos =
    let p : Place = record { bytes = []; pos = pos } in
    ap (λ (es : List Placed). group_of es (stop_from p)) (events_none p (short 19) (nothing_read pos))
    ∙ ap stop_next (stop_none p (short 19) (nothing_read pos))
