-- What a whole group is read as, and what is damaged or not known, stays so whatever follows.
use Rattle.std.proofs.Common.{◌≡◌, ◌≤◌, ◌<◌, ◌⊎◌, inl, inr, subst, ℕ, zero, suc, ◌+◌, ◌-◌, Bool, true, false, cond, not, ltb, List, [], ◌∷◌, ◌++◌, length, take, drop, get_or, Option, Some, None, length-drop, refl, sym, ap, ◌∙◌, arith}
use Rattle.std.specs.Prelude.{codes, slice_index, slice_range, if◌then◌else◌}
use Rattle.std.specs.Str.{bytes_eq}
use Rattle.std.proofs.lemmas.Bool.{ltb-false, le-ltb}
use Rattle.std.proofs.lemmas.List.{length-append, drop-append-le, take-append-le, get_or_append_left}
use Rattle.byteorder.specs.Endian.{little_from}
use Rattle.byte_fields.specs.Field.{number_at}
use Rattle.event_codec.specs.declared.event.IntVarKind.{IntVarKind}
use Rattle.event_codec.specs.declared.event.IntVarKind.TheVariants.{LastInsertId, InsertId}
use Rattle.event_codec.specs.Event.{Body, query, rotate, int_var, rand, user_var, format_description, xid, table_map, rows, Query, Map, Rows, Seen}
use Rattle.event_codec.specs.Reading.{Reading, event, none, Stop, short, damaged, foreign, reading, read_as, headed, body_at, has_sound_header, Within}
use Rattle.event_codec.proofs.Lying.{lies_within}
use Rattle.log_model.specs.Events.{Place, Placed, past, events_from, stop_from}
use Rattle.log_model.specs.Groups.{Stage, first, between, vars, maps, in_rows, Move, go, close, refuse, move, find, is_free, int_var_move, rows_move, is_xid, until_xid, Scan, done, stopped, scan, scanned, ddl, Group, Next, group, not_whole, damaged_at, foreign_at, stop_next, statement_of, alone, txn_of, begun_by, group_of, group_at}
use Rattle.log_model.specs.Images.{are_rows}
use Rattle.log_model.proofs.Scanning.{no_xid}
use Rattle.log_model.proofs.Walking.{events_some, events_none, stop_some, stop_none}
use Rattle.log_group_laws.specs.Laws.{StopsStay}

-- ---- an event

little_front : (i n : ℕ) (xs ys : List ℕ) → i + n ≤ length xs → little_from i n (xs ++ ys) ≡ little_from i n xs
little_front i zero xs ys few = refl
little_front i (suc n) xs ys few =
    let here : get_or (xs ++ ys) i 0 ≡ get_or xs i 0 = get_or_append_left xs ys 0 i (omega arith) in
    let rest : little_from (suc i) n (xs ++ ys) ≡ little_from (suc i) n xs = little_front (suc i) n xs ys (omega arith) in
    omega (arith, here, rest)

pub number_front : (place count : ℕ) (bytes more : List ℕ) → place + count ≤ length bytes → number_at place count (bytes ++ more) ≡ number_at place count bytes
unfolding number_at
number_front place count bytes more few =
    ap (little_from 0 count) (drop-append-le place bytes more (omega arith))
    ∙ little_front 0 count (drop place bytes) more (omega (arith, length-drop place bytes))

range_front : (low high : ℕ) (bytes more : List ℕ) → low ≤ length bytes → high ≤ length bytes → slice_range (bytes ++ more) low high ≡ slice_range bytes low high
range_front low high bytes more a b =
    ap (take (high - low)) (drop-append-le low bytes more a)
    ∙ take-append-le (high - low) (drop low bytes) more (omega (arith, length-drop low bytes))

-- what a header shows stays so
sound_front : (bytes more : List ℕ) (pos : ℕ) → 19 ≤ length bytes → has_sound_header (bytes ++ more) pos ≡ has_sound_header bytes pos
sound_front bytes more pos some =
    let size : number_at 9 4 (bytes ++ more) ≡ number_at 9 4 bytes = number_front 9 4 bytes more (omega arith) in
    let next : number_at 13 4 (bytes ++ more) ≡ number_at 13 4 bytes = number_front 13 4 bytes more (omega arith) in
    rw (size, next) refl

-- why no event stands there, unless bytes are missing
abbrev Missing : Reading → Type 0
Missing r = (need : ℕ) × (r ≡ none (short need))

-- what is read is read whatever follows it, unless bytes are missing
module _ (bytes more : List ℕ) (pos : ℕ) (r : Reading) where
  read_body : Reading
  read_body =
      read_as pos (slice_index bytes 4)
      (headed (number_at 0 4 bytes) (number_at 9 4 bytes) (body_at (slice_index bytes 4) (slice_range bytes 19 (number_at 9 4 bytes))))

  read_more : ltb (length (bytes ++ more)) 19 ≡ false → number_at 9 4 (bytes ++ more) ≡ number_at 9 4 bytes → number_at 13 4 (bytes ++ more) ≡ number_at 13 4 bytes
      → number_at 0 4 (bytes ++ more) ≡ number_at 0 4 bytes → get_or (bytes ++ more) 4 0 ≡ get_or bytes 4 0
      → slice_range (bytes ++ more) 19 (number_at 9 4 bytes) ≡ slice_range bytes 19 (number_at 9 4 bytes)
      → ltb (length (bytes ++ more)) (number_at 9 4 bytes) ≡ false → not (has_sound_header bytes pos) ≡ false → read_body ≡ r
      → reading (bytes ++ more) pos ≡ r
  unfolding reading read_body
  read_more header size next stamp kind body enough sound f = rw (header, size, next, stamp, kind, body, enough, sound) f

  read_unsound : ltb (length (bytes ++ more)) 19 ≡ false → not (has_sound_header (bytes ++ more) pos) ≡ true → none (damaged pos) ≡ r → reading (bytes ++ more) pos ≡ r
  unfolding reading
  read_unsound header unsound f = rw (header, unsound) f

  reading_by : (a h d : Bool) → ltb (length bytes) 19 ≡ a → not (has_sound_header bytes pos) ≡ h → ltb (length bytes) (number_at 9 4 bytes) ≡ d
      → (if a then none (short 19) else if h then none (damaged pos) else if d then none (short (number_at 9 4 bytes)) else read_body) ≡ r
      → Missing r ⊎ (reading (bytes ++ more) pos ≡ r)
  reading_by true h d few unsound lacks f = inl (19, sym f)
  reading_by false true d few unsound lacks f =
      let some : 19 ≤ length bytes = ltb-false _ _ few in
      let all : length (bytes ++ more) ≡ length bytes + length more = length-append bytes more in
      let header : ltb (length (bytes ++ more)) 19 ≡ false = le-ltb _ _ (omega (arith, all)) in
      inr (read_unsound header (ap not (sound_front bytes more pos some) ∙ unsound) f)
  reading_by false false true few unsound lacks f = inl (number_at 9 4 bytes, sym f)
  reading_by false false false few unsound lacks f =
      let some : 19 ≤ length bytes = ltb-false _ _ few in
      let whole : number_at 9 4 bytes ≤ length bytes = ltb-false _ _ lacks in
      let all : length (bytes ++ more) ≡ length bytes + length more = length-append bytes more in
      let header : ltb (length (bytes ++ more)) 19 ≡ false = le-ltb _ _ (omega (arith, all)) in
      let size : number_at 9 4 (bytes ++ more) ≡ number_at 9 4 bytes = number_front 9 4 bytes more (omega arith) in
      let next : number_at 13 4 (bytes ++ more) ≡ number_at 13 4 bytes = number_front 13 4 bytes more (omega arith) in
      let stamp : number_at 0 4 (bytes ++ more) ≡ number_at 0 4 bytes = number_front 0 4 bytes more (omega arith) in
      let kind : get_or (bytes ++ more) 4 0 ≡ get_or bytes 4 0 = get_or_append_left bytes more 0 4 (omega arith) in
      let body : slice_range (bytes ++ more) 19 (number_at 9 4 bytes) ≡ slice_range bytes 19 (number_at 9 4 bytes) = range_front 19 (number_at 9 4 bytes) bytes more some whole in
      let enough : ltb (length (bytes ++ more)) (number_at 9 4 bytes) ≡ false = le-ltb _ _ (omega (arith, all)) in
      inr (read_more header size next stamp kind body enough unsound f)

  reading_front : reading bytes pos ≡ r → Missing r ⊎ (reading (bytes ++ more) pos ≡ r)
  unfolding reading read_body
  reading_front is = reading_by (ltb (length bytes) 19) (not (has_sound_header bytes pos)) (ltb (length bytes) (number_at 9 4 bytes)) refl refl refl is

-- an event is read whatever follows it
pub event_front : (bytes more : List ℕ) (pos : ℕ) (e : Seen) → reading bytes pos ≡ event e → reading (bytes ++ more) pos ≡ event e
event_front bytes more pos e is = by (reading_front bytes more pos (event e) is)
  where
    by : Missing (event e) ⊎ (reading (bytes ++ more) pos ≡ event e) → reading (bytes ++ more) pos ≡ event e
    by (inl missing) = let is = missing.1 in cc
    by (inr front) = front

-- ---- events

-- the events at the front are the same, whatever follows them
abbrev longer : Place → List ℕ → Place
longer p more = record { bytes = p.bytes ++ more; pos = p.pos }

abbrev Begins : Place → List ℕ → Type 0
Begins p more = (es : List Placed) × (events_from (longer p more) ≡ events_from p ++ es)

begins_by : (p : Place) (more : List ℕ) → ((q : Place) → length q.bytes < length p.bytes → Begins q more)
    → (r : Reading) → reading p.bytes p.pos ≡ r → Within p.bytes p.pos r → Begins p more
begins_by p more again (none stop) is within =
    (events_from (longer p more), ap (λ (es : List Placed). es ++ events_from (longer p more)) (sym (events_none p stop is)))
begins_by p more again (event e) is within =
    let left : length (past e p).bytes ≡ length p.bytes - e.size = length-drop e.size p.bytes in
    let later : Begins (past e p) more = again (past e p) (omega (arith, left, within.0, within.1)) in
    let here : Placed = record { pos = p.pos; event = e } in
    let behind : past e (longer p more) ≡ longer (past e p) more =
    ap (λ (bs : List ℕ). record { bytes = bs; pos = p.pos + e.size }) (drop-append-le e.size p.bytes more within.1) in (
      later.0,
      events_some (longer p more) e (event_front p.bytes more p.pos e is)
          ∙ ap (λ (q : Place). here ∷ events_from q) behind
          ∙ ap (λ (es : List Placed). here ∷ es) later.1
          ∙ ap (λ (es : List Placed). es ++ later.0) (sym (events_some p e is)),
    )

events_front : (most : ℕ) (p : Place) (more : List ℕ) → length p.bytes ≤ most → Begins p more
events_front zero p more few = begins_by p more (λ (q : Place) less. absurd (omega (arith, few, less))) (reading p.bytes p.pos) refl (lies_within p.bytes p.pos)
events_front (suc most) p more few =
    begins_by p more (λ (q : Place) less. events_front most q more (omega (arith, few, less))) (reading p.bytes p.pos) refl (lies_within p.bytes p.pos)

-- unless bytes are missing there, no more events follow whatever follows them
abbrev Halts : Place → List ℕ → Type 0
Halts p more =
    ((need : ℕ) × (stop_from p ≡ short need)) ⊎ ((events_from (longer p more) ≡ events_from p) × (stop_from (longer p more) ≡ stop_from p))

halts_by : (p : Place) (more : List ℕ) → ((q : Place) → length q.bytes < length p.bytes → Halts q more)
    → (r : Reading) → reading p.bytes p.pos ≡ r → Within p.bytes p.pos r → Halts p more
halts_by p more again (none stop) is within = by (reading_front p.bytes more p.pos (none stop) is)
  where
    by : Missing (none stop) ⊎ (reading (p.bytes ++ more) p.pos ≡ none stop) → Halts p more
    by (inl missing) = let none_is = missing.1 in let same : stop ≡ short missing.0 = cc in inl (missing.0, stop_none p stop is ∙ same)
    by (inr front) =
        inr (events_none (longer p more) stop front ∙ sym (events_none p stop is), stop_none (longer p more) stop front ∙ sym (stop_none p stop is))
halts_by p more again (event e) is within = by (again (past e p) (omega (arith, length-drop e.size p.bytes, within.0, within.1)))
  where
    here : Placed
    here = record { pos = p.pos; event = e }

    behind : past e (longer p more) ≡ longer (past e p) more
    behind = ap (λ (bs : List ℕ). record { bytes = bs; pos = p.pos + e.size }) (drop-append-le e.size p.bytes more within.1)

    front : reading (p.bytes ++ more) p.pos ≡ event e
    front = event_front p.bytes more p.pos e is

    by : Halts (past e p) more → Halts p more
    by (inl missing) = inl (missing.0, stop_some p e is ∙ missing.1)
    by (inr same) = inr (
      events_some (longer p more) e front ∙ ap (λ (q : Place). here ∷ events_from q) behind ∙ ap (λ (es : List Placed). here ∷ es) same.0
          ∙ sym (events_some p e is),
      stop_some (longer p more) e front ∙ ap stop_from behind ∙ same.1 ∙ sym (stop_some p e is),
    )

halts : (most : ℕ) (p : Place) (more : List ℕ) → length p.bytes ≤ most → Halts p more
halts zero p more few = halts_by p more (λ (q : Place) less. absurd (omega (arith, few, less))) (reading p.bytes p.pos) refl (lies_within p.bytes p.pos)
halts (suc most) p more few =
    halts_by p more (λ (q : Place) less. halts most q more (omega (arith, few, less))) (reading p.bytes p.pos) refl (lies_within p.bytes p.pos)

-- ---- a transaction

rows_close : (ms : List Map) (r : Rows) (o : Option Map) (n : ℕ) → rows_move ms r o ≡ close n → ⊥
rows_close ms r None n e = cc
rows_close ms r (Some m) n e = by (are_rows m r) r.ends e
  where
    by : (a b : Bool) → cond a (cond b (go between) (go (in_rows ms))) refuse ≡ close n → ⊥
    by false b e = cc
    by true true e = cc
    by true false e = cc

if_close : (b : Bool) (s : Stage) (n : ℕ) → cond b (go s) refuse ≡ close n → ⊥
if_close true s n e = cc
if_close false s n e = cc

int_var_close : (p : ℕ) (kind : IntVarKind) (n : ℕ) → int_var_move p kind ≡ close n → ⊥
int_var_close p LastInsertId n e = if_close (ltb p 1) (vars 1) n e
int_var_close p InsertId n e = if_close (ltb p 2) (vars 2) n e

number_close : (s : Stage) (kind : IntVarKind) (x n : ℕ) → move s (int_var kind x) ≡ close n → ⊥
number_close first kind x n e = int_var_close 0 kind n e
number_close between kind x n e = int_var_close 0 kind n e
number_close (vars p) kind x n e = int_var_close p kind n e
number_close (maps ms) kind x n e = cc
number_close (in_rows ms) kind x n e = cc

seeds_close : (s : Stage) (x y n : ℕ) → move s (rand x y) ≡ close n → ⊥
seeds_close first x y n e = cc
seeds_close between x y n e = cc
seeds_close (vars p) x y n e = if_close (ltb p 3) (vars 3) n e
seeds_close (maps ms) x y n e = cc
seeds_close (in_rows ms) x y n e = cc

map_close : (s : Stage) (m : Map) (n : ℕ) → move s (table_map m) ≡ close n → ⊥
map_close first m n e = cc
map_close between m n e = cc
map_close (vars p) m n e = cc
map_close (maps ms) m n e = if_close (is_free (find m.id ms)) (maps (ms ++ m ∷ [])) n e
map_close (in_rows ms) m n e = cc

changes_close : (s : Stage) (r : Rows) (n : ℕ) → move s (rows r) ≡ close n → ⊥
changes_close first r n e = cc
changes_close between r n e = cc
changes_close (vars p) r n e = cc
changes_close (maps ms) r n e = rows_close ms r (find r.id ms) n e
changes_close (in_rows ms) r n e = rows_close ms r (find r.id ms) n e

-- just an XID ends a transaction
closes : (s : Stage) (b : Body) (n : ℕ) → move s b ≡ close n → is_xid b ≡ true
closes s (int_var kind x) n e = absurd (number_close s kind x n e)
closes s (rand x y) n e = absurd (seeds_close s x y n e)
closes s (table_map m) n e = absurd (map_close s m n e)
closes s (rows r) n e = absurd (changes_close s r n e)
closes s (xid x) n e = refl
closes first (query q) n e = cc
closes between (query q) n e = cc
closes (vars p) (query q) n e = cc
closes (maps ms) (query q) n e = cc
closes (in_rows ms) (query q) n e = cc
closes first (rotate next) n e = cc
closes between (rotate next) n e = cc
closes (vars p) (rotate next) n e = cc
closes (maps ms) (rotate next) n e = cc
closes (in_rows ms) (rotate next) n e = cc
closes first (user_var name v) n e = cc
closes between (user_var name v) n e = cc
closes (vars p) (user_var name v) n e = cc
closes (maps ms) (user_var name v) n e = cc
closes (in_rows ms) (user_var name v) n e = cc
closes first (format_description version) n e = cc
closes between (format_description version) n e = cc
closes (vars p) (format_description version) n e = cc
closes (maps ms) (format_description version) n e = cc
closes (in_rows ms) (format_description version) n e = cc

-- a transaction that ends is the same, whatever follows its XID
record Same (s : Stage) (es more : List Placed) (stop : Stop) (number end : ℕ) : Type 0 where
  scans : scan s (es ++ more) stop ≡ done number end
  items : until_xid (es ++ more) ≡ until_xid es

scan_front : (es more : List Placed) (before after : Stop) (s : Stage) (number end : ℕ) → scan s es before ≡ done number end → Same s es more after number end
scan_front [] more before after s number end e = cc
scan_front (x ∷ xs) more before after s number end e =
    by (λ t f. scan_front xs more before after t number end f) (move s x.event.body) refl e
  where
    by : ((t : Stage) → scan t xs before ≡ done number end → Same t xs more after number end) → (m : Move) → move s x.event.body ≡ m
        → scanned x (λ t. scan t xs before) m ≡ done number end → Same s (x ∷ xs) more after number end
    by again (go t) is f =
        let later = again t f in
        let no : is_xid x.event.body ≡ false = no_xid s x.event.body t is in
        record { scans = rw is later.scans; items = rw no (ap (λ (es : List Placed). x ∷ es) later.items) }
    by again (close n) is f =
        let yes : is_xid x.event.body ≡ true = closes s x.event.body n is in
        record { scans = rw is f; items = rw yes refl }
    by again refuse is f = cc

-- ---- groups

no_group : (stop : Stop) (g : Group) → stop_next stop ≡ group g → ⊥
no_group (short need) g e = cc
no_group (damaged p) g e = cc
no_group (foreign p kind) g e = cc

module _ (x : Placed) (xs more : List Placed) (before after : Stop) (g : Group) where
  txn_front : (q : Query) (s : Scan) → scan first xs before ≡ s → txn_of x q xs s ≡ group g → txn_of x q (xs ++ more) (scan first (xs ++ more) after) ≡ group g
  txn_front q (stopped stop) is e = absurd (no_group stop g e)
  txn_front q (done n end) is e =
      let same = scan_front xs more before after first n end is in
      rw (same.scans, same.items) e

  query_front : (q : Query) (b : Bool) → cond b (txn_of x q xs (scan first xs before)) (alone x (ddl (statement_of x q))) ≡ group g
      → cond b (txn_of x q (xs ++ more) (scan first (xs ++ more) after)) (alone x (ddl (statement_of x q))) ≡ group g
  query_front q true e = txn_front q (scan first xs before) refl e
  query_front q false e = e

  begun_front : (b : Body) → begun_by x xs before b ≡ group g → begun_by x (xs ++ more) after b ≡ group g
  begun_front (query q) e = query_front q (bytes_eq q.text (codes "BEGIN")) e
  begun_front (rotate next) e = e
  begun_front (int_var kind n) e = cc
  begun_front (rand a b) e = cc
  begun_front (user_var name v) e = cc
  begun_front (format_description version) e = e
  begun_front (xid n) e = cc
  begun_front (table_map m) e = cc
  begun_front (rows r) e = cc

group_front : (es more : List Placed) (before after : Stop) (g : Group) → group_of es before ≡ group g → group_of (es ++ more) after ≡ group g
group_front [] more before after g e = absurd (no_group before g e)
group_front (x ∷ xs) more before after g e = begun_front x xs more before after g x.event.body e

pub group_stays : (bytes more : List ℕ) (pos : ℕ) (g : Group) → group_at (record { bytes = bytes; pos = pos }) ≡ group g
    → group_at (record { bytes = bytes ++ more; pos = pos }) ≡ group g
unfolding group_at
group_stays bytes more pos g is =
    let p : Place = record { bytes = bytes; pos = pos } in
    let longer : Place = record { bytes = bytes ++ more; pos = pos } in
    let es = events_front (length bytes) p more (omega arith) in
    ap (λ (xs : List Placed). group_of xs (stop_from longer)) es.1
    ∙ group_front (events_from p) es.0 (stop_from p) (stop_from longer) g is

-- ---- what no group has

-- an event that is damaged or not known
abbrev IsStop : Next → Type 0
IsStop (group g) = ⊥
IsStop not_whole = ⊥
IsStop (damaged_at p) = Unit {0}
IsStop (foreign_at p kind) = Unit {0}

-- a scan that bytes are not missing for
abbrev IsThrough : Scan → Type 0
IsThrough (done number end) = Unit {0}
IsThrough (stopped (short need)) = ⊥
IsThrough (stopped (damaged p)) = Unit {0}
IsThrough (stopped (foreign p kind)) = Unit {0}

scan_through : (es more : List Placed) (need : ℕ) (after : Stop) (s : Stage) (r : Scan) → IsThrough r → scan s es (short need) ≡ r → scan s (es ++ more) after ≡ r
scan_through [] more need after s r through e = absurd (subst IsThrough (sym e) through)
scan_through (x ∷ xs) more need after s r through e =
    by (λ t f. scan_through xs more need after t r through f) (move s x.event.body) e
  where
    by : ((t : Stage) → scan t xs (short need) ≡ r → scan t (xs ++ more) after ≡ r) → (m : Move) → scanned x (λ t. scan t xs (short need)) m ≡ r
        → scanned x (λ t. scan t (xs ++ more) after) m ≡ r
    by again (go t) f = again t f
    by again (close n) f = f
    by again refuse f = f

module _ (x : Placed) (xs more : List Placed) (need : ℕ) (after : Stop) (n : Next) (stops : IsStop n) where
  txn_stops : (q : Query) (s : Scan) → scan first xs (short need) ≡ s → txn_of x q xs s ≡ n → txn_of x q (xs ++ more) (scan first (xs ++ more) after) ≡ n
  txn_stops q (done k end) is e = absurd (subst IsStop (sym e) stops)
  txn_stops q (stopped (short k)) is e = absurd (subst IsStop (sym e) stops)
  txn_stops q (stopped (damaged p)) is e = rw (scan_through xs more need after first (stopped (damaged p)) tt is) e
  txn_stops q (stopped (foreign p kind)) is e = rw (scan_through xs more need after first (stopped (foreign p kind)) tt is) e

  query_stops : (q : Query) (b : Bool) → cond b (txn_of x q xs (scan first xs (short need))) (alone x (ddl (statement_of x q))) ≡ n
      → cond b (txn_of x q (xs ++ more) (scan first (xs ++ more) after)) (alone x (ddl (statement_of x q))) ≡ n
  query_stops q true e = txn_stops q (scan first xs (short need)) refl e
  query_stops q false e = e

  begun_stops : (b : Body) → begun_by x xs (short need) b ≡ n → begun_by x (xs ++ more) after b ≡ n
  begun_stops (query q) e = query_stops q (bytes_eq q.text (codes "BEGIN")) e
  begun_stops (rotate next) e = e
  begun_stops (int_var kind k) e = e
  begun_stops (rand a b) e = e
  begun_stops (user_var name v) e = e
  begun_stops (format_description version) e = e
  begun_stops (xid k) e = e
  begun_stops (table_map m) e = e
  begun_stops (rows r) e = e

group_stops : (es more : List Placed) (need : ℕ) (after : Stop) (n : Next) → IsStop n → group_of es (short need) ≡ n → group_of (es ++ more) after ≡ n
group_stops [] more need after n stops e = absurd (subst IsStop (sym e) stops)
group_stops (x ∷ xs) more need after n stops e = begun_stops x xs more need after n stops x.event.body e

next_stays : (bytes more : List ℕ) (pos : ℕ) (n : Next) → IsStop n → group_at (record { bytes = bytes; pos = pos }) ≡ n
    → group_at (record { bytes = bytes ++ more; pos = pos }) ≡ n
unfolding group_at
next_stays bytes more pos n stops is = by (halts (length bytes) p more (omega arith))
  where
    p : Place
    p = record { bytes = bytes; pos = pos }

    by : Halts (record { bytes = bytes; pos = pos }) more → group_of (events_from (record { bytes = bytes ++ more; pos = pos })) (stop_from (record { bytes = bytes ++ more; pos = pos })) ≡ n
    by (inl missing) =
        let es = events_front (length bytes) (record { bytes = bytes; pos = pos }) more (omega arith) in
        ap (λ (xs : List Placed). group_of xs (stop_from (record { bytes = bytes ++ more; pos = pos }))) es.1
        ∙ group_stops (events_from (record { bytes = bytes; pos = pos })) es.0 missing.0 (stop_from (record { bytes = bytes ++ more; pos = pos })) n stops
        (ap (group_of (events_from (record { bytes = bytes; pos = pos }))) (sym missing.1) ∙ is)
    by (inr same) = ap (λ (xs : List Placed). group_of xs (stop_from (record { bytes = bytes ++ more; pos = pos }))) same.0 ∙ ap (group_of (events_from (record { bytes = bytes; pos = pos }))) same.1 ∙ is

pub stops_stay : StopsStay
stops_stay bytes more pos = (
  (λ at is. next_stays bytes more pos (damaged_at at) tt is),
  (λ at kind is. next_stays bytes more pos (foreign_at at kind) tt is),
)
