-- What a scan ends with is a run, and the other way; groups by their spelling.
use Rattle.std.proofs.Common.{◌≡◌, ℕ, Bool, true, false, cond, ltb, eqb, List, [], ◌∷◌, ◌++◌, map, Option, Some, None, refl, sym, ap, ◌∙◌, append-nil, subst}
use Rattle.std.specs.Prelude.{codes}
use Rattle.std.specs.Str.{bytes_eq}
use Rattle.std.proofs.lemmas.Slice.Eq.{bytes_eq-Decides}
use Rattle.event_codec.specs.declared.event.IntVarKind.{IntVarKind}
use Rattle.event_codec.specs.declared.event.IntVarKind.TheVariants.{LastInsertId, InsertId}
use Rattle.event_codec.specs.Event.{Body, query, rotate, int_var, rand, user_var, format_description, xid, table_map, rows, Query, Map, Rows}
use Rattle.event_codec.specs.Reading.{Stop, short, damaged, foreign}
use Rattle.log_model.specs.Events.{Placed}
use Rattle.log_model.specs.Groups.{Stage, first, between, vars, maps, in_rows, Move, go, close, refuse, move, find, is_free, int_var_move, rows_move, Scan, done, stopped, scan, scanned, end_of, is_xid, until_xid, Form, start, next_log, ddl, txn, Next, group, not_whole, damaged_at, foreign_at, stop_next, Statement, statement_of, alone, txn_of, begun_by, group_of}
use Rattle.log_model.specs.Images.{are_rows}
use Rattle.log_model.specs.Spelling.{Spelled, bodies, AreItems, ran, run, said, IsShort, IsBegin, IsFront}
use Rattle.log_model.proofs.Running.{items_run}
use Rattle.log_model.proofs.Parsing.{whole}

-- ---- moves that end a transaction

rows_close : (ms : List Map) (r : Rows) (o : Option Map) (n : ℕ) → rows_move ms r o ≡ close n → ⊥
rows_close ms r None n e = cc
rows_close ms r (Some m) n e = by (are_rows m r) r.ends e
  where
    by : (a b : Bool) → cond a (cond b (go between) (go (in_rows ms))) refuse ≡ close n → ⊥
    by false b e = cc
    by true true e = cc
    by true false e = cc

if_close : (b : Bool) (s : Stage) (n : ℕ) → cond b (go s) refuse ≡ close n → ⊥
if_close true s n e = cc
if_close false s n e = cc

int_var_close : (p : ℕ) (kind : IntVarKind) (n : ℕ) → int_var_move p kind ≡ close n → ⊥
int_var_close p LastInsertId n e = if_close (ltb p 1) (vars 1) n e
int_var_close p InsertId n e = if_close (ltb p 2) (vars 2) n e

-- just an XID ends a transaction, behind an item
abbrev Closed : Stage → Body → Type 0
Closed s b = (s ≡ between) × (is_xid b ≡ true)

closes : (s : Stage) (b : Body) (n : ℕ) → move s b ≡ close n → Closed s b
closes first (query q) n e = cc
closes first (rotate next) n e = cc
closes first (int_var kind x) n e = absurd (int_var_close 0 kind n e)
closes first (rand x y) n e = cc
closes first (user_var name v) n e = cc
closes first (format_description version) n e = cc
closes first (xid x) n e = cc
closes first (table_map m) n e = cc
closes first (rows r) n e = cc
closes between (query q) n e = cc
closes between (rotate next) n e = cc
closes between (int_var kind x) n e = absurd (int_var_close 0 kind n e)
closes between (rand x y) n e = cc
closes between (user_var name v) n e = cc
closes between (format_description version) n e = cc
closes between (xid x) n e = (refl, refl)
closes between (table_map m) n e = cc
closes between (rows r) n e = cc
closes (vars p) (query q) n e = cc
closes (vars p) (rotate next) n e = cc
closes (vars p) (int_var kind x) n e = absurd (int_var_close p kind n e)
closes (vars p) (rand x y) n e = absurd (if_close (ltb p 3) (vars 3) n e)
closes (vars p) (user_var name v) n e = cc
closes (vars p) (format_description version) n e = cc
closes (vars p) (xid x) n e = cc
closes (vars p) (table_map m) n e = cc
closes (vars p) (rows r) n e = cc
closes (maps ms) (query q) n e = cc
closes (maps ms) (rotate next) n e = cc
closes (maps ms) (int_var kind x) n e = cc
closes (maps ms) (rand x y) n e = cc
closes (maps ms) (user_var name v) n e = cc
closes (maps ms) (format_description version) n e = cc
closes (maps ms) (xid x) n e = cc
closes (maps ms) (table_map m) n e = absurd (if_close (is_free (find m.id ms)) (maps (ms ++ m ∷ [])) n e)
closes (maps ms) (rows r) n e = absurd (rows_close ms r (find r.id ms) n e)
closes (in_rows ms) (query q) n e = cc
closes (in_rows ms) (rotate next) n e = cc
closes (in_rows ms) (int_var kind x) n e = cc
closes (in_rows ms) (rand x y) n e = cc
closes (in_rows ms) (user_var name v) n e = cc
closes (in_rows ms) (format_description version) n e = cc
closes (in_rows ms) (xid x) n e = cc
closes (in_rows ms) (table_map m) n e = cc
closes (in_rows ms) (rows r) n e = absurd (rows_close ms r (find r.id ms) n e)

-- no stage goes on behind an XID
xid_stops : (s : Stage) (n : ℕ) (t : Stage) → move s (xid n) ≡ go t → ⊥
xid_stops first n t e = cc
xid_stops between n t e = cc
xid_stops (vars p) n t e = cc
xid_stops (maps ms) n t e = cc
xid_stops (in_rows ms) n t e = cc

pub no_xid : (s : Stage) (b : Body) (t : Stage) → move s b ≡ go t → is_xid b ≡ false
no_xid s (query q) t e = refl
no_xid s (rotate next) t e = refl
no_xid s (int_var kind n) t e = refl
no_xid s (rand x y) t e = refl
no_xid s (user_var name v) t e = refl
no_xid s (format_description version) t e = refl
no_xid s (xid n) t e = absurd (xid_stops s n t e)
no_xid s (table_map m) t e = refl
no_xid s (rows r) t e = refl

-- ---- runs and scans

-- events that lead somewhere are passed
scan_on : (xs ys : List Placed) (stop : Stop) (s t : Stage) → run s (map said xs) ≡ Some t → scan s (xs ++ ys) stop ≡ scan t ys stop
scan_on [] ys stop s t e = let same : s ≡ t = cc in rw same refl
scan_on (x ∷ xs) ys stop s t e = by (λ u. scan_on xs ys stop u t) (move s (said x)) e
  where
    by : ((u : Stage) → run u (map said xs) ≡ Some t → scan u (xs ++ ys) stop ≡ scan t ys stop) → (m : Move) → ran (λ u. run u (map said xs)) m ≡ Some t
        → scanned x (λ u. scan u (xs ++ ys) stop) m ≡ scan t ys stop
    by again (go u) e = again u e
    by again (close n) e = cc
    by again refuse e = cc

until_before : (xs ys : List Placed) (y : Placed) (s t : Stage) → run s (map said xs) ≡ Some t → is_xid (said y) ≡ true → until_xid (xs ++ y ∷ ys) ≡ xs
until_before [] ys y s t e ends = rw ends refl
until_before (x ∷ xs) ys y s t e ends = by (λ u f. until_before xs ys y u t f ends) (move s (said x)) refl e
  where
    by : ((u : Stage) → run u (map said xs) ≡ Some t → until_xid (xs ++ y ∷ ys) ≡ xs) → (m : Move) → move s (said x) ≡ m → ran (λ u. run u (map said xs)) m ≡ Some t
        → until_xid (x ∷ xs ++ y ∷ ys) ≡ x ∷ xs
    by again (go u) is e = rw (no_xid s (said x) u is) (ap (λ (zs : List Placed). x ∷ zs) (again u e))
    by again (close n) is e = cc
    by again refuse is e = cc

-- events up to the XID lead behind an item
scan_run : (es : List Placed) (stop : Stop) (s : Stage) (n end : ℕ) → scan s es stop ≡ done n end → run s (map said (until_xid es)) ≡ Some between
scan_run [] stop s n end e = cc
scan_run (x ∷ xs) stop s n end e = by (λ u. scan_run xs stop u n end) (move s (said x)) refl e
  where
    by : ((u : Stage) → scan u xs stop ≡ done n end → run u (map said (until_xid xs)) ≡ Some between) → (m : Move) → move s (said x) ≡ m
        → scanned x (λ u. scan u xs stop) m ≡ done n end → run s (map said (until_xid (x ∷ xs))) ≡ Some between
    by again (go u) is e = rw (no_xid s (said x) u is, is) (again u e)
    by again (close k) is e = let c = closes s (said x) k is in rw (c.1, c.0) refl
    by again refuse is e = cc

-- a scan that the end of the bytes stops is a run
short_run : (es : List Placed) (stop : Stop) (s : Stage) (need : ℕ) → scan s es stop ≡ stopped (short need) → (stop ≡ short need) × ((t : Stage) × (run s (map said es) ≡ Some t))
short_run [] stop s need e = (cc, (s, refl))
short_run (x ∷ xs) stop s need e = by (λ u. short_run xs stop u need) (move s (said x)) refl e
  where
    by : ((u : Stage) → scan u xs stop ≡ stopped (short need) → (stop ≡ short need) × ((t : Stage) × (run u (map said xs) ≡ Some t))) → (m : Move) → move s (said x) ≡ m
        → scanned x (λ u. scan u xs stop) m ≡ stopped (short need) → (stop ≡ short need) × ((t : Stage) × (ran (λ u. run u (map said xs)) m ≡ Some t))
    by again (go u) is e = again u e
    by again (close k) is e = cc
    by again refuse is e = cc

-- ---- what is spelled is read

is_begin : (q : Query) → q.text ≡ codes "BEGIN" → bytes_eq q.text (codes "BEGIN") ≡ true
is_begin q e = rw e refl

begun : (e : Placed) (q : Query) (es : List Placed) (stop : Stop) → said e ≡ query q → q.text ≡ codes "BEGIN" → group_of (e ∷ es) stop ≡ txn_of e q es (scan first es stop)
begun e q es stop is text = rw (is, is_begin q text) refl

last_closes : (x : Placed) (n : ℕ) (more : List Placed) (stop : Stop) → said x ≡ xid n → scan between (x ∷ more) stop ≡ done n (end_of x)
last_closes x n more stop is = rw is refl

pub spelled_read : (opening : Placed) (q : Query) (es : List Placed) (last : Placed) (n : ℕ) (i : Spelled) (is : List Spelled)
    (more : List Placed) (stop : Stop) → said opening ≡ query q → q.text ≡ codes "BEGIN" → map said es ≡ bodies (i ∷ is)
    → AreItems (i ∷ is) → said last ≡ xid n
    → group_of (opening ∷ es ++ last ∷ more) stop
    ≡ group (record { form = txn (statement_of opening q) es n; begin = opening.pos; end = end_of last })
spelled_read opening q es last n i is more stop opens text same are ends =
    let runs : run first (map said es) ≡ Some between = ap (run first) same ∙ items_run i is are in
    let xid-last : is_xid (said last) ≡ true = rw ends refl in
    begun opening q (es ++ last ∷ more) stop opens text
    ∙ rw (scan_on es (last ∷ more) stop first between runs, last_closes last n more stop ends, until_before es more last first between runs xid-last) refl

-- ---- what is read is spelled

-- where a transaction is read, its events lead behind an item
abbrev pub ReadsForm : Form → Type 0
ReadsForm start = Unit {0}
ReadsForm (next_log next) = Unit {0}
ReadsForm (ddl statement) = Unit {0}
ReadsForm (txn opening items n) = run first (map said items) ≡ Some between

abbrev pub Reads : Next → Type 0
Reads (group g) = ReadsForm g.form
Reads not_whole = Unit {0}
Reads (damaged_at p) = Unit {0}
Reads (foreign_at p k) = Unit {0}

reads_stop : (stop : Stop) → Reads (stop_next stop)
reads_stop (short need) = tt
reads_stop (damaged p) = tt
reads_stop (foreign p k) = tt

reads_txn : (x : Placed) (q : Query) (xs : List Placed) (stop : Stop) (s : Scan) → scan first xs stop ≡ s → Reads (txn_of x q xs s)
reads_txn x q xs stop (done n end) e = scan_run xs stop first n end e
reads_txn x q xs stop (stopped s) e = reads_stop s

reads_query : (x : Placed) (q : Query) (xs : List Placed) (stop : Stop) (b : Bool) → Reads (cond b (txn_of x q xs (scan first xs stop)) (alone x (ddl (statement_of x q))))
reads_query x q xs stop true = reads_txn x q xs stop (scan first xs stop) refl
reads_query x q xs stop false = tt

reads_start : (x : Placed) (b : Bool) → Reads (cond b (alone x start) (damaged_at x.pos))
reads_start x true = tt
reads_start x false = tt

reads_by : (x : Placed) (xs : List Placed) (stop : Stop) (b : Body) → Reads (begun_by x xs stop b)
reads_by x xs stop (query q) = reads_query x q xs stop (bytes_eq q.text (codes "BEGIN"))
reads_by x xs stop (rotate next) = tt
reads_by x xs stop (int_var kind n) = tt
reads_by x xs stop (rand a b) = tt
reads_by x xs stop (user_var name v) = tt
reads_by x xs stop (format_description version) = reads_start x (eqb x.pos 4)
reads_by x xs stop (xid n) = tt
reads_by x xs stop (table_map m) = tt
reads_by x xs stop (rows r) = tt

reads : (es : List Placed) (stop : Stop) → Reads (group_of es stop)
reads [] stop = reads_stop stop
reads (x ∷ xs) stop = reads_by x xs stop (said x)

pub read_spelled : (es : List Placed) (stop : Stop) (opening : Statement) (items : List Placed) (n begin end : ℕ)
    → group_of es stop ≡ group (record { form = txn opening items n; begin = begin; end = end })
    → (i : Spelled) × (is : List Spelled) × AreItems (i ∷ is) × (map said items ≡ bodies (i ∷ is))
read_spelled es stop opening items n begin end e = whole (map said items) (subst Reads e (reads es stop))

-- ---- fronts

abbrev pub IfNotWhole : Type 0 → Next → Type 0
IfNotWhole X (group g) = Unit {0}
IfNotWhole X not_whole = X
IfNotWhole X (damaged_at p) = Unit {0}
IfNotWhole X (foreign_at p k) = Unit {0}

stop_front : (stop : Stop) → IfNotWhole (IsShort stop × Unit {0}) (stop_next stop)
stop_front (short need) = (tt, tt)
stop_front (damaged p) = tt
stop_front (foreign p k) = tt

begun_front : {Y : Type 0} → Y → (x : Placed) (q : Query) (xs : List Placed) (stop : Stop) (s : Scan) → scan first xs stop ≡ s
    → IfNotWhole (IsShort stop × (Y × ((t : Stage) × (run first (map said xs) ≡ Some t)))) (txn_of x q xs s)
begun_front y x q xs stop (done n end) e = tt
begun_front y x q xs stop (stopped (short need)) e =
    let r = short_run xs stop first need e in
    (subst IsShort (sym r.0) tt, (y, r.1))
begun_front y x q xs stop (stopped (damaged p)) e = tt
begun_front y x q xs stop (stopped (foreign p k)) e = tt

query_front : (x : Placed) (q : Query) (xs : List Placed) (stop : Stop) (b : Bool) → bytes_eq q.text (codes "BEGIN") ≡ b
    → IfNotWhole (IsShort stop × (IsBegin (query q) × ((t : Stage) × (run first (map said xs) ≡ Some t))))
    (cond b (txn_of x q xs (scan first xs stop)) (alone x (ddl (statement_of x q))))
query_front x q xs stop true same = begun_front ((bytes_eq-Decides q.text (codes "BEGIN")).0 same) x q xs stop (scan first xs stop) refl
query_front x q xs stop false same = tt

start_front : (X : Type 0) (x : Placed) (b : Bool) → IfNotWhole X (cond b (alone x start) (damaged_at x.pos))
start_front X x true = tt
start_front X x false = tt

front_by : (x : Placed) (xs : List Placed) (stop : Stop) (b : Body)
    → IfNotWhole (IsShort stop × (IsBegin b × ((t : Stage) × (run first (map said xs) ≡ Some t)))) (begun_by x xs stop b)
front_by x xs stop (query q) = query_front x q xs stop (bytes_eq q.text (codes "BEGIN")) refl
front_by x xs stop (rotate next) = tt
front_by x xs stop (int_var kind n) = tt
front_by x xs stop (rand a b) = tt
front_by x xs stop (user_var name v) = tt
front_by x xs stop (format_description version) = start_front _ x (eqb x.pos 4)
front_by x xs stop (xid n) = tt
front_by x xs stop (table_map m) = tt
front_by x xs stop (rows r) = tt

front_of : (es : List Placed) (stop : Stop) → IfNotWhole (IsShort stop × IsFront es) (group_of es stop)
front_of [] stop = stop_front stop
front_of (x ∷ xs) stop = front_by x xs stop (said x)

pub not_whole_front : (es : List Placed) (stop : Stop) → group_of es stop ≡ not_whole → IsShort stop × IsFront es
not_whole_front es stop e = subst (IfNotWhole (IsShort stop × IsFront es)) e (front_of es stop)

short_next : (stop : Stop) → IsShort stop → stop_next stop ≡ not_whole
short_next (short need) is = refl
short_next (damaged p) is = absurd is
short_next (foreign p k) is = absurd is

behind_begin : (x : Placed) (xs : List Placed) (stop : Stop) (b : Body) (s : Stage) → IsShort stop → IsBegin b → run first (map said xs) ≡ Some s → begun_by x xs stop b ≡ not_whole
behind_begin x xs stop (query q) s is begins e =
    let on : scan first xs stop ≡ stopped stop = ap (λ (ys : List Placed). scan first ys stop) (sym (append-nil xs)) ∙ scan_on xs [] stop first s e in
    rw (is_begin q begins, on) (short_next stop is)
behind_begin x xs stop (rotate next) s is begins e = absurd begins
behind_begin x xs stop (int_var kind n) s is begins e = absurd begins
behind_begin x xs stop (rand a b) s is begins e = absurd begins
behind_begin x xs stop (user_var name v) s is begins e = absurd begins
behind_begin x xs stop (format_description version) s is begins e = absurd begins
behind_begin x xs stop (xid n) s is begins e = absurd begins
behind_begin x xs stop (table_map m) s is begins e = absurd begins
behind_begin x xs stop (rows r) s is begins e = absurd begins

pub front_not_whole : (es : List Placed) (stop : Stop) → IsShort stop → IsFront es → group_of es stop ≡ not_whole
front_not_whole [] stop is front = short_next stop is
front_not_whole (x ∷ xs) stop is front = behind_begin x xs stop (said x) front.1.0 is front.0 front.1.1
