-- A group that is looked at while its bytes come.
use Rattle.std.proofs.Common.{◌≡◌, ◌≤◌, ◌<◌, ◌⊎◌, inl, inr, ℕ, ◌+◌, ◌-◌, Bool, true, false, cond, not, leb, ltb, eqb, List, [], ◌∷◌, ◌++◌, length, take, drop, Option, Some, None, Result, Ok, Err, refl, sym, ap, ◌∙◌, subst, arith, append-nil, append_assoc, length-append, length-drop}
use Rattle.std.specs.Prelude.{codes, slice_index, slice_range, if◌then◌else◌, ◌&&◌}
use Rattle.std.specs.Str.{bytes_eq}
use Rattle.std.proofs.lemmas.Bool.{leb-true, ltb-false, ltb-true, eqb-true}
use Rattle.std.proofs.lemmas.List.{drop-drop, drop-append-le, drop_all}
use Rattle.byte_fields.specs.Field.{number_at}
use Rattle.event_codec.specs.declared.event.IntVarKind.{IntVarKind}
use Rattle.event_codec.specs.declared.event.IntVarKind.TheVariants.{LastInsertId, InsertId}
use Rattle.event_codec.specs.declared.fault.Fault.{Fault}
use Rattle.event_codec.specs.declared.fault.Fault.TheVariants.{Damaged, Foreign}
use Rattle.event_codec.specs.Event.{Body, query, rotate, int_var, rand, user_var, format_description, xid, table_map, rows, Query, Map, Rows, Seen}
use Rattle.event_codec.specs.Reading.{Reading, event, none, Stop, short, damaged, foreign, reading, read_as, headed, body_at, Within}
use Rattle.event_codec.proofs.Lying.{lies_within}
use Rattle.row_image.specs.log_model.Events.{Place, Placed, past, events_from, stop_from}
use Rattle.row_image.specs.log_model.Groups.{Stage, first, between, maps, in_rows, go, close, refuse, move, int_var_move, rows_move, Scan, done, stopped, scan, start, group, not_whole, damaged_at, until_xid, stop_next, txn_of, begun_by, group_at}
use Rattle.row_image.specs.log_model.Images.{are_rows}
use Rattle.row_image.proofs.of_log_model.Walking.{events_some, events_none, stop_none}
use Rattle.log_group_laws.proofs.Staying.{event_front, number_front}
use Rattle.log_groups.specs.declared.growing.Mark.{Mark}
use Rattle.log_groups.specs.declared.growing.Mark.TheVariants as mark
use Rattle.log_groups.specs.declared.growing.Progress.{Progress}
use Rattle.log_groups.specs.declared.growing.Look.TheVariants as look
use Rattle.log_groups.specs.Views.{maps_in}
use Rattle.log_groups.specs.Growing.{after, item_parts, stage_at, MarkStands, MarkLies, MarkCounts, mark_behind, mark_behind_var, mark_behind_map, mark_behind_rows, goes_on, InTransaction, IsLooked, IsSettled, LookGives, LooksStay}
use Rattle.log_groups.proofs.Walking as walking
use Rattle.log_groups.proofs.Walking.{map_next, first_map, first_stands, maps_more, drop_more, begins, no_group}

-- ---- headers

-- how many bytes an event has is what its header says
size_by : (bytes : List ℕ) (stamp size pos kind : ℕ) (a h d : Bool) (r : Reading) (e : Seen) → (r ≡ event e → e.size ≡ size)
    → (if a then none (short 19) else if h then none (damaged pos) else if d then none (short size) else r) ≡ event e → e.size ≡ size
size_by bytes stamp size pos kind true h d r e by is = cc
size_by bytes stamp size pos kind false true d r e by is = cc
size_by bytes stamp size pos kind false false true r e by is = cc
size_by bytes stamp size pos kind false false false r e by is = by is

read_size : (pos kind stamp size : ℕ) (b : Result Body Fault) (e : Seen) → read_as pos kind (headed stamp size b) ≡ event e → e.size ≡ size
read_size pos kind stamp size (Ok b) e is = cc
read_size pos kind stamp size (Err Damaged) e is = cc
read_size pos kind stamp size (Err Foreign) e is = cc

event_size : (bytes : List ℕ) (pos : ℕ) (e : Seen) → reading bytes pos ≡ event e → e.size ≡ number_at 9 4 bytes
unfolding reading
event_size bytes pos e is =
    size_by bytes (number_at 0 4 bytes) (number_at 9 4 bytes) pos (slice_index bytes 4) _ _ _ _ e
    (read_size pos (slice_index bytes 4) (number_at 0 4 bytes) (number_at 9 4 bytes) (body_at (slice_index bytes 4) (slice_range bytes 19 (number_at 9 4 bytes))) e) is

-- where bytes are missing, it is those of a header, or of an event that ends within a log
record Needs (bytes : List ℕ) (pos need : ℕ) : Type 0 where
  lacks : length bytes < need
  known : (need ≡ 19) ⊎ ((19 ≤ length bytes) × (need ≡ number_at 9 4 bytes) × (pos + need ≤ 1200000000))

needs_by : (bytes : List ℕ) (stamp size next pos kind need : ℕ) (a e f h d : Bool) (r : Result Body Fault) → ltb (length bytes) 19 ≡ a → leb 19 size ≡ e
    → eqb next (pos + size) ≡ f → leb next 1200000000 ≡ h → ltb (length bytes) size ≡ d → size ≡ number_at 9 4 bytes
    → (if a then none (short 19) else if not ((e && f) && h) then none (damaged pos) else if d then none (short size) else read_as pos kind (headed stamp size r)) ≡ none (short need)
    → Needs bytes pos need
needs_by bytes stamp size next pos kind need true e f h d r few t v w u same is =
    let n : 19 ≡ need = cc in
    record { lacks = omega (arith, ltb-true _ _ few, n); known = inl (sym n) }
needs_by bytes stamp size next pos kind need false false f h d r few t v w u same is = cc
needs_by bytes stamp size next pos kind need false true false h d r few t v w u same is = cc
needs_by bytes stamp size next pos kind need false true true false d r few t v w u same is = cc
needs_by bytes stamp size next pos kind need false true true true true r few t v w u same is =
    let n : size ≡ need = cc in
    let sound = eqb-true next (pos + size) v in
    let low = leb-true next 1200000000 w in
    record {
      lacks = omega (arith, ltb-true _ _ u, n);
      known = inr (ltb-false _ _ few, sym n ∙ same, omega arith);
    }
needs_by bytes stamp size next pos kind need false true true true false (Ok b) few t v w u same is = cc
needs_by bytes stamp size next pos kind need false true true true false (Err Damaged) few t v w u same is = cc
needs_by bytes stamp size next pos kind need false true true true false (Err Foreign) few t v w u same is = cc

needs : (bytes : List ℕ) (pos need : ℕ) → reading bytes pos ≡ none (short need) → Needs bytes pos need
unfolding reading
needs bytes pos need is =
    needs_by bytes (number_at 0 4 bytes) (number_at 9 4 bytes) (number_at 13 4 bytes) pos (slice_index bytes 4) need _ _ _ _ _
    (body_at (slice_index bytes 4) (slice_range bytes 19 (number_at 9 4 bytes))) refl refl refl refl refl refl is

-- an event that is read then has at least as many
needs_grow : (bytes more : List ℕ) (pos need : ℕ) (e : Seen) → Needs bytes pos need → reading (bytes ++ more) pos ≡ event e → need ≤ e.size
needs_grow bytes more pos need e known is = by known.known
  where
    within : Within (bytes ++ more) pos (event e)
    within = subst (Within (bytes ++ more) pos) is (lies_within (bytes ++ more) pos)

    by : (need ≡ 19) ⊎ ((19 ≤ length bytes) × (need ≡ number_at 9 4 bytes) × (pos + need ≤ 1200000000)) → need ≤ e.size
    by (inl header) = omega (arith, header, within.0)
    by (inr whole) =
        let size : e.size ≡ number_at 9 4 (bytes ++ more) = event_size (bytes ++ more) pos e is in
        let same : number_at 9 4 (bytes ++ more) ≡ number_at 9 4 bytes = number_front 9 4 bytes more (omega (arith, whole.0)) in
        omega (arith, whole.1, size, same)

-- ---- the stage behind an event

-- what it has to be
abbrev Leads : Mark → (looked : ℕ) → Place → Stage → Type 0
Leads m n p t = (t ≡ stage_at m p) × MarkStands m n p

if_go : (c : Bool) (s t : Stage) → cond c (go s) refuse ≡ go t → t ≡ s
if_go true s t e = cc
if_go false s t e = cc

var_go : (passed n : ℕ) (kind : IntVarKind) (p : Place) (t : Stage) → int_var_move passed kind ≡ go t → Leads (mark_behind_var kind) n p t
var_go passed n LastInsertId p t e = (if_go _ _ t e, tt)
var_go passed n InsertId p t e = (if_go _ _ t e, tt)

rows_go : (ms : List Map) (r : Rows) (o : Option Map) (t : Stage) → rows_move ms r o ≡ go t → t ≡ (if r.ends then between else in_rows ms)
rows_go ms r None t e = cc
rows_go ms r (Some m) t e = by (are_rows m r) r.ends e
  where
    by : (a b : Bool) → cond a (cond b (go between) (go (in_rows ms))) refuse ≡ go t → t ≡ cond b between (in_rows ms)
    by false b e = cc
    by true true e = cc
    by true false e = cc

rows_lead : (ends : Bool) (m : Mark) (ms : List Map) (n : ℕ) (p : Place) (t : Stage) → t ≡ cond ends between (in_rows ms) → in_rows ms ≡ stage_at m p → MarkStands m n p
    → Leads (cond ends mark.Between m) n p t
rows_lead true m ms n p t is same stands = (is, tt)
rows_lead false m ms n p t is same stands = (is ∙ same, stands)

module _ (n : ℕ) (p : Place) (e : Seen) (t : Stage) (is : reading (drop n p.bytes) (p.pos + n) ≡ event e) where
  within : Within (drop n p.bytes) (p.pos + n) (event e)
  within = subst (Within (drop n p.bytes) (p.pos + n)) is (lies_within (drop n p.bytes) (p.pos + n))

  -- one stands behind the event
  past_after : past e (after n p) ≡ after (n + e.size) p
  past_after =
      let bytes : drop e.size (drop n p.bytes) ≡ drop (n + e.size) p.bytes = drop-drop e.size n p.bytes in
      let place : p.pos + n + e.size ≡ p.pos + (n + e.size) = omega arith in
      rw (bytes, place) refl

  first_leads : (m : Map) → e.body ≡ table_map m → maps (m ∷ []) ≡ t → Leads (mark.Maps n 1) (n + e.size) p t
  first_leads m body so = (
    sym so ∙ ap maps (sym (first_map (after n p) e m is body)),
    (first_stands (after n p) e m is body ∙ ap (λ (q : Place). until_xid (events_from q)) past_after, omega (arith, within.0)),
  )

  more_leads : (item count : ℕ) (m : Map) → e.body ≡ table_map m → MarkStands (mark.Maps item count) n p → maps (maps_in (take count (item_parts item p)) ++ m ∷ []) ≡ t
      → Leads (mark.Maps item (count + 1)) (n + e.size) p t
  more_leads item count m body stands so =
      let parts : drop count (item_parts item p) ≡ record { pos = p.pos + n; event = e } ∷ until_xid (events_from (past e (after n p))) =
      stands.0 ∙ map_next (after n p) e m is body in (
        sym so ∙ ap maps (sym (maps_more count (item_parts item p) _ _ m parts body)),
        (drop_more count (item_parts item p) _ _ parts ∙ ap (λ (q : Place). until_xid (events_from q)) past_after, omega (arith, stands.1, within.0)),
      )

  map_leads : (m : Mark) (k : Map) → e.body ≡ table_map k → MarkStands m n p → move (stage_at m p) (table_map k) ≡ go t → Leads (mark_behind_map m n) (n + e.size) p t
  map_leads mark.First k body stands moved = first_leads k body cc
  map_leads mark.Between k body stands moved = first_leads k body cc
  map_leads (mark.Vars passed) k body stands moved = cc
  map_leads (mark.Maps item count) k body stands moved = more_leads item count k body stands (sym (if_go _ _ t moved))
  map_leads (mark.Rows item count) k body stands moved = cc

  rows_leads : (m : Mark) (r : Rows) → move (stage_at m p) (rows r) ≡ go t → Leads (if r.ends then mark.Between else mark_behind_rows m) (n + e.size) p t
  rows_leads mark.First r moved = cc
  rows_leads mark.Between r moved = cc
  rows_leads (mark.Vars passed) r moved = cc
  rows_leads (mark.Maps item count) r moved = rows_lead r.ends (mark.Rows item count) _ _ p t (rows_go _ r _ t moved) refl tt
  rows_leads (mark.Rows item count) r moved = rows_lead r.ends (mark.Rows item count) _ _ p t (rows_go _ r _ t moved) refl tt

  query_leads : (m : Mark) (q : Query) → move (stage_at m p) (query q) ≡ go t → Leads mark.Between (n + e.size) p t
  query_leads mark.First q moved = (cc, tt)
  query_leads mark.Between q moved = (cc, tt)
  query_leads (mark.Vars passed) q moved = (cc, tt)
  query_leads (mark.Maps item count) q moved = cc
  query_leads (mark.Rows item count) q moved = cc

  var_leads : (m : Mark) (kind : IntVarKind) (k : ℕ) → move (stage_at m p) (int_var kind k) ≡ go t → Leads (mark_behind_var kind) (n + e.size) p t
  var_leads mark.First kind k moved = var_go 0 _ kind p t moved
  var_leads mark.Between kind k moved = var_go 0 _ kind p t moved
  var_leads (mark.Vars passed) kind k moved = var_go passed _ kind p t moved
  var_leads (mark.Maps item count) kind k moved = cc
  var_leads (mark.Rows item count) kind k moved = cc

  seeds_lead : (m : Mark) (a b : ℕ) → move (stage_at m p) (rand a b) ≡ go t → Leads (mark.Vars 3) (n + e.size) p t
  seeds_lead mark.First a b moved = (cc, tt)
  seeds_lead mark.Between a b moved = (cc, tt)
  seeds_lead (mark.Vars passed) a b moved = (if_go _ _ t moved, tt)
  seeds_lead (mark.Maps item count) a b moved = cc
  seeds_lead (mark.Rows item count) a b moved = cc

  leads : (m : Mark) (b : Body) → e.body ≡ b → MarkStands m n p → move (stage_at m p) b ≡ go t → Leads (mark_behind m n b) (n + e.size) p t
  leads m (query q) body stands moved = query_leads m q moved
  leads m (int_var kind k) body stands moved = var_leads m kind k moved
  leads m (rand a b) body stands moved = seeds_lead m a b moved
  leads mark.First (user_var name v) body stands moved = (cc, tt)
  leads mark.Between (user_var name v) body stands moved = (cc, tt)
  leads (mark.Vars passed) (user_var name v) body stands moved = (cc, tt)
  leads (mark.Maps item count) (user_var name v) body stands moved = cc
  leads (mark.Rows item count) (user_var name v) body stands moved = cc
  leads m (table_map k) body stands moved = map_leads m k body stands moved
  leads m (rows r) body stands moved = rows_leads m r moved
  leads mark.First (rotate next) body stands moved = cc
  leads mark.Between (rotate next) body stands moved = cc
  leads (mark.Vars passed) (rotate next) body stands moved = cc
  leads (mark.Maps item count) (rotate next) body stands moved = cc
  leads (mark.Rows item count) (rotate next) body stands moved = cc
  leads mark.First (format_description version) body stands moved = cc
  leads mark.Between (format_description version) body stands moved = cc
  leads (mark.Vars passed) (format_description version) body stands moved = cc
  leads (mark.Maps item count) (format_description version) body stands moved = cc
  leads (mark.Rows item count) (format_description version) body stands moved = cc
  leads mark.First (xid k) body stands moved = cc
  leads mark.Between (xid k) body stands moved = cc
  leads (mark.Vars passed) (xid k) body stands moved = cc
  leads (mark.Maps item count) (xid k) body stands moved = cc
  leads (mark.Rows item count) (xid k) body stands moved = cc

-- its item begins within the bytes that were passed
mark_lies : (m : Mark) (n size : ℕ) (b : Body) → MarkLies m n → MarkLies (mark_behind m n b) (n + size)
mark_lies m n size (query q) lies = tt
mark_lies m n size (rotate next) lies = tt
mark_lies m n size (int_var LastInsertId k) lies = tt
mark_lies m n size (int_var InsertId k) lies = tt
mark_lies m n size (rand a b) lies = tt
mark_lies m n size (user_var name v) lies = tt
mark_lies m n size (format_description version) lies = tt
mark_lies m n size (xid k) lies = tt
mark_lies mark.First n size (table_map k) lies = omega arith
mark_lies mark.Between n size (table_map k) lies = omega arith
mark_lies (mark.Vars passed) n size (table_map k) lies = omega arith
mark_lies (mark.Maps item count) n size (table_map k) lies = omega (arith, lies)
mark_lies (mark.Rows item count) n size (table_map k) lies = omega arith
mark_lies m n size (rows r) lies = by r.ends m lies
  where
    by : (ends : Bool) (m : Mark) → MarkLies m n → MarkLies (cond ends mark.Between (mark_behind_rows m)) (n + size)
    by true m lies = tt
    by false mark.First lies = tt
    by false mark.Between lies = tt
    by false (mark.Vars passed) lies = tt
    by false (mark.Maps item count) lies = omega (arith, lies)
    by false (mark.Rows item count) lies = omega (arith, lies)

-- ---- transactions

nothing_read : (pos : ℕ) → reading [] pos ≡ none (short 19)
unfolding reading
nothing_read pos = refl

-- an event that goes on leads to where one stands behind it
pub transaction_goes : (m : Mark) (n : ℕ) (bytes : List ℕ) (pos : ℕ) (e : Seen) (t : Stage) (at : InTransaction m n bytes pos) → n ≤ length bytes
    → reading (drop n bytes) (pos + n) ≡ event e → move at.stage e.body ≡ go t → InTransaction (mark_behind m n e.body) (n + e.size) bytes pos
transaction_goes m n bytes pos e t at within is moved = record {
  opening = at.opening;
  text = at.text;
  is_query = at.is_query;
  is_begin = at.is_begin;
  stage = t;
  some = omega (arith, at.some);
  reads = at.reads;
  scans = λ more. sym (walking.goes_on at.stage t (after n (whole more)) (after (n + e.size) (whole more)) e _ (sym (read more)) (sym moved) (sym (past_after n (whole more) e t (read more))) (sym (at.scans more)));
  stage_is = λ more. (led more).0;
  stands = λ more. (led more).1;
}
  where
    whole : List ℕ → Place
    whole more = record { bytes = bytes ++ more; pos = pos }

    read : (more : List ℕ) → reading (drop n (bytes ++ more)) (pos + n) ≡ event e
    read more = ap (λ (bs : List ℕ). reading bs (pos + n)) (drop-append-le n bytes more within) ∙ event_front (drop n bytes) more (pos + n) e is

    led : (more : List ℕ) → Leads (mark_behind m n e.body) (n + e.size) (record { bytes = bytes ++ more; pos = pos }) t
    led more = leads n (record { bytes = bytes ++ more; pos = pos }) e t (ap (λ (bs : List ℕ). reading bs (pos + n)) (drop-append-le n bytes more within) ∙ event_front (drop n bytes) more (pos + n) e is) m e.body refl (at.stands more)
        (ap (λ (s : Stage). move s e.body) (sym (at.stage_is more)) ∙ moved)

-- a BEGIN that opens a group leads behind it
pub transaction_opens : (bytes : List ℕ) (pos : ℕ) (e : Seen) (q : Query) → reading bytes pos ≡ event e → e.body ≡ query q → bytes_eq q.text (codes "BEGIN") ≡ true
    → InTransaction mark.First e.size bytes pos
transaction_opens bytes pos e q is body begin =
    let within : Within bytes pos (event e) = subst (Within bytes pos) is (lies_within bytes pos) in
    record {
      opening = e;
      text = q;
      is_query = body;
      is_begin = begin;
      stage = first;
      some = omega (arith, within.0);
      reads = λ more. event_front bytes more pos e is;
      scans = λ more. refl;
      stage_is = λ more. refl;
      stands = λ more. tt;
    }

-- what stands there, by where one stands in a transaction
pub transaction_next : (m : Mark) (n : ℕ) (bytes : List ℕ) (pos : ℕ) (at : InTransaction m n bytes pos)
    → group_at (record { bytes = bytes; pos = pos })
    ≡ txn_of (record { pos = pos; event = at.opening }) at.text (events_from (past at.opening (record { bytes = bytes; pos = pos })))
    (scan at.stage (events_from (after n (record { bytes = bytes; pos = pos }))) (stop_from (after n (record { bytes = bytes; pos = pos }))))
transaction_next m n bytes pos at =
    sym (begins here (past at.opening here) at.opening _ (sym read) refl (sym (begun ∙ ap (txn_of (record { pos = pos; event = at.opening }) at.text (events_from (past at.opening here))) scans)))
  where
    here : Place
    here = record { bytes = bytes; pos = pos }

    read : reading bytes pos ≡ event at.opening
    read = subst (λ (bs : List ℕ). reading bs pos ≡ event at.opening) (append-nil bytes) (at.reads [])

    scans : scan first (events_from (past at.opening (record { bytes = bytes; pos = pos }))) (stop_from (past at.opening (record { bytes = bytes; pos = pos })))
        ≡ scan at.stage (events_from (after n (record { bytes = bytes; pos = pos }))) (stop_from (after n (record { bytes = bytes; pos = pos })))
    scans = subst (λ (bs : List ℕ). scan first (events_from (past at.opening (record { bytes = bs; pos = pos }))) (stop_from (past at.opening (record { bytes = bs; pos = pos })))
        ≡ scan at.stage (events_from (after n (record { bytes = bs; pos = pos }))) (stop_from (after n (record { bytes = bs; pos = pos })))) (append-nil bytes) (at.scans [])

    begun : begun_by (record { pos = pos; event = at.opening }) (events_from (past at.opening (record { bytes = bytes; pos = pos }))) (stop_from (past at.opening (record { bytes = bytes; pos = pos }))) at.opening.body
        ≡ txn_of (record { pos = pos; event = at.opening }) at.text (events_from (past at.opening (record { bytes = bytes; pos = pos })))
        (scan first (events_from (past at.opening (record { bytes = bytes; pos = pos }))) (stop_from (past at.opening (record { bytes = bytes; pos = pos }))))
    begun = rw (at.is_query, at.is_begin) refl

-- ---- looks

module _ (bytes : List ℕ) (pos : ℕ) (p : Progress) (looked : IsLooked bytes pos p) where
  abbrev here : Place
  here = after p.looked (record { bytes = bytes; pos = pos })

  -- what stands there, by how the transaction goes on
  by_scan : (at : InTransaction p.mark p.looked bytes pos) (s : Scan) → scan at.stage (events_from here) (stop_from here) ≡ s
      → group_at (record { bytes = bytes; pos = pos })
      ≡ txn_of (record { pos = pos; event = at.opening }) at.text (events_from (past at.opening (record { bytes = bytes; pos = pos }))) s
  by_scan at s is =
      transaction_next p.mark p.looked bytes pos at
      ∙ ap (txn_of (record { pos = pos; event = at.opening }) at.text (events_from (past at.opening (record { bytes = bytes; pos = pos })))) is

  next_here : (e : Seen) → reading (drop p.looked bytes) (pos + p.looked) ≡ event e → p.upto ≤ p.looked + e.size
  next_here e is = looked.next [] e (ap (λ (bs : List ℕ). reading (drop p.looked bs) (pos + p.looked)) (append-nil bytes) ∙ is)

  -- bytes are missing
  pub look_short : (need : ℕ) → reading (drop p.looked bytes) (pos + p.looked) ≡ none (short need) → pos ≤ 1200000000
      → LookGives bytes pos p (look.GoesOn (record { looked = p.looked; upto = p.looked + need; mark = p.mark }))
  look_short need is place = (
    record {
      within = looked.within;
      ends = looked.ends;
      needs = fits known.known looked.ends;
      item = looked.item;
      stands = looked.stands;
      next = λ more e read. omega (arith, needs_grow (drop p.looked bytes) more (pos + p.looked) need e known (ap (λ (bs : List ℕ). reading bs (pos + p.looked)) (sym (drop-append-le p.looked bytes more looked.within)) ∙ read));
    },
    omega (arith, known.lacks, length-drop p.looked bytes, looked.within),
    cut looked.stands,
  )
    where
      known : Needs (drop p.looked bytes) (pos + p.looked) need
      known = needs (drop p.looked bytes) (pos + p.looked) need is

      fits : (need ≡ 19) ⊎ ((19 ≤ length (drop p.looked bytes)) × (need ≡ number_at 9 4 (drop p.looked bytes)) × (pos + p.looked + need ≤ 1200000000)) → (p.looked ≡ 0) ⊎ (pos + p.looked ≤ 1200000000)
          → p.looked + need ≤ 1200000019
      fits (inl n) (inl z) = omega (arith, n, z)
      fits (inl n) (inr few) = omega (arith, n, few)
      fits (inr w) any = omega (arith, w.2)

      cut : (p.looked ≡ 0) ⊎ InTransaction p.mark p.looked bytes pos → group_at (record { bytes = bytes; pos = pos }) ≡ not_whole
      cut (inl z) =
          let same : reading (drop p.looked bytes) (pos + p.looked) ≡ reading bytes pos = rw z (ap (λ (at : ℕ). reading bytes at) (omega arith)) in
          sym (no_group (record { bytes = bytes; pos = pos }) (short need) (sym is ∙ same))
      cut (inr at) =
          let stop : scan at.stage (events_from here) (stop_from here) ≡ stopped (short need) = rw (events_none here (short need) is, stop_none here (short need) is) refl in
          by_scan at (stopped (short need)) stop

  -- no event stands there
  pub look_stops : (stop : Stop) → reading (drop p.looked bytes) (pos + p.looked) ≡ none stop → ((need : ℕ) → stop ≡ short need → ⊥) → LookGives bytes pos p look.Settled
  look_stops stop is known = by looked.stands
    where
      settled : (s : Stop) → ((need : ℕ) → s ≡ short need → ⊥) → IsSettled (pos + p.upto) (stop_next s)
      settled (short need) never = absurd (never need refl)
      settled (damaged q) never = tt
      settled (foreign q kind) never = tt

      by : (p.looked ≡ 0) ⊎ InTransaction p.mark p.looked bytes pos → IsSettled (pos + p.upto) (group_at (record { bytes = bytes; pos = pos }))
      by (inl z) =
          let same : reading (drop p.looked bytes) (pos + p.looked) ≡ reading bytes pos = rw z (ap (λ (at : ℕ). reading bytes at) (omega arith)) in
          subst (IsSettled (pos + p.upto)) (no_group (record { bytes = bytes; pos = pos }) stop (sym is ∙ same)) (settled stop known)
      by (inr at) =
          let stops : scan at.stage (events_from here) (stop_from here) ≡ stopped stop = rw (events_none here stop is, stop_none here stop is) refl in
          let next : group_at (record { bytes = bytes; pos = pos }) ≡ stop_next stop = by_scan at (stopped stop) stops in
          subst (IsSettled (pos + p.upto)) (sym next) (settled stop known)

  -- behind an event that goes on no byte is left
  goes : (e : Seen) (m : Mark) → reading (drop p.looked bytes) (pos + p.looked) ≡ event e → length bytes ≤ p.upto → MarkLies m (p.looked + e.size) → InTransaction m (p.looked + e.size) bytes pos
      → LookGives bytes pos p (look.GoesOn (goes_on p.looked e.size m))
  goes e m is few lies at =
      let low : p.upto ≤ p.looked + e.size = next_here e is in
      let size : length (drop p.looked bytes) ≡ length bytes - p.looked = length-drop p.looked bytes in
      let nothing : drop (p.looked + e.size) bytes ≡ [] = drop_all (p.looked + e.size) bytes (omega (arith, low, few)) in
      let there : Place = after (p.looked + e.size) (record { bytes = bytes; pos = pos }) in
      let lacks : reading (drop (p.looked + e.size) bytes) (pos + (p.looked + e.size)) ≡ none (short 19) = ap (λ (bs : List ℕ). reading bs (pos + (p.looked + e.size))) nothing ∙ nothing_read (pos + (p.looked + e.size)) in
      let stop : scan at.stage (events_from there) (stop_from there) ≡ stopped (short 19) = rw (events_none there (short 19) lacks, stop_none there (short 19) lacks) refl in (
        record {
          within = omega (arith, size, looked.within, within.1);
          ends = inr (omega (arith, within.2));
          needs = omega (arith, within.2);
          item = lies;
          stands = inr at;
          next = λ more x read. header more x read;
        },
        omega (arith, low, few),
        transaction_next m (p.looked + e.size) bytes pos at ∙ rw stop refl,
      )
    where
      within : Within (drop p.looked bytes) (pos + p.looked) (event e)
      within = subst (Within (drop p.looked bytes) (pos + p.looked)) is (lies_within (drop p.looked bytes) (pos + p.looked))

      header : (more : List ℕ) (x : Seen) → reading (drop (p.looked + e.size) (bytes ++ more)) (pos + (p.looked + e.size)) ≡ event x → p.looked + e.size + 19 ≤ p.looked + e.size + x.size
      header more x read =
          let inside : Within (drop (p.looked + e.size) (bytes ++ more)) (pos + (p.looked + e.size)) (event x) =
          subst (Within (drop (p.looked + e.size) (bytes ++ more)) (pos + (p.looked + e.size))) read (lies_within (drop (p.looked + e.size) (bytes ++ more)) (pos + (p.looked + e.size))) in
          omega (arith, inside.0)

  -- ---- in a transaction

  pub look_goes : (e : Seen) (t : Stage) (at : InTransaction p.mark p.looked bytes pos) → reading (drop p.looked bytes) (pos + p.looked) ≡ event e → length bytes ≤ p.upto
      → move at.stage e.body ≡ go t → LookGives bytes pos p (look.GoesOn (goes_on p.looked e.size (mark_behind p.mark p.looked e.body)))
  look_goes e t at is few moved =
      goes e (mark_behind p.mark p.looked e.body) is few (mark_lies p.mark p.looked e.size e.body looked.item) (transaction_goes p.mark p.looked bytes pos e t at looked.within is moved)

  pub look_closes : (e : Seen) (k : ℕ) (at : InTransaction p.mark p.looked bytes pos) → reading (drop p.looked bytes) (pos + p.looked) ≡ event e → move at.stage e.body ≡ close k
      → LookGives bytes pos p look.Settled
  look_closes e k at is moved =
      let low : p.upto ≤ p.looked + e.size = next_here e is in
      let ends : scan at.stage (events_from here) (stop_from here) ≡ done k (pos + p.looked + e.size) = rw (events_some here e is, moved) refl in
      subst (IsSettled (pos + p.upto)) (sym (by_scan at (done k (pos + p.looked + e.size)) ends)) (omega (arith, low))

  pub look_refuses : (e : Seen) (at : InTransaction p.mark p.looked bytes pos) → reading (drop p.looked bytes) (pos + p.looked) ≡ event e → move at.stage e.body ≡ refuse
      → LookGives bytes pos p look.Settled
  look_refuses e at is moved =
      let ends : scan at.stage (events_from here) (stop_from here) ≡ stopped (damaged (pos + p.looked)) = rw (events_some here e is, moved) refl in
      subst (IsSettled (pos + p.upto)) (sym (by_scan at (stopped (damaged (pos + p.looked))) ends)) tt

  -- ---- at the first event

  pub look_opens : (e : Seen) (q : Query) → p.looked ≡ 0 → reading bytes pos ≡ event e → length bytes ≤ p.upto → e.body ≡ query q → bytes_eq q.text (codes "BEGIN") ≡ true
      → LookGives bytes pos p (look.GoesOn (goes_on p.looked e.size mark.First))
  look_opens e q fresh is few body begin =
      let same : reading (drop p.looked bytes) (pos + p.looked) ≡ reading bytes pos = rw fresh (ap (λ (at : ℕ). reading bytes at) (omega arith)) in
      let size : p.looked + e.size ≡ e.size = omega (arith, fresh) in
      goes e mark.First (same ∙ is) few tt (subst (λ (n : ℕ). InTransaction mark.First n bytes pos) (sym size) (transaction_opens bytes pos e q is body begin))

  -- an event that opens no transaction
  alone_settles : (e : Seen) (xs : List Placed) (stop : Stop) (b : Body) → p.upto ≤ e.size → ((q : Query) → b ≡ query q → bytes_eq q.text (codes "BEGIN") ≡ false)
      → IsSettled (pos + p.upto) (begun_by (record { pos = pos; event = e }) xs stop b)
  alone_settles e xs stop (query q) low other = rw (other q refl) (omega (arith, low))
  alone_settles e xs stop (rotate next) low other = omega (arith, low)
  alone_settles e xs stop (int_var kind k) low other = tt
  alone_settles e xs stop (rand a b) low other = tt
  alone_settles e xs stop (user_var name v) low other = tt
  alone_settles e xs stop (format_description version) low other = by (eqb pos 4)
    where
      by : (c : Bool) → IsSettled (pos + p.upto) (cond c (group (record { form = start; begin = pos; end = pos + e.size })) (damaged_at pos))
      by true = omega (arith, low)
      by false = tt
  alone_settles e xs stop (xid k) low other = tt
  alone_settles e xs stop (table_map m) low other = tt
  alone_settles e xs stop (rows r) low other = tt

  pub look_alone : (e : Seen) → p.looked ≡ 0 → reading bytes pos ≡ event e → ((q : Query) → e.body ≡ query q → bytes_eq q.text (codes "BEGIN") ≡ false) → LookGives bytes pos p look.Settled
  look_alone e fresh is other =
      let same : reading (drop p.looked bytes) (pos + p.looked) ≡ reading bytes pos = rw fresh (ap (λ (at : ℕ). reading bytes at) (omega arith)) in
      let low : p.upto ≤ p.looked + e.size = next_here e (same ∙ is) in
      let start : Place = record { bytes = bytes; pos = pos } in
      subst (IsSettled (pos + p.upto)) (begins start (past e start) e _ (sym is) refl refl) (alone_settles e (events_from (past e start)) (stop_from (past e start)) e.body (omega (arith, low, fresh)) other)

-- ---- laws

pub nothing_looked : (bytes : List ℕ) (pos : ℕ) → IsLooked bytes pos (record { looked = 0; upto = 19; mark = mark.First })
nothing_looked bytes pos = record {
  within = omega arith;
  ends = inl refl;
  needs = omega arith;
  item = tt;
  stands = inl refl;
  next = λ more e is. header more e is;
}
  where
    header : (more : List ℕ) (e : Seen) → reading (bytes ++ more) (pos + 0) ≡ event e → 19 ≤ 0 + e.size
    header more e is =
        let inside : Within (bytes ++ more) (pos + 0) (event e) = subst (Within (bytes ++ more) (pos + 0)) is (lies_within (bytes ++ more) (pos + 0)) in
        omega (arith, inside.0)

pub looks_stay : LooksStay
looks_stay bytes more pos p looked = record {
  within = omega (arith, looked.within, length-append bytes more);
  ends = looked.ends;
  needs = looked.needs;
  item = looked.item;
  stands = by looked.stands;
  next = λ others e is. looked.next (more ++ others) e (ap (λ (bs : List ℕ). reading (drop p.looked bs) (pos + p.looked)) (sym (append_assoc bytes more others)) ∙ is);
}
  where
    by : (p.looked ≡ 0) ⊎ InTransaction p.mark p.looked bytes pos → (p.looked ≡ 0) ⊎ InTransaction p.mark p.looked (bytes ++ more) pos
    by (inl z) = inl z
    by (inr at) = inr (record {
      opening = at.opening;
      text = at.text;
      is_query = at.is_query;
      is_begin = at.is_begin;
      stage = at.stage;
      some = at.some;
      reads = λ others. subst (λ (bs : List ℕ). reading bs pos ≡ event at.opening) (sym (append_assoc bytes more others)) (at.reads (more ++ others));
      scans = λ others. subst (λ (bs : List ℕ). scan first (events_from (past at.opening (record { bytes = bs; pos = pos }))) (stop_from (past at.opening (record { bytes = bs; pos = pos })))
          ≡ scan at.stage (events_from (after p.looked (record { bytes = bs; pos = pos }))) (stop_from (after p.looked (record { bytes = bs; pos = pos })))) (sym (append_assoc bytes more others)) (at.scans (more ++ others));
      stage_is = λ others. subst (λ (bs : List ℕ). at.stage ≡ stage_at p.mark (record { bytes = bs; pos = pos })) (sym (append_assoc bytes more others)) (at.stage_is (more ++ others));
      stands = λ others. subst (λ (bs : List ℕ). MarkStands p.mark p.looked (record { bytes = bs; pos = pos })) (sym (append_assoc bytes more others)) (at.stands (more ++ others));
    })

-- ---- what the code looks at

-- an event that is no BEGIN
pub no_begin : (e : Seen) (q : Query) → e.body ≡ query q → bytes_eq q.text (codes "BEGIN") ≡ false → (r : Query) → e.body ≡ query r → bytes_eq r.text (codes "BEGIN") ≡ false
no_begin e q body other r is =
    let same : query q ≡ query r = sym body ∙ is in
    let text : q ≡ r = cc in
    rw (← text) other

abbrev pub IsNoQuery : Body → Type 0
IsNoQuery (query q) = ⊥
IsNoQuery (rotate next) = Unit {0}
IsNoQuery (int_var kind k) = Unit {0}
IsNoQuery (rand a b) = Unit {0}
IsNoQuery (user_var name v) = Unit {0}
IsNoQuery (format_description version) = Unit {0}
IsNoQuery (xid k) = Unit {0}
IsNoQuery (table_map m) = Unit {0}
IsNoQuery (rows r) = Unit {0}

pub no_query : (e : Seen) (b : Body) → e.body ≡ b → IsNoQuery b → (r : Query) → e.body ≡ query r → bytes_eq r.text (codes "BEGIN") ≡ false
no_query e b body other r is = absurd (subst IsNoQuery (sym body ∙ is) other)

module _ (m : Mark) (n : ℕ) (bytes : List ℕ) (pos : ℕ) (at : InTransaction m n bytes pos) where
  pub stage_here : at.stage ≡ stage_at m (record { bytes = bytes; pos = pos })
  stage_here = subst (λ (bs : List ℕ). at.stage ≡ stage_at m (record { bytes = bs; pos = pos })) (append-nil bytes) (at.stage_is [])

  pub stands_here : MarkStands m n (record { bytes = bytes; pos = pos })
  stands_here = subst (λ (bs : List ℕ). MarkStands m n (record { bytes = bs; pos = pos })) (append-nil bytes) (at.stands [])

pub counts : (m : Mark) (n : ℕ) (p : Place) → MarkStands m n p → p.pos + n ≤ 1200000000 → MarkCounts m 1200000000
counts mark.First n p stands low = tt
counts mark.Between n p stands low = tt
counts (mark.Vars passed) n p stands low = tt
counts (mark.Maps item count) n p stands low = omega (arith, stands.1, low)
counts (mark.Rows item count) n p stands low = tt

-- where something was passed, it ends within a log
pub ends_low : (bytes : List ℕ) (pos : ℕ) (p : Progress) → IsLooked bytes pos p → 1 ≤ p.looked → pos + p.looked ≤ 1200000000
ends_low bytes pos p looked some = by looked.ends
  where
    by : (p.looked ≡ 0) ⊎ (pos + p.looked ≤ 1200000000) → pos + p.looked ≤ 1200000000
    by (inl fresh) = absurd (omega (arith, fresh, some))
    by (inr low) = low

-- an event behind what was passed
pub read_there : (p q : Place) (n : ℕ) (r : Reading) → q ≡ after n p → reading q.bytes q.pos ≡ r → reading (drop n p.bytes) (p.pos + n) ≡ r
read_there p q n r same is = subst (λ (at : Place). reading at.bytes at.pos ≡ r) same is

pub event_fits : (bytes : List ℕ) (pos : ℕ) (p : Progress) (e : Seen) → reading (drop p.looked bytes) (pos + p.looked) ≡ event e → p.looked + e.size ≤ 1200000000
event_fits bytes pos p e is =
    let within : Within (drop p.looked bytes) (pos + p.looked) (event e) = subst (Within (drop p.looked bytes) (pos + p.looked)) is (lies_within (drop p.looked bytes) (pos + p.looked)) in
    omega (arith, within.2)
