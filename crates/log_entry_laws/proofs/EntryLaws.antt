-- Entries are read again as their groups, and a front of one as nothing whole.
use Rattle.std.proofs.Common.{◌≡◌, ℕ, ◌+◌, ◌≤◌, ◌<◌, ◌^◌, Bool, true, false, ltb, List, [], ◌∷◌, ◌++◌, map, length, Some, refl, sym, ap, ◌∙◌, arith, subst}
use Rattle.std.specs.Prelude.{flat_map}
use Rattle.std.proofs.lemmas.Bool.{lt-ltb, ltb-true, ltb-false}
use Rattle.std.proofs.lemmas.List.{length-append}
use Rattle.event_codec.specs.Event.{Body, query, xid, format_description}
use Rattle.event_codec.specs.Reading.{short}
use Rattle.event_codec.specs.Writing.{size, format_description_bytes, layout_bytes}
use Rattle.byte_fields.specs.Field.{number_bytes}
use Rattle.log_model.specs.log_entries.declared.entries.Item.{Item}
use Rattle.log_model.specs.log_entries.declared.entries.Entry.{Entry}
use Rattle.log_model.specs.log_entries.declared.entries.Entry.TheVariants.{Transaction, Definition, LogStart}
use Rattle.log_model.specs.Events.{Place, events_from, stop_from}
use Rattle.log_model.specs.Groups.{Stage, first, between, Move, go, close, refuse, move, Group, group, not_whole, group_at}
use Rattle.log_model.specs.Items.{query_of, spelled, at_time, item_events, AreCarried}
use Rattle.log_model.specs.Log.{LogPlace, begin_query, transaction, definition, description, version, entry_bytes, behind, counted, counted_all, written_to}
use Rattle.log_model.specs.Spelling.{bodies_of, bodies, AreItems, ran, run, said, IsShort, IsBegin, IsFront}
use Rattle.log_model.specs.Written.{Stamped, body_of, bytes_of, placed, total, CanWriteAll}
use Rattle.log_model.proofs.Carrying.{item_spelled}
use Rattle.log_model.proofs.Growing.{start_read}
use Rattle.log_model.proofs.OneGroup.{one_transaction, one_definition}
use Rattle.log_model.proofs.ReadAgain.{length-bytes_of}
use Rattle.log_model.proofs.Running.{items_run}
use Rattle.log_model.proofs.Scanning.{front_not_whole}
use Rattle.log_model.proofs.Walking.{events_none, stop_none}
use Rattle.log_entry_laws.specs.Entries.{start_group, group_of_entry, StaysInLog, CanLog, CanLogAll}
use Rattle.log_entry_laws.specs.Laws.{Fetched, partly, wholly}
use Rattle.log_entry_laws.proofs.Parting.{parted}
use Rattle.log_entry_laws.proofs.Cutting.{no_header, Cut, cut}

abbrev place : List ℕ → ℕ → Place
place bytes pos = record { bytes = bytes; pos = pos }

-- ---- bounds

pub bounds : (e : Entry Item) (number : ℕ) (p : LogPlace) → StaysInLog e
    → ((group_of_entry e number p).begin ≡ p.pos) × ((group_of_entry e number p).end ≡ p.pos + length (entry_bytes e number p))
bounds (Transaction stamp server is) number p stays =
    (refl, ap (λ (n : ℕ). p.pos + n) (sym (length-bytes_of server p.pos (transaction stamp (number + 1) is))))
bounds (Definition stamp server i) number p stays = (refl, ap (λ (n : ℕ). p.pos + n) (sym (length-bytes_of server p.pos (definition stamp i))))
bounds (LogStart stamp server) number p stays = absurd stays

-- ---- whole

pub entry_read : (e : Entry Item) (number : ℕ) (p : LogPlace) (more : List ℕ) → StaysInLog e → CanLog e number p
    → group_at (record { bytes = entry_bytes e number p ++ more; pos = p.pos }) ≡ group (group_of_entry e number p)
entry_read (Transaction stamp server []) number p more stays can = absurd (omega (arith, can.0))
entry_read (Transaction stamp server (i ∷ is)) number p more stays can = one_transaction stamp (number + 1) server p.pos i is more can.1 can.2
entry_read (Definition stamp server i) number p more stays can = one_definition stamp server p.pos i more can.1 can.0
entry_read (LogStart stamp server) number p more stays can = absurd stays

-- ---- cut

-- a front of events that are no front of a transaction's, or BEGIN and what can stand behind it
cut_is_not_whole : (pos : ℕ) (es : List Stamped) (front : List ℕ) (c : Cut pos es front) → IsFront (placed pos c.before)
    → group_at (record { bytes = front; pos = pos }) ≡ not_whole
unfolding group_at
cut_is_not_whole pos es front c is =
    front_not_whole (events_from (place front pos)) (stop_from (place front pos)) c.ends (subst IsFront (sym c.events) is)

-- fewer bytes than a header has are the front of no event
pub few_cut : (bytes : List ℕ) (pos : ℕ) → length bytes < 19 → group_at (record { bytes = bytes; pos = pos }) ≡ not_whole
unfolding group_at
few_cut bytes pos few =
    let p : Place = place bytes pos in
    let lacks = no_header bytes pos (lt-ltb _ _ few) in
    front_not_whole (events_from p) (stop_from p) (subst IsShort (sym (stop_none p (short lacks.0) lacks.1)) tt)
    (subst IsFront (sym (events_none p (short lacks.0) lacks.1)) tt)

-- in front of one event none is whole
none_before : (e : Stamped) (before : List Stamped) (next : Stamped) (after : List Stamped) (pos : ℕ) → e ∷ [] ≡ before ++ next ∷ after → IsFront (placed pos before)
none_before e [] next after pos all = tt
none_before e (x ∷ xs) next after pos all =
    let len : length (e ∷ []) ≡ length (x ∷ xs ++ next ∷ after) = ap (λ (es : List Stamped). length es) all in
    absurd (omega (arith, len, length-append xs (next ∷ after)))

-- an event that is cut is no group
pub event_cut : (server pos : ℕ) (e : Stamped) (front rest : List ℕ) → CanWriteAll pos (e ∷ []) → front ++ rest ≡ bytes_of server pos (e ∷ []) → 1 ≤ length rest
    → group_at (record { bytes = front; pos = pos }) ≡ not_whole
event_cut server pos e front rest can same some =
    let c = cut server pos (e ∷ []) front rest can same some in
    cut_is_not_whole pos (e ∷ []) front c (none_before e c.before c.next c.after pos c.all)

-- ---- a front of a transaction

bodies_at : (stamp : ℕ) (bs : List Body) → map body_of (at_time stamp bs) ≡ bs
bodies_at stamp [] = refl
bodies_at stamp (b ∷ bs) = ap (λ (xs : List Body). b ∷ xs) (bodies_at stamp bs)

map_both : (xs ys : List Stamped) → map body_of (xs ++ ys) ≡ map body_of xs ++ map body_of ys
map_both [] ys = refl
map_both (x ∷ xs) ys = ap (λ (bs : List Body). x.body ∷ bs) (map_both xs ys)

items_bodies : (is : List Item) → map body_of (flat_map item_events is) ≡ bodies (map spelled is)
items_bodies [] = refl
items_bodies (i ∷ is) =
    map_both (item_events i) (flat_map item_events is) ∙ ap (λ (bs : List Body). bs ++ map body_of (flat_map item_events is)) (bodies_at i.carried.stamp (bodies_of (spelled i)))
    ∙ ap (λ (bs : List Body). bodies_of (spelled i) ++ bs) (items_bodies is)

are_items : (is : List Item) → AreCarried is → AreItems (map spelled is)
are_items [] are = tt
are_items (i ∷ is) are = (item_spelled i are.0, are_items is are.1)

said_placed : (es : List Stamped) (pos : ℕ) → map said (placed pos es) ≡ map body_of es
said_placed [] pos = refl
said_placed (e ∷ es) pos = ap (λ (bs : List Body). e.body ∷ bs) (said_placed es (pos + size e.body))

-- a front of events that lead somewhere leads somewhere
run_front : (xs ys : List Body) (s t : Stage) → run s (xs ++ ys) ≡ Some t → (u : Stage) × (run s xs ≡ Some u)
run_front [] ys s t e = (s, refl)
run_front (b ∷ xs) ys s t e = by (λ u. run_front xs ys u t) (move s b) e
  where
    by : ((u : Stage) → run u (xs ++ ys) ≡ Some t → (v : Stage) × (run u xs ≡ Some v)) → (m : Move) → ran (λ u. run u (xs ++ ys)) m ≡ Some t
        → (v : Stage) × (ran (λ u. run u xs) m ≡ Some v)
    by again (go u) e = again u e
    by again (close n) e = absurd cc
    by again refuse e = absurd cc

-- events of items, and what of them stands in front of the XID
front_runs : (es xs ys : List Stamped) (pos : ℕ) (t : Stage) → run first (map body_of es) ≡ Some t → es ≡ xs ++ ys
    → (u : Stage) × (run first (map said (placed pos xs)) ≡ Some u)
front_runs es xs ys pos t runs all =
    let both : run first (map body_of xs ++ map body_of ys) ≡ Some t =
    ap (run first) (sym (map_both xs ys)) ∙ ap (λ (zs : List Stamped). run first (map body_of zs)) (sym all) ∙ runs in
    let r = run_front (map body_of xs) (map body_of ys) first t both in
    (r.0, ap (run first) (said_placed xs pos) ∙ r.1)

-- in front of a transaction's XID stand BEGIN and what can stand behind it
transaction_front : (opening last : Stamped) (es : List Stamped) (pos : ℕ) (t : Stage) (before : List Stamped) (next : Stamped) (after : List Stamped)
    → IsBegin opening.body → run first (map body_of es) ≡ Some t → opening ∷ es ++ last ∷ [] ≡ before ++ next ∷ after → IsFront (placed pos before)
transaction_front opening last es pos t [] next after begins runs all = tt
transaction_front opening last es pos t (x ∷ xs) next after begins runs all =
    let head : opening ≡ x = cc in
    let tail : es ++ last ∷ [] ≡ xs ++ next ∷ after = cc in
    let len : length (es ++ last ∷ []) ≡ length (xs ++ next ∷ after) = ap (λ (ys : List Stamped). length ys) tail in
    let le : length xs ≤ length es = omega (arith, len, length-append es (last ∷ []), length-append xs (next ∷ after)) in
    let r = parted es (last ∷ []) xs (next ∷ after) tail le in
    (subst (λ (y : Stamped). IsBegin y.body) head begins, front_runs es xs r.0 (pos + size x.body) t runs r.1.0)

pub entry_cut : (e : Entry Item) (number : ℕ) (p : LogPlace) (front rest : List ℕ) → StaysInLog e → CanLog e number p
    → front ++ rest ≡ entry_bytes e number p → 1 ≤ length rest → group_at (record { bytes = front; pos = p.pos }) ≡ not_whole
entry_cut (Transaction stamp server []) number p front rest stays can same some = absurd (omega (arith, can.0))
entry_cut (Transaction stamp server (i ∷ is)) number p front rest stays can same some =
    let opening : Stamped = record { stamp = i.carried.stamp; body = query (begin_query i.carried.connection) } in
    let last : Stamped = record { stamp = stamp; body = xid (number + 1) } in
    let es : List Stamped = flat_map item_events (i ∷ is) in
    let runs : run first (map body_of es) ≡ Some between =
    ap (run first) (items_bodies (i ∷ is)) ∙ items_run (spelled i) (map spelled is) (are_items (i ∷ is) can.1) in
    let c = cut server p.pos (transaction stamp (number + 1) (i ∷ is)) front rest can.2 same some in
    cut_is_not_whole p.pos (transaction stamp (number + 1) (i ∷ is)) front c
    (transaction_front opening last es p.pos between c.before c.next c.after refl runs c.all)
entry_cut (Definition stamp server i) number p front rest stays can same some =
    event_cut server p.pos (record { stamp = stamp; body = query (query_of i.text i.carried) }) front rest can.0 same some
entry_cut (LogStart stamp server) number p front rest stays can same some = absurd stays

-- ---- a log's start

first_size : (stamp : ℕ) → total (description stamp) ≡ 119
unfolding size format_description_bytes layout_bytes number_bytes
first_size stamp = refl

can_begin : (stamp : ℕ) → stamp < 2 ^ 32 → CanWriteAll 4 (description stamp)
can_begin stamp low = (record { form = refl; end = let all = first_size stamp in omega (arith, all) }, tt, low, tt)

pub start_cut : (stamp server : ℕ) (front rest : List ℕ) → stamp < 2 ^ 32 → front ++ rest ≡ bytes_of server 4 (description stamp) → 1 ≤ length rest
    → group_at (record { bytes = front; pos = 4 }) ≡ not_whole
start_cut stamp server front rest low same some =
    event_cut server 4 (record { stamp = stamp; body = format_description version }) front rest (can_begin stamp low) same some

-- ---- fetched piece by piece

-- a front of some bytes is not whole
abbrev pub FrontIsCut : List ℕ → ℕ → Type 0
FrontIsCut bytes pos = (front rest : List ℕ) → front ++ rest ≡ bytes → 1 ≤ length rest → group_at (record { bytes = front; pos = pos }) ≡ not_whole

-- they are read as a group, whatever follows them
abbrev pub IsReadAs : List ℕ → ℕ → Group → Type 0
IsReadAs bytes pos g = (more : List ℕ) → group_at (record { bytes = bytes ++ more; pos = pos }) ≡ group g

fetched : (bytes : List ℕ) (pos : ℕ) (g : Group) (relay rest more : List ℕ) → FrontIsCut bytes pos → IsReadAs bytes pos g → relay ++ rest ≡ bytes ++ more
    → Fetched bytes pos g relay rest more
fetched bytes pos g relay rest more is_cut is_read same = by (ltb (length relay) (length bytes)) refl
  where
    by : (x : Bool) → ltb (length relay) (length bytes) ≡ x → Fetched bytes pos g relay rest more
    by true is =
        let few = ltb-true _ _ is in
        let r = parted bytes more relay rest (sym same) (omega (arith, few)) in
        let len : length bytes ≡ length (relay ++ r.0) = ap (λ (xs : List ℕ). length xs) r.1.0 in
        partly (is_cut relay r.0 (sym r.1.0) (omega (arith, few, len, length-append relay r.0)))
    by false is =
        let r = parted relay rest bytes more same (ltb-false _ _ is) in
        wholly r.0 r.1.0 r.1.1 (ap (λ (bs : List ℕ). group_at (place bs pos)) r.1.0 ∙ is_read r.0)

pub start_fetched : (stamp server : ℕ) (relay rest more : List ℕ) → stamp < 2 ^ 32 → relay ++ rest ≡ bytes_of server 4 (description stamp) ++ more
    → Fetched (bytes_of server 4 (description stamp)) 4 start_group relay rest more
start_fetched stamp server relay rest more low same =
    fetched (bytes_of server 4 (description stamp)) 4 start_group relay rest more (λ front rest is some. start_cut stamp server front rest low is some)
    (λ more. start_read stamp server more low) same

pub entry_fetched : (e : Entry Item) (number : ℕ) (p : LogPlace) (relay rest more : List ℕ) → StaysInLog e → CanLog e number p
    → relay ++ rest ≡ entry_bytes e number p ++ more → Fetched (entry_bytes e number p) p.pos (group_of_entry e number p) relay rest more
entry_fetched e number p relay rest more stays can same =
    fetched (entry_bytes e number p) p.pos (group_of_entry e number p) relay rest more (λ front rest is some. entry_cut e number p front rest stays can is some)
    (λ more. entry_read e number p more stays can) same

-- ---- one after the other

pub can_on : (front back : List (Entry Item)) (number : ℕ) (p : LogPlace) → CanLogAll (front ++ back) number p
    → CanLogAll front number p × CanLogAll back (counted_all front number) (written_to front number p)
can_on [] back number p can = (tt, can)
can_on (e ∷ es) back number p can =
    let r = can_on es back (counted e number) (behind e number p) can.1 in
    ((can.0, r.0), r.1)

pub can_both : (front back : List (Entry Item)) (number : ℕ) (p : LogPlace) → CanLogAll front number p
    → CanLogAll back (counted_all front number) (written_to front number p) → CanLogAll (front ++ back) number p
can_both [] back number p can more = more
can_both (e ∷ es) back number p can more = (can.0, can_both es back (counted e number) (behind e number p) can.1 more)
