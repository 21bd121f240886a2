-- Where entries end in a log, and what stands behind them.
use Rattle.std.proofs.Common.{◌≡◌, ◌≤◌, ℕ, ◌+◌, List, [], ◌∷◌, ◌++◌, length, map, drop, refl, sym, ap, ◌∙◌, append_assoc, arith, length-append}
use Rattle.std.proofs.lemmas.List.{map-append, drop-append-le}
use Rattle.std.proofs.Math.Seq.{drop-append_seam}
use Rattle.apply_laws.specs.log_entries.declared.entries.Item.{Item}
use Rattle.apply_laws.specs.log_entries.declared.entries.Entry.{Entry}
use Rattle.apply_laws.specs.log_entries.declared.entries.Entry.TheVariants.{Transaction, Definition, LogStart}
use Rattle.apply_laws.specs.log_model.Log.{LogPlace, moved, magic, head, description, behind, counted, entry_bytes, log, written_to, counted_all, LogGoesOn, EntriesHaveLength, HeadsHaveLength}
use Rattle.apply_laws.specs.log_model.Written.{bytes_of}
use Rattle.apply_laws.specs.session_model.Machine.{Whole, kept_of, kept_entry, Machine, nowhere, first_place}
use Rattle.run_model.specs.Run.{Read, nothing, bytes_to, bytes_before, number_before, place_before, Starts, log_with}
use Rattle.run_model.specs.Following.{AreCommitted, head_bytes, head_entries, place_behind, reader_at, reader_from}

-- ---- what stands in a log before the first entry that is carried out

-- A log that a replica reads: how much of it was read before, and its head.
pub record Line : Type 0 where
  pub read : Read
  pub stamp : ℕ
  pub server : ℕ

-- all entries of it, with the head where that was not read
abbrev pub begun : Line → List (Entry Whole) → List (Entry Whole)
begun l es = head_entries l.read l.stamp l.server ++ es

-- the bytes before entries, and these; how many transactions there are behind them; the place behind them
abbrev pub front_of : Line → List (Entry Whole) → List ℕ
front_of l es = head_bytes l.read l.stamp l.server ++ log (map kept_entry es) (number_before l.read) (place_behind l.read)

abbrev pub count_of : Line → List (Entry Whole) → ℕ
count_of l es = counted_all (map kept_entry es) (number_before l.read)

abbrev pub place_of : Line → List (Entry Whole) → LogPlace
place_of l es = written_to (map kept_entry es) (number_before l.read) (place_behind l.read)

-- the place before them is in the first log, behind its bytes
pub head_log : (read : Read) → (place_behind read).log ≡ 1
head_log nothing = refl
head_log (bytes_to bytes number) = refl

pub head_size : HeadsHaveLength → (read : Read) (stamp server : ℕ) → length (head_bytes read stamp server) ≡ (place_behind read).pos
head_size heads nothing stamp server = heads stamp server
head_size heads (bytes_to bytes number) stamp server = refl

-- a log is what stands before its entries, and their bytes
pub log_is : (from : Starts) (m : Machine) (stamp server : ℕ) (es : List (Entry Whole)) → from.owed ++ m.history ≡ head_entries from.read stamp server ++ es
    → log_with from m ≡ front_of (record { read = from.read; stamp = stamp; server = server }) es
log_is from m stamp server es is = by from.read is
  where
    by : (read : Read) → from.owed ++ m.history ≡ head_entries read stamp server ++ es
        → bytes_before read ++ log (map kept_entry (from.owed ++ m.history)) (number_before read) (place_before read)
        ≡ front_of (record { read = read; stamp = stamp; server = server }) es
    by nothing is = ap (λ (xs : List (Entry Whole)). log (map kept_entry xs) 0 nowhere) is
    by (bytes_to bytes number) is = ap (λ (xs : List (Entry Whole)). bytes ++ log (map kept_entry xs) number (record { log = 1; pos = length bytes })) is

-- ---- places

moved_twice : (p : LogPlace) (a b : ℕ) → moved (moved p a) b ≡ moved p (a + b)
moved_twice p a b = ap (λ (n : ℕ). record { log = p.log; pos = n }) (let e : p.pos + a + b ≡ p.pos + (a + b) = omega arith in e)

-- one entry, and those behind it
place_on : (e : Entry Item) (es : List (Entry Item)) (number : ℕ) (p : LogPlace) → behind e number p ≡ moved p (length (entry_bytes e number p))
    → written_to es (counted e number) (behind e number p) ≡ moved (behind e number p) (length (log es (counted e number) (behind e number p)))
    → written_to (e ∷ es) number p ≡ moved p (length (log (e ∷ es) number p))
place_on e es number p first rest =
    let more : List ℕ = log es (counted e number) (behind e number p) in
    rest ∙ ap (λ (q : LogPlace). moved q (length more)) first ∙ moved_twice p (length (entry_bytes e number p)) (length more)
    ∙ ap (moved p) (sym (length-append (entry_bytes e number p) more))

-- a log moves by the bytes of its entries
pub written_place : EntriesHaveLength → (es : List (Entry Whole)) → AreCommitted es → (number : ℕ) (p : LogPlace)
    → written_to (map kept_entry es) number p ≡ moved p (length (log (map kept_entry es) number p))
written_place have [] committed number p = ap (λ (n : ℕ). record { log = p.log; pos = n }) (let e : p.pos ≡ p.pos + 0 = omega arith in e)
written_place have (Transaction stamp server items ∷ es) committed number p =
    let e : Entry Item = kept_entry (Transaction stamp server items) in
    place_on e (map kept_entry es) number p (have.0 stamp server number (map kept_of items) p) (written_place have es committed (counted e number) (behind e number p))
written_place have (Definition stamp server i ∷ es) committed number p =
    let e : Entry Item = kept_entry (Definition stamp server i) in
    place_on e (map kept_entry es) number p (have.1 stamp server number (kept_of i) p) (written_place have es committed (counted e number) (behind e number p))
written_place have (LogStart stamp server ∷ es) committed number p = absurd committed

-- a writer stands behind the bytes of the first log
pub front_place : EntriesHaveLength → HeadsHaveLength → (l : Line) (es : List (Entry Whole)) → AreCommitted es → place_of l es ≡ record { log = 1; pos = length (front_of l es) }
front_place have heads l es committed =
    let h : List ℕ = head_bytes l.read l.stamp l.server in
    let bytes : List ℕ = log (map kept_entry es) (number_before l.read) (place_behind l.read) in
    written_place have es committed (number_before l.read) (place_behind l.read)
    ∙ at (place_behind l.read) (length h) (length bytes) (head_log l.read) (head_size heads l.read l.stamp l.server)
    ∙ ap (λ (n : ℕ). record { log = 1; pos = n }) (sym (length-append h bytes))
  where
    at : (p : LogPlace) (a k : ℕ) → p.log ≡ 1 → a ≡ p.pos → moved p k ≡ record { log = 1; pos = a + k }
    at p a k q s = rw (q, s) refl

-- ---- bytes

-- entries behind others
pub log_parts : LogGoesOn → (l : Line) (front back : List (Entry Whole)) → front_of l (front ++ back) ≡ front_of l front ++ log (map kept_entry back) (count_of l front) (place_of l front)
log_parts goes_on l front back =
    let h : List ℕ = head_bytes l.read l.stamp l.server in
    let bytes : List ℕ = log (map kept_entry front) (number_before l.read) (place_behind l.read) in
    ap (λ (es : List (Entry Item)). h ++ log es (number_before l.read) (place_behind l.read)) (map-append kept_entry front back)
    ∙ ap (λ (bs : List ℕ). h ++ bs) (goes_on (map kept_entry front) (map kept_entry back) (number_before l.read) (place_behind l.read))
    ∙ sym (append_assoc h bytes (log (map kept_entry back) (count_of l front) (place_of l front)))

-- what stands in a log behind its first entries
pub behind_front : LogGoesOn → (from : Starts) (m : Machine) (stamp server : ℕ) (front back : List (Entry Whole)) → from.owed ++ m.history ≡ head_entries from.read stamp server ++ (front ++ back)
    → drop (length (front_of (record { read = from.read; stamp = stamp; server = server }) front)) (log_with from m)
    ≡ log (map kept_entry back) (count_of (record { read = from.read; stamp = stamp; server = server }) front) (place_of (record { read = from.read; stamp = stamp; server = server }) front)
behind_front goes_on from m stamp server front back is =
    let l : Line = record { read = from.read; stamp = stamp; server = server } in
    let back_bytes : List ℕ = log (map kept_entry back) (count_of l front) (place_of l front) in
    ap (drop (length (front_of l front))) (log_is from m stamp server (front ++ back) is ∙ log_parts goes_on l front back) ∙ drop-append_seam (front_of l front) back_bytes

-- the first event of a log has 119 bytes
pub first_event_length : HeadsHaveLength → (stamp server : ℕ) → length (bytes_of server 4 (description stamp)) ≡ 119
first_event_length heads stamp server =
    let whole_head : length (head stamp server) ≡ 4 + length (bytes_of server 4 (description stamp)) = length-append magic (bytes_of server 4 (description stamp)) in
    omega (arith, heads stamp server, whole_head)

-- ---- one entry more

counted_last : (front : List (Entry Whole)) (e : Entry Whole) (number : ℕ) → counted_all (map kept_entry (front ++ e ∷ [])) number ≡ counted (kept_entry e) (counted_all (map kept_entry front) number)
counted_last [] e number = refl
counted_last (x ∷ xs) e number = counted_last xs e (counted (kept_entry x) number)

pub count_last : (l : Line) (front : List (Entry Whole)) (e : Entry Whole) → count_of l (front ++ e ∷ []) ≡ counted (kept_entry e) (count_of l front)
count_last l front e = counted_last front e (number_before l.read)

written_last : (front : List (Entry Whole)) (e : Entry Whole) (number : ℕ) (p : LogPlace)
    → written_to (map kept_entry (front ++ e ∷ [])) number p ≡ behind (kept_entry e) (counted_all (map kept_entry front) number) (written_to (map kept_entry front) number p)
written_last [] e number p = refl
written_last (x ∷ xs) e number p = written_last xs e (counted (kept_entry x) number) (behind (kept_entry x) number p)

pub place_last : (l : Line) (front : List (Entry Whole)) (e : Entry Whole) → place_of l (front ++ e ∷ []) ≡ behind (kept_entry e) (count_of l front) (place_of l front)
place_last l front e = written_last front e (number_before l.read) (place_behind l.read)

-- ---- readers

pub reader_last : (l : Line) (front : List (Entry Whole)) (e : Entry Whole) → reader_at l.read l.stamp l.server (front ++ e ∷ []) ≡ record { log = 1; pos = length (front_of l (front ++ e ∷ [])) }
reader_last l [] e = refl
reader_last l (x ∷ xs) e = refl

-- a reader stands in the first log
pub reader_log : (l : Line) (es : List (Entry Whole)) → (reader_at l.read l.stamp l.server es).log ≡ 1
reader_log l [] = from_here l.read
  where
    from_here : (read : Read) → (reader_from read).log ≡ 1
    from_here nothing = refl
    from_here (bytes_to bytes number) = refl
reader_log l (e ∷ es) = refl

-- a reader stands within a log
reader_within : HeadsHaveLength → LogGoesOn → (l : Line) (front back : List (Entry Whole)) → (reader_at l.read l.stamp l.server front).pos ≤ length (front_of l (front ++ back))
reader_within heads goes_on l [] back = from_here l.read
  where
    from_here : (read : Read) → (reader_from read).pos ≤ length (head_bytes read l.stamp l.server ++ log (map kept_entry back) (number_before read) (place_behind read))
    from_here nothing =
        let size : length (head l.stamp l.server ++ log (map kept_entry back) 0 first_place) ≡ length (head l.stamp l.server) + length (log (map kept_entry back) 0 first_place) =
        length-append (head l.stamp l.server) (log (map kept_entry back) 0 first_place) in
        omega (arith, size, heads l.stamp l.server)
    from_here (bytes_to bytes number) = omega (arith, length-append bytes (log (map kept_entry back) number (record { log = 1; pos = length bytes })))
reader_within heads goes_on l (x ∷ xs) back =
    let back_bytes : List ℕ = log (map kept_entry back) (count_of l (x ∷ xs)) (place_of l (x ∷ xs)) in
    let size : length (front_of l ((x ∷ xs) ++ back)) ≡ length (front_of l (x ∷ xs)) + length back_bytes =
    ap length (log_parts goes_on l (x ∷ xs) back) ∙ length-append (front_of l (x ∷ xs)) back_bytes in
    omega (arith, size)

-- ---- a log that grows

-- what more entries put out stands behind what a reader has before it
pub log_grows : HeadsHaveLength → LogGoesOn → (from : Starts) (m : Machine) (stamp server : ℕ) (front back committed : List (Entry Whole)) (place : LogPlace)
    → from.owed ++ m.history ≡ head_entries from.read stamp server ++ (front ++ back)
    → from.owed ++ (m.history ++ committed) ≡ head_entries from.read stamp server ++ (front ++ (back ++ committed)) → place ≡ reader_at from.read stamp server front
    → drop place.pos (log_with from (record m { history = m.history ++ committed }))
    ≡ drop place.pos (log_with from m)
    ++ log (map kept_entry committed) (count_of (record { read = from.read; stamp = stamp; server = server }) (front ++ back)) (place_of (record { read = from.read; stamp = stamp; server = server }) (front ++ back))
log_grows heads goes_on from m stamp server front back committed place is more at =
    let l : Line = record { read = from.read; stamp = stamp; server = server } in
    let bytes : List ℕ = log (map kept_entry committed) (count_of l (front ++ back)) (place_of l (front ++ back)) in
    let before : log_with from m ≡ front_of l (front ++ back) = log_is from m stamp server (front ++ back) is in
    let after : log_with from (record m { history = m.history ++ committed }) ≡ front_of l (front ++ back) ++ bytes =
    log_is from (record m { history = m.history ++ committed }) stamp server (front ++ (back ++ committed)) more
    ∙ ap (front_of l) (sym (append_assoc front back committed)) ∙ log_parts goes_on l (front ++ back) committed in
    let within : place.pos ≤ length (front_of l (front ++ back)) = rw at (reader_within heads goes_on l front back) in
    ap (drop place.pos) after ∙ drop-append-le place.pos (front_of l (front ++ back)) bytes within ∙ ap (λ (bs : List ℕ). drop place.pos bs ++ bytes) (sym before)
