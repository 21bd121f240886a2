-- A source's log, cut anywhere, is read as the groups of some entries from a replica's place on.
use Rattle.std.proofs.Common.{◌≡◌, ◌≤◌, ◌<◌, ◌^◌, ℕ, ◌+◌, List, [], ◌∷◌, ◌++◌, length, map, take, drop, refl, sym, ap, ◌∙◌, subst, append-nil, append_assoc, arith, length-append}
use Rattle.std.proofs.Math.Seq.{drop-append_seam, take-append_seam}
use Rattle.std.proofs.lemmas.List.{drop-append-le, take-append-le, take-append-drop}
use Rattle.apply_laws.specs.log_entries.declared.entries.Entry.{Entry}
use Rattle.apply_laws.specs.log_entries.declared.entries.Entry.TheVariants.{Transaction, Definition, LogStart}
use Rattle.apply_laws.specs.log_entry_laws.Entries.{group_of_entry, start_group, StaysInLog, CanLog, CanLogAll}
use Rattle.apply_laws.specs.log_entry_laws.Laws.{EntryIsRead, Fetched, StartIsRead, partly, wholly}
use Rattle.apply_laws.specs.log_model.Groups.{Group, Next, group, not_whole, group_at}
use Rattle.apply_laws.specs.log_model.Log.{LogPlace, behind, counted, description, entry_bytes, head, log, magic, written_to}
use Rattle.apply_laws.specs.log_model.Written.{bytes_of}
use Rattle.apply_laws.specs.session_model.Machine.{Whole, first_place, kept_entry}
use Rattle.run_model.specs.log_file_model.Passing.{FrontIsPassed, GroupIsFirst, walked}
use Rattle.run_model.specs.log_file_model.Walk.{Grouped, damaged, by_form, by_next, groups_from, grouped_from, nothing_but, with_piece, piece_of, size_of, behind as past}
use Rattle.run_model.specs.Run.{Read, nothing, bytes_to, bytes_before, number_before, place_before}
use Rattle.run_model.specs.Following.{AreCommitted, groups_of, reader_from}
use Rattle.run_laws.specs.Fronts.{FrontsAreRead, cut_at, ends_at, groups_owed, log_at}
use Rattle.run_laws.specs.Openings.{AreOwed, HasBegun, IsLogFront}
use Rattle.run_laws.specs.Replays.{groups_in}
use Rattle.run_laws.proofs.Carrying.{stays, others}
use Rattle.run_laws.proofs.Fetching.{Below, empty_front, entry_moves, group_size, past_bytes}
use Rattle.run_laws.proofs.Places.{first_event_length}

-- What the proofs take from the crates below.
pub record Walks : Type 0 where
  pub below : Below
  pub first : GroupIsFirst
  pub front : FrontIsPassed
  pub start_is : StartIsRead
  pub entry_is : EntryIsRead

-- where nothing is left to come, no entry and no byte is
abbrev IsAll : (rest : List ℕ) (left : List (Entry Whole)) (tail : List ℕ) → Type 0
IsAll rest left tail = rest ≡ [] → (left ≡ []) × (tail ≡ [])

-- Bytes read as the groups of the first of entries, which begin at a place, and no group more; the rest was cut off.
pub record Goes (es : List (Entry Whole)) (number : ℕ) (p : LogPlace) (bytes rest : List ℕ) (g : Grouped) : Type 0 where
  pub front : List (Entry Whole)
  pub left : List (Entry Whole)
  pub all : es ≡ front ++ left
  pub groups : groups_in g.pieces ≡ groups_of (map kept_entry front) number p
  pub tail : List ℕ
  pub size : p.pos + length bytes ≡ (written_to (map kept_entry front) number p).pos + length tail
  pub ending : g.ending ≡ cut_at (written_to (map kept_entry front) number p).pos tail
  pub whole : IsAll rest left tail

-- nothing whole
none_walked : (bytes : List ℕ) (pos : ℕ) → group_at (record { bytes = bytes; pos = pos }) ≡ not_whole
    → (groups_in (walked (record { bytes = bytes; pos = pos })).pieces ≡ []) × ((walked (record { bytes = bytes; pos = pos })).ending ≡ cut_at pos bytes)
none_walked [] pos none = (refl, refl)
none_walked (b ∷ bs) pos none =
    let is : walked (record { bytes = b ∷ bs; pos = pos }) ≡ nothing_but (damaged pos) =
    ap (by_next (groups_from (length bs)) (record { bytes = b ∷ bs; pos = pos })) none in
    (ap (λ (g : Grouped). groups_in g.pieces) is, ap (λ (g : Grouped). g.ending) is)

none_goes : (es : List (Entry Whole)) (number : ℕ) (p : LogPlace) (bytes rest : List ℕ) → group_at (record { bytes = bytes; pos = p.pos }) ≡ not_whole → (rest ≡ [] → ⊥)
    → Goes es number p bytes rest (walked (record { bytes = bytes; pos = p.pos }))
none_goes es number p bytes rest none more =
    let w = none_walked bytes p.pos none in
    record { front = []; left = es; all = refl; groups = w.0; tail = bytes; size = refl; ending = w.1; whole = λ is. absurd (more is) }

-- what is read is not what is not whole
read_whole : (n : Next) (g : Group) → n ≡ group g → n ≡ not_whole → ⊥
read_whole n g is none = cc

-- bytes with nothing cut off
uncut : (bytes rest all : List ℕ) → bytes ++ rest ≡ all → rest ≡ [] → bytes ≡ all
uncut bytes rest all is none = sym (append-nil bytes) ∙ ap (λ (r : List ℕ). bytes ++ r) (sym none) ∙ is

-- nothing was cut off of a whole log
none_cut : (bytes rest all : List ℕ) → bytes ++ rest ≡ all → bytes ≡ all → rest ≡ []
none_cut bytes rest all is whole = by rest (sym (length-append bytes rest) ∙ ap length (is ∙ sym whole))
  where
    by : (r : List ℕ) → length bytes + length r ≡ length bytes → r ≡ []
    by [] same = refl
    by (x ∷ xs) same = absurd (omega (arith, same))

module _ (walks : Walks) where
  -- behind the group of an entry the next one is looked for
  leads : (e : Entry Whole) (number : ℕ) (p : LogPlace) (bytes left : List ℕ) → StaysInLog (kept_entry e) → CanLog (kept_entry e) number p
      → bytes ≡ entry_bytes (kept_entry e) number p ++ left
      → by_form walked (past (group_of_entry (kept_entry e) number p) (record { bytes = bytes; pos = p.pos })) (group_of_entry (kept_entry e) number p).form
      ≡ walked (record { bytes = left; pos = (behind (kept_entry e) number p).pos })
  leads e number p bytes left stay can split =
      let g : Group = group_of_entry (kept_entry e) number p in
      let back : drop (size_of g) bytes ≡ left = past_bytes (entry_bytes (kept_entry e) number p) bytes left (size_of g) split (group_size walks.below.bounds (kept_entry e) number p stay) in
      let to : g.end ≡ (behind (kept_entry e) number p).pos =
      (walks.below.bounds (kept_entry e) number p stay).1 ∙ sym (ap (λ (q : LogPlace). q.pos) (entry_moves walks.below.have (kept_entry e) number p stay)) in
      form_leads e stay can ∙ ap (λ (bs : List ℕ). walked (record { bytes = bs; pos = g.end })) back ∙ ap (λ (n : ℕ). walked (record { bytes = left; pos = n })) to
    where
      form_leads : (e : Entry Whole) → StaysInLog (kept_entry e) → CanLog (kept_entry e) number p
          → by_form walked (past (group_of_entry (kept_entry e) number p) (record { bytes = bytes; pos = p.pos })) (group_of_entry (kept_entry e) number p).form
          ≡ walked (past (group_of_entry (kept_entry e) number p) (record { bytes = bytes; pos = p.pos }))
      form_leads (Transaction stamp server []) stay can = let no : ⊥ = omega (arith, can.0) in absurd no
      form_leads (Transaction stamp server (i ∷ is)) stay can = refl
      form_leads (Definition stamp server i) stay can = refl
      form_leads (LogStart stamp server) stay can = absurd stay

  size_on : (at n k there tail to entry : ℕ) → there ≡ at + entry → n ≡ entry + k → there + k ≡ to + tail → at + n ≡ to + tail
  size_on at n k there tail to entry moves split rest = omega (arith, moves, split, rest)

  -- entries, one after the other
  entries_go : (es : List (Entry Whole)) (number : ℕ) (p : LogPlace) (bytes rest : List ℕ) → AreCommitted es → CanLogAll (map kept_entry es) number p
      → bytes ++ rest ≡ log (map kept_entry es) number p → Goes es number p bytes rest (walked (record { bytes = bytes; pos = p.pos }))
  entries_go [] number p bytes rest committed can is =
      subst (λ (bs : List ℕ). Goes [] number p bs rest (walked (record { bytes = bs; pos = p.pos }))) (sym (empty_front bytes rest is))
      (record { front = []; left = []; all = refl; groups = refl; tail = []; size = refl; ending = refl; whole = λ none. (refl, refl) })
  entries_go (e ∷ es) number p bytes rest committed can is =
      by (λ left back. entries_go es (counted (kept_entry e) number) (behind (kept_entry e) number p) left rest (others e es committed) can.1 back)
      (walks.below.is_read (kept_entry e) number p bytes rest (log (map kept_entry es) (counted (kept_entry e) number) (behind (kept_entry e) number p)) stay can.0 is)
    where
      stay : StaysInLog (kept_entry e)
      stay = stays e es committed

      if_uncut : rest ≡ [] → group_at (record { bytes = bytes; pos = p.pos }) ≡ group (group_of_entry (kept_entry e) number p)
      if_uncut none =
          let more : List ℕ = log (map kept_entry es) (counted (kept_entry e) number) (behind (kept_entry e) number p) in
          ap (λ (bs : List ℕ). group_at (record { bytes = bs; pos = p.pos })) (uncut bytes rest (entry_bytes (kept_entry e) number p ++ more) is none)
          ∙ walks.entry_is (kept_entry e) number p more stay can.0

      by : ((left : List ℕ) → left ++ rest ≡ log (map kept_entry es) (counted (kept_entry e) number) (behind (kept_entry e) number p)
          → Goes es (counted (kept_entry e) number) (behind (kept_entry e) number p) left rest (walked (record { bytes = left; pos = (behind (kept_entry e) number p).pos })))
          → Fetched (entry_bytes (kept_entry e) number p) p.pos (group_of_entry (kept_entry e) number p) bytes rest (log (map kept_entry es) (counted (kept_entry e) number) (behind (kept_entry e) number p))
          → Goes (e ∷ es) number p bytes rest (walked (record { bytes = bytes; pos = p.pos }))
      by next (partly not) = none_goes (e ∷ es) number p bytes rest not (λ none. read_whole (group_at (record { bytes = bytes; pos = p.pos })) (group_of_entry (kept_entry e) number p) (if_uncut none) not)
      by next (wholly left split back read) =
          let more : Grouped = walked (record { bytes = left; pos = (behind (kept_entry e) number p).pos }) in
          let is_more : walked (record { bytes = bytes; pos = p.pos }) ≡ with_piece (piece_of (group_of_entry (kept_entry e) number p) (record { bytes = bytes; pos = p.pos })) more =
          walks.first (record { bytes = bytes; pos = p.pos }) (group_of_entry (kept_entry e) number p) read
          ∙ ap (with_piece (piece_of (group_of_entry (kept_entry e) number p) (record { bytes = bytes; pos = p.pos }))) (leads e number p bytes left stay can.0 split) in
          let r : Goes es (counted (kept_entry e) number) (behind (kept_entry e) number p) left rest more = next left back in
          record {
            front = e ∷ r.front;
            left = r.left;
            all = ap (λ (xs : List (Entry Whole)). e ∷ xs) r.all;
            groups = ap (λ (w : Grouped). groups_in w.pieces) is_more ∙ ap (λ (gs : List Group). group_of_entry (kept_entry e) number p ∷ gs) r.groups;
            tail = r.tail;
            size = size_on p.pos (length bytes) (length left) (behind (kept_entry e) number p).pos (length r.tail)
                (written_to (map kept_entry r.front) (counted (kept_entry e) number) (behind (kept_entry e) number p)).pos (length (entry_bytes (kept_entry e) number p))
                (ap (λ (q : LogPlace). q.pos) (entry_moves walks.below.have (kept_entry e) number p stay))
                (ap length split ∙ length-append (entry_bytes (kept_entry e) number p) left) r.size;
            ending = ap (λ (w : Grouped). w.ending) is_more ∙ r.ending;
            whole = r.whole;
          }

  -- ---- from a replica's place on

  -- a log's front is what was read of it, and what follows
  parted : (bytes rest front back : List ℕ) → bytes ++ rest ≡ front ++ back → length front ≤ length bytes
      → (bytes ≡ front ++ drop (length front) bytes) × (drop (length front) bytes ++ rest ≡ back)
  parted bytes rest front back is le =
      let k : ℕ = length front in (
        sym (take-append-drop k bytes) ∙ ap (λ (xs : List ℕ). xs ++ drop k bytes) (sym (take-append-le k bytes rest le) ∙ ap (take k) is ∙ take-append_seam front back),
        sym (drop-append-le k bytes rest le) ∙ ap (drop k) is ∙ drop-append_seam front back,
      )

  -- Bytes from the first on, read from a place on.
  record Comes (read : Read) (owed : List (Entry Whole)) (bytes rest : List ℕ) (g : Grouped) : Type 0 where
    pub front : List (Entry Whole)
    pub left : List (Entry Whole)
    pub all : owed ≡ front ++ left
    pub groups : groups_in g.pieces ≡ groups_owed read front
    pub tail : List ℕ
    pub size : length bytes ≡ ends_at read front + length tail
    pub ending : g.ending ≡ cut_at (ends_at read front) tail
    pub whole : IsAll rest left tail

  -- the start of a log that was not read
  start_comes : (stamp server : ℕ) (es : List (Entry Whole)) (bytes rest : List ℕ) → AreCommitted es → stamp < 2 ^ 32 → CanLogAll (map kept_entry es) 0 first_place
      → bytes ++ rest ≡ head stamp server ++ log (map kept_entry es) 0 first_place → 4 ≤ length bytes
      → Comes nothing (LogStart stamp server ∷ es) bytes rest (grouped_from 4 bytes)
  start_comes stamp server es bytes rest committed fits can is reaches =
      by (walks.below.start_is_read stamp server (drop 4 bytes) rest (log (map kept_entry es) 0 first_place) fits parts.1)
    where
      first : List ℕ
      first = bytes_of server 4 (description stamp)

      parts : (bytes ≡ magic ++ drop 4 bytes) × (drop 4 bytes ++ rest ≡ first ++ log (map kept_entry es) 0 first_place)
      parts = parted bytes rest magic (first ++ log (map kept_entry es) 0 first_place) (is ∙ append_assoc magic first (log (map kept_entry es) 0 first_place)) reaches

      there : grouped_from 4 bytes ≡ walked (record { bytes = drop 4 bytes; pos = 4 })
      there = ap (grouped_from 4) parts.0 ∙ walks.front 4 magic refl (omega arith) refl (drop 4 bytes)

      long : length bytes ≡ 4 + length (drop 4 bytes)
      long = ap length parts.0 ∙ length-append magic (drop 4 bytes)

      if_uncut : rest ≡ [] → group_at (record { bytes = drop 4 bytes; pos = 4 }) ≡ group start_group
      if_uncut none =
          ap (λ (bs : List ℕ). group_at (record { bytes = bs; pos = 4 })) (uncut (drop 4 bytes) rest (first ++ log (map kept_entry es) 0 first_place) parts.1 none)
          ∙ walks.start_is stamp server (log (map kept_entry es) 0 first_place) fits

      size_there : (n t f l w k : ℕ) → n ≡ 4 + t → t ≡ f + l → f ≡ 119 → 123 + l ≡ w + k → n ≡ w + k
      size_there n t f l w k a b c d = omega (arith, a, b, c, d)

      by : Fetched (bytes_of server 4 (description stamp)) 4 start_group (drop 4 bytes) rest (log (map kept_entry es) 0 first_place)
          → Comes nothing (LogStart stamp server ∷ es) bytes rest (grouped_from 4 bytes)
      by (partly not) =
          let w = none_walked (drop 4 bytes) 4 not in
          record {
            front = [];
            left = LogStart stamp server ∷ es;
            all = refl;
            groups = ap (λ (g : Grouped). groups_in g.pieces) there ∙ w.0;
            tail = drop 4 bytes;
            size = long;
            ending = ap (λ (g : Grouped). g.ending) there ∙ w.1;
            whole = λ none. absurd (read_whole (group_at (record { bytes = drop 4 bytes; pos = 4 })) start_group (if_uncut none) not);
          }
      by (wholly left split back read) =
          let have : length (bytes_of server 4 (description stamp)) ≡ 119 = first_event_length walks.below.heads stamp server in
          let more : drop 119 (drop 4 bytes) ≡ left = past_bytes (bytes_of server 4 (description stamp)) (drop 4 bytes) left 119 split (sym have) in
          let is_more : grouped_from 4 bytes ≡ with_piece (piece_of start_group (record { bytes = drop 4 bytes; pos = 4 })) (walked (record { bytes = left; pos = 123 })) =
          there ∙ walks.first (record { bytes = drop 4 bytes; pos = 4 }) start_group read
          ∙ ap (λ (bs : List ℕ). with_piece (piece_of start_group (record { bytes = drop 4 bytes; pos = 4 })) (walked (record { bytes = bs; pos = 123 }))) more in
          let r : Goes es 0 first_place left rest (walked (record { bytes = left; pos = 123 })) = entries_go es 0 first_place left rest committed can back in
          record {
            front = LogStart stamp server ∷ r.front;
            left = r.left;
            all = ap (λ (xs : List (Entry Whole)). LogStart stamp server ∷ xs) r.all;
            groups = ap (λ (w : Grouped). groups_in w.pieces) is_more ∙ ap (λ (gs : List Group). start_group ∷ gs) r.groups;
            tail = r.tail;
            size = size_there (length bytes) (length (drop 4 bytes)) (length (bytes_of server 4 (description stamp))) (length left)
                (written_to (map kept_entry r.front) 0 first_place).pos (length r.tail) long
                (ap length split ∙ length-append (bytes_of server 4 (description stamp)) left) have r.size;
            ending = ap (λ (w : Grouped). w.ending) is_more ∙ r.ending;
            whole = r.whole;
          }

  -- behind what was read
  ends_is : (bytes : List ℕ) (number : ℕ) (front : List (Entry Whole)) → (written_to (map kept_entry front) number (record { log = 1; pos = length bytes })).pos ≡ ends_at (bytes_to bytes number) front
  ends_is bytes number [] = refl
  ends_is bytes number (e ∷ es) = refl

  read_comes : (before : List ℕ) (number : ℕ) (es : List (Entry Whole)) (bytes rest : List ℕ) → IsLogFront before → AreCommitted es
      → CanLogAll (map kept_entry es) number (record { log = 1; pos = length before }) → bytes ++ rest ≡ before ++ log (map kept_entry es) number (record { log = 1; pos = length before })
      → length before ≤ length bytes → Comes (bytes_to before number) es bytes rest (grouped_from (length before) bytes)
  read_comes before number es bytes rest begun committed can is reaches =
      let k : ℕ = length before in
      let p : LogPlace = record { log = 1; pos = length before } in
      let parts = parted bytes rest before (log (map kept_entry es) number p) is reaches in
      let long : length before ≡ length (head begun.stamp begun.server) + length begun.more = ap length begun.is ∙ length-append (head begun.stamp begun.server) begun.more in
      let size : length (head begun.stamp begun.server) ≡ 123 = walks.below.heads begun.stamp begun.server in
      let there : grouped_from k bytes ≡ walked (record { bytes = drop k bytes; pos = k }) =
      ap (grouped_from k) parts.0 ∙ walks.front k before (ap (take 4) begun.is) (omega (arith, long, size)) refl (drop k bytes) in
      let r : Goes es number p (drop k bytes) rest (walked (record { bytes = drop k bytes; pos = k })) = entries_go es number p (drop k bytes) rest committed can parts.1 in
      let at : (written_to (map kept_entry r.front) number p).pos ≡ ends_at (bytes_to before number) r.front = ends_is before number r.front in
      record {
        front = r.front;
        left = r.left;
        all = r.all;
        groups = ap (λ (w : Grouped). groups_in w.pieces) there ∙ r.groups;
        tail = r.tail;
        size = ap length parts.0 ∙ length-append before (drop k bytes) ∙ r.size ∙ ap (λ (n : ℕ). n + length r.tail) at;
        ending = ap (λ (w : Grouped). w.ending) there ∙ r.ending ∙ ap (λ (n : ℕ). cut_at n r.tail) at;
        whole = r.whole;
      }

  comes : (read : Read) (owed : List (Entry Whole)) (bytes rest : List ℕ) → HasBegun read → AreOwed read owed → CanLogAll (map kept_entry owed) (number_before read) (place_before read)
      → bytes ++ rest ≡ bytes_before read ++ log (map kept_entry owed) (number_before read) (place_before read) → (reader_from read).pos ≤ length bytes
      → Comes read owed bytes rest (grouped_from (reader_from read).pos bytes)
  comes nothing [] bytes rest begun are can is reaches =
      let none : length bytes ≡ 0 = ap length (empty_front bytes rest is) in
      let no : ⊥ = omega (arith, none, reaches) in absurd no
  comes nothing (LogStart stamp server ∷ es) bytes rest begun are can is reaches = start_comes stamp server es bytes rest are can.0 can.1 is reaches
  comes nothing (Transaction stamp server items ∷ es) bytes rest begun are can is reaches = absurd are
  comes nothing (Definition stamp server item ∷ es) bytes rest begun are can is reaches = absurd are
  comes (bytes_to before number) es bytes rest begun are can is reaches = read_comes before number es bytes rest begun are can is reaches

pub fronts_are_read : Walks → FrontsAreRead
fronts_are_read walks from bytes begins front =
    let place : from.replica.place.pos ≡ (reader_from from.read).pos = ap (λ (p : LogPlace). p.pos) begins.behind.place in
    let reaches : (reader_from from.read).pos ≤ length bytes = subst (λ (n : ℕ). n ≤ length bytes) place front.reaches in
    let r = comes walks from.read from.owed bytes front.rest begins.begun begins.owed begins.logs front.is reaches in
    record {
      front = r.front;
      left = r.left;
      all = r.all;
      groups = ap (λ (n : ℕ). groups_in (grouped_from n bytes).pieces) place ∙ r.groups;
      tail = r.tail;
      size = r.size;
      ending = ap (λ (n : ℕ). (grouped_from n bytes).ending) place ∙ r.ending;
      whole = λ is. r.whole (none_cut bytes front.rest (log_at from) front.is is);
    }
