-- From where a replica fetches that follows its source.
use Rattle.std.proofs.Common.{◌≡◌, ◌<◌, ℕ, ◌+◌, ◌-◌, zero, suc, List, [], ◌∷◌, ◌++◌, length, map, take, drop, refl, sym, ap, ◌∙◌, subst, append_assoc, arith, length-append}
use Rattle.std.specs.Prelude.{◌^◌}
use Rattle.std.proofs.Math.Seq.{drop-append_seam}
use Rattle.std.proofs.lemmas.List.{drop-drop, map-append, take-append-drop}
use Rattle.apply_laws.specs.log_entries.declared.entries.Item.{Item}
use Rattle.apply_laws.specs.log_entries.declared.entries.Entry.{Entry}
use Rattle.apply_laws.specs.log_entries.declared.entries.Entry.TheVariants.{Transaction, Definition, LogStart}
use Rattle.apply_laws.specs.log_model.Groups.{Group, Next, not_whole, group_at}
use Rattle.apply_laws.specs.log_model.Log.{LogPlace, moved, behind, counted, description, entry_bytes, log, EntriesHaveLength, HeadsHaveLength, LogGoesOn}
use Rattle.apply_laws.specs.log_model.Written.{bytes_of}
use Rattle.apply_laws.specs.log_entry_laws.Entries.{group_of_entry, start_group, StaysInLog, CanLog, CanLogAll}
use Rattle.apply_laws.specs.log_entry_laws.Laws.{Fetched, partly, wholly, EntriesCanLogOn, FewAreCut, GroupsHaveBounds, RelayIsRead, StartRelayIsRead}
use Rattle.apply_laws.specs.session_model.Machine.{Whole, kept_entry, Machine, log_bytes, first_place}
use Rattle.run_model.specs.replica_model.Replica.{Replica, behind_group, size_of, past_next, past_groups, want, log_begin}
use Rattle.run_model.specs.Run.{Read, nothing, bytes_to, number_before, place_before, Starts, log_with}
use Rattle.run_model.specs.Following.{AreCommitted, head_entries, place_behind, reader_at, reader_from}
use Rattle.run_laws.proofs.Places.{Line, front_of, count_of, place_of, front_place, behind_front, first_event_length, head_log, log_is}
use Rattle.run_laws.proofs.Carrying.{stays, others, first_ones, last_ones}

-- ---- bytes

-- a front of nothing
pub empty_front : (xs ys : List ℕ) → xs ++ ys ≡ [] → xs ≡ []
empty_front [] ys is = refl
empty_front (x ∷ xs) ys is = cc

-- no bytes are no group
pub none_whole : FewAreCut → (bytes : List ℕ) (pos : ℕ) → bytes ≡ [] → group_at (record { bytes = bytes; pos = pos }) ≡ not_whole
none_whole law bytes pos is = law bytes pos (let size : length bytes ≡ 0 = ap length is in omega (arith, size))

-- behind the bytes of a group
pub past_bytes : (bytes relay more : List ℕ) (n : ℕ) → relay ≡ bytes ++ more → n ≡ length bytes → drop n relay ≡ more
past_bytes bytes relay more n is size = ap (λ (k : ℕ). drop k relay) size ∙ ap (drop (length bytes)) is ∙ drop-append_seam bytes more

-- ---- groups

-- the group of an entry has its bytes, and leads to the place behind it
pub group_size : GroupsHaveBounds → (e : Entry Item) (number : ℕ) (p : LogPlace) → StaysInLog e → size_of (group_of_entry e number p) ≡ length (entry_bytes e number p)
group_size bounds e number p stay = let b = bounds e number p stay in size b.0 b.1
  where
    size : {first end at n : ℕ} → first ≡ at → end ≡ at + n → end - first ≡ n
    size f q = omega (arith, f, q)

pub group_leads : (e : Entry Item) (number : ℕ) (p place : LogPlace) → StaysInLog e → CanLog e number p
    → behind_group place (group_of_entry e number p) ≡ record { log = place.log; pos = (group_of_entry e number p).end }
group_leads (Transaction stamp server []) number p place stay can = let no : ⊥ = omega (arith, can.0) in absurd no
group_leads (Transaction stamp server (i ∷ is)) number p place stay can = refl
group_leads (Definition stamp server i) number p place stay can = refl
group_leads (LogStart stamp server) number p place stay can = absurd stay

pub entry_moves : EntriesHaveLength → (e : Entry Item) (number : ℕ) (p : LogPlace) → StaysInLog e → behind e number p ≡ moved p (length (entry_bytes e number p))
entry_moves have (Transaction stamp server is) number p stay = have.0 stamp server number is p
entry_moves have (Definition stamp server i) number p stay = have.1 stamp server number i p
entry_moves have (LogStart stamp server) number p stay = absurd stay

-- so the place behind it is where a writer stands
pub group_to : EntriesHaveLength → GroupsHaveBounds → (e : Entry Item) (number : ℕ) (p place : LogPlace) → StaysInLog e → CanLog e number p → place.log ≡ p.log
    → behind_group place (group_of_entry e number p) ≡ behind e number p
group_to have bounds e number p place stay can same =
    group_leads e number p place stay can ∙ rw (same, (bounds e number p stay).1, entry_moves have e number p stay) refl

-- ---- where what was fetched ends

-- what the proofs take from the crates below
pub record Below : Type 0 where
  pub have : EntriesHaveLength
  pub heads : HeadsHaveLength
  pub goes_on : LogGoesOn
  pub few : FewAreCut
  pub bounds : GroupsHaveBounds
  pub start_is_read : StartRelayIsRead
  pub is_read : RelayIsRead
  pub can_on : EntriesCanLogOn

-- behind a front of entries, from the place of the first on
past_entries : Below → (most : ℕ) (es : List (Entry Whole)) (number : ℕ) (p place : LogPlace) (bytes rest : List ℕ) → AreCommitted es → CanLogAll (map kept_entry es) number p
    → bytes ++ rest ≡ log (map kept_entry es) number p → place ≡ p → past_groups most place bytes ≡ moved place (length bytes)
past_entries below zero es number p place bytes rest committed can is at = refl
past_entries below (suc most) [] number p place bytes rest committed can is at = ap (past_next (past_groups most) place bytes) (none_whole below.few bytes place.pos (empty_front bytes rest is))
past_entries below (suc most) (e ∷ es) number p place bytes rest committed can is at =
    by (λ more place' back to. past_entries below most es (counted (kept_entry e) number) (behind (kept_entry e) number p) place' more rest (others e es committed) can.1 back to)
    (below.is_read (kept_entry e) number p bytes rest (log (map kept_entry es) (counted (kept_entry e) number) (behind (kept_entry e) number p)) stay can.0 is)
  where
    stay : StaysInLog (kept_entry e)
    stay = stays e es committed

    g : Group
    g = group_of_entry (kept_entry e) number p

    here : {x : Next} → group_at (record { bytes = bytes; pos = p.pos }) ≡ x → group_at (record { bytes = bytes; pos = place.pos }) ≡ x
    here q = ap (λ (k : LogPlace). group_at (record { bytes = bytes; pos = k.pos })) at ∙ q

    ends_at : (n k l a b : ℕ) → a ≡ b + n → l ≡ n + k → a + k ≡ b + l
    ends_at n k l a b q s = omega (arith, q, s)

    by : ((more : List ℕ) (place' : LogPlace) → more ++ rest ≡ log (map kept_entry es) (counted (kept_entry e) number) (behind (kept_entry e) number p)
        → place' ≡ behind (kept_entry e) number p → past_groups most place' more ≡ moved place' (length more))
        → Fetched (entry_bytes (kept_entry e) number p) p.pos g bytes rest (log (map kept_entry es) (counted (kept_entry e) number) (behind (kept_entry e) number p))
        → past_groups (suc most) place bytes ≡ moved place (length bytes)
    by next (partly not) = ap (past_next (past_groups most) place bytes) (here not)
    by next (wholly more split back read) =
        let to : behind_group place g ≡ behind (kept_entry e) number p = group_to below.have below.bounds (kept_entry e) number p place stay can.0 (ap (λ (q : LogPlace). q.log) at) in
        let left : drop (size_of g) bytes ≡ more = past_bytes (entry_bytes (kept_entry e) number p) bytes more (size_of g) split (group_size below.bounds (kept_entry e) number p stay) in
        let end : g.end ≡ p.pos + length (entry_bytes (kept_entry e) number p) = (below.bounds (kept_entry e) number p stay).1 in
        let size : length bytes ≡ length (entry_bytes (kept_entry e) number p) + length more = ap length split ∙ length-append (entry_bytes (kept_entry e) number p) more in
        let sum : g.end + length more ≡ place.pos + length bytes = ends_at (length (entry_bytes (kept_entry e) number p)) (length more) (length bytes) g.end place.pos (end ∙ ap (λ (q : LogPlace). q.pos + length (entry_bytes (kept_entry e) number p)) (sym at)) size in
        ap (past_next (past_groups most) place bytes) (here read) ∙ ap (past_groups most (behind_group place g)) left
        ∙ next more (behind_group place g) back to
        ∙ ap (λ (q : LogPlace). moved q (length more)) (group_leads (kept_entry e) number p place stay can.0) ∙ ap (λ (k : ℕ). record { log = place.log; pos = k }) sum

-- from the beginning of the log on
past_all : Below → (most stamp server : ℕ) (es : List (Entry Whole)) (bytes rest : List ℕ) → AreCommitted es → stamp < 2 ^ 32 → CanLogAll (map kept_entry es) 0 first_place
    → bytes ++ rest ≡ bytes_of server 4 (description stamp) ++ log (map kept_entry es) 0 first_place → past_groups most (log_begin 1) bytes ≡ moved (log_begin 1) (length bytes)
past_all below zero stamp server es bytes rest committed fits can is = refl
past_all below (suc most) stamp server es bytes rest committed fits can is =
    by (below.start_is_read stamp server bytes rest (log (map kept_entry es) 0 first_place) fits is)
  where
    first : List ℕ
    first = bytes_of server 4 (description stamp)

    by : Fetched (bytes_of server 4 (description stamp)) 4 start_group bytes rest (log (map kept_entry es) 0 first_place) → past_groups (suc most) (log_begin 1) bytes ≡ moved (log_begin 1) (length bytes)
    by (partly not) = ap (past_next (past_groups most) (log_begin 1) bytes) not
    by (wholly more split back read) =
        let have : length (bytes_of server 4 (description stamp)) ≡ 119 = first_event_length below.heads stamp server in
        let left : drop 119 bytes ≡ more = past_bytes (bytes_of server 4 (description stamp)) bytes more 119 split (sym have) in
        let size : length bytes ≡ length (bytes_of server 4 (description stamp)) + length more = ap length split ∙ length-append (bytes_of server 4 (description stamp)) more in
        let sum : 123 + length more ≡ 4 + length bytes = omega (arith, have, size) in
        ap (past_next (past_groups most) (log_begin 1) bytes) read ∙ ap (past_groups most first_place) left
        ∙ past_entries below most es 0 first_place first_place more rest committed can back refl ∙ ap (λ (k : ℕ). record { log = 1; pos = k }) sum

-- ---- what can be logged

-- the head of a log that was not read has a stamp that a log can say
abbrev pub HeadFits : Read → (stamp : ℕ) → Type 0
HeadFits nothing stamp = stamp < 2 ^ 32
HeadFits (bytes_to bytes number) stamp = Unit {0}

-- the entries behind what stands before them
pub can_head : (read : Read) (stamp server : ℕ) (es : List (Entry Whole)) → CanLogAll (map kept_entry (head_entries read stamp server ++ es)) (number_before read) (place_before read)
    → HeadFits read stamp × CanLogAll (map kept_entry es) (number_before read) (place_behind read)
can_head nothing stamp server es can = can
can_head (bytes_to bytes number) stamp server es can = (tt, can)

-- each of the entries behind the first ones
pub can_behind : Below → (l : Line) (front back : List (Entry Whole)) → CanLogAll (map kept_entry (front ++ back)) (number_before l.read) (place_behind l.read)
    → CanLogAll (map kept_entry back) (count_of l front) (place_of l front)
can_behind below l front back can =
    (below.can_on.0 (map kept_entry front) (map kept_entry back) (number_before l.read) (place_behind l.read)
    (subst (λ (es : List (Entry Item)). CanLogAll es (number_before l.read) (place_behind l.read)) (map-append kept_entry front back) can)).1

-- ---- a reader that has carried out nothing

-- It stands before the head of the log, or behind what was read of it, and these bytes come next.
pub data Starting (l : Line) (more : List (Entry Whole)) (place : LogPlace) (bytes : List ℕ) : Type 0 where
  unread : place ≡ log_begin 1 → number_before l.read ≡ 0 → place_behind l.read ≡ first_place → l.stamp < 2 ^ 32
      → bytes ≡ bytes_of l.server 4 (description l.stamp) ++ log (map kept_entry more) 0 first_place → Starting l more place bytes
  there : place ≡ place_behind l.read → bytes ≡ log (map kept_entry more) (number_before l.read) (place_behind l.read) → Starting l more place bytes

pub starting : (read : Read) (stamp server : ℕ) (more : List (Entry Whole)) (place : LogPlace) (whole : List ℕ) → HeadFits read stamp → place ≡ reader_from read
    → whole ≡ front_of (record { read = read; stamp = stamp; server = server }) more → Starting (record { read = read; stamp = stamp; server = server }) more place (drop place.pos whole)
starting nothing stamp server more place whole fits at is =
    unread at refl refl fits (ap (λ (q : LogPlace). drop q.pos whole) at ∙ ap (drop 4) is)
starting (bytes_to bytes number) stamp server more place whole fits at is =
    there at (ap (λ (q : LogPlace). drop q.pos whole) at ∙ ap (drop (length bytes)) is ∙ drop-append_seam bytes (log (map kept_entry more) number (record { log = 1; pos = length bytes })))

-- ---- a replica that follows

-- where it fetches, behind what was carried out
want_behind : Below → (r : Replica) (more : List (Entry Whole)) (number : ℕ) (p : LogPlace) (rest : List ℕ) → AreCommitted more → CanLogAll (map kept_entry more) number p → r.place ≡ p → p.log ≡ 1
    → r.relay ++ rest ≡ log (map kept_entry more) number p → want r ≡ record { log = 1; pos = r.place.pos + length r.relay }
unfolding want
want_behind below r more number p rest committed can at first bytes =
    past_entries below (length r.relay) more number p r.place r.relay rest committed can bytes at
    ∙ ap (λ (n : ℕ). record { log = n; pos = r.place.pos + length r.relay }) (ap (λ (q : LogPlace). q.log) at ∙ first)

-- and before anything was
want_first : Below → (l : Line) (r : Replica) (more : List (Entry Whole)) (rest : List ℕ) → AreCommitted more → CanLogAll (map kept_entry more) (number_before l.read) (place_behind l.read)
    → Starting l more r.place (r.relay ++ rest) → want r ≡ record { log = 1; pos = r.place.pos + length r.relay }
unfolding want
want_first below l r more rest committed can (unread place number behind fits bytes) =
    let here : CanLogAll (map kept_entry more) 0 first_place = subst (λ (n : ℕ). CanLogAll (map kept_entry more) n first_place) number (subst (λ (q : LogPlace). CanLogAll (map kept_entry more) (number_before l.read) q) behind can) in
    ap (λ (q : LogPlace). past_groups (length r.relay) q r.relay) place ∙ past_all below (length r.relay) l.stamp l.server more r.relay rest committed fits here bytes
    ∙ ap (λ (k : ℕ). record { log = 1; pos = k + length r.relay }) (sym (ap (λ (q : LogPlace). q.pos) place))
want_first below l r more rest committed can (there place bytes) = want_behind below r more (number_before l.read) (place_behind l.read) rest committed can place (head_log l.read) bytes

-- where it fetches
pub want_at : Below → (from : Starts) (m : Machine) (r : Replica) (stamp server : ℕ) (carried more : List (Entry Whole)) (rest : List ℕ)
    → from.owed ++ m.history ≡ head_entries from.read stamp server ++ (carried ++ more) → AreCommitted (carried ++ more)
    → CanLogAll (map kept_entry (from.owed ++ m.history)) (number_before from.read) (place_before from.read) → r.place ≡ reader_at from.read stamp server carried
    → r.relay ++ rest ≡ drop r.place.pos (log_with from m) → want r ≡ record { log = 1; pos = r.place.pos + length r.relay }
want_at below from m r stamp server carried more rest is committed all place relay =
    by carried is committed can place
  where
    l : Line
    l = record { read = from.read; stamp = stamp; server = server }

    can : HeadFits from.read stamp × CanLogAll (map kept_entry (carried ++ more)) (number_before from.read) (place_behind from.read)
    can = can_head from.read stamp server (carried ++ more) (subst (λ (es : List (Entry Whole)). CanLogAll (map kept_entry es) (number_before from.read) (place_before from.read)) is all)

    by : (carried : List (Entry Whole)) → from.owed ++ m.history ≡ head_entries from.read stamp server ++ (carried ++ more) → AreCommitted (carried ++ more)
        → HeadFits from.read stamp × CanLogAll (map kept_entry (carried ++ more)) (number_before from.read) (place_behind from.read) → r.place ≡ reader_at from.read stamp server carried
        → want r ≡ record { log = 1; pos = r.place.pos + length r.relay }
    by [] is committed can place =
        want_first below (record { read = from.read; stamp = stamp; server = server }) r more rest committed can.1
        (subst (Starting (record { read = from.read; stamp = stamp; server = server }) more r.place) (sym relay) (starting from.read stamp server more r.place (log_with from m) can.0 place (log_is from m stamp server more is)))
    by (x ∷ xs) is committed can place =
        let front : List (Entry Whole) = x ∷ xs in
        let line : Line = record { read = from.read; stamp = stamp; server = server } in
        let end : place_of line front ≡ record { log = 1; pos = length (front_of line front) } = front_place below.have below.heads line front (first_ones front more committed) in
        want_behind below r more (count_of line front) (place_of line front) rest (last_ones front more committed) (can_behind below line front more can.1) (place ∙ sym end) (ap (λ (q : LogPlace). q.log) end)
        (relay ∙ ap (λ (q : LogPlace). drop q.pos (log_with from m)) place ∙ behind_front below.goes_on from m stamp server front more is)

-- what FETCH takes is what comes next
pub piece_is : (w : LogPlace) (bytes relay rest : List ℕ) (pos n : ℕ) → w ≡ record { log = 1; pos = pos + length relay } → relay ++ rest ≡ drop pos bytes → log_bytes bytes w n ≡ take n rest
piece_is w bytes relay rest pos n at is =
    ap (λ (q : LogPlace). log_bytes bytes q n) at
    ∙ ap (take n) (sym (drop-drop (length relay) pos bytes) ∙ ap (drop (length relay)) (sym is) ∙ drop-append_seam relay rest)

pub fetched_rest : (relay rest all : List ℕ) (n : ℕ) → relay ++ rest ≡ all → (relay ++ take n rest) ++ drop n rest ≡ all
fetched_rest relay rest all n is = append_assoc relay (take n rest) (drop n rest) ∙ ap (λ (bs : List ℕ). relay ++ bs) (take-append-drop n rest) ∙ is
