-- Events that are written are read again, and so is a transaction.
use Rattle.std.proofs.Common.{◌≡◌, ℕ, ◌+◌, List, [], ◌∷◌, ◌++◌, map, length, refl, ap, ◌∙◌, append_assoc, arith}
use Rattle.std.specs.Prelude.{codes}
use Rattle.std.proofs.lemmas.List.{drop_at, length-append}
use Rattle.event_codec.specs.Event.{Body, Query, query, xid}
use Rattle.event_codec.specs.Reading.{reading, event}
use Rattle.event_codec.specs.Writing.{event_bytes, size}
use Rattle.event_codec.proofs.RoundTrip.{read-again, length-event_bytes}
use Rattle.log_model.specs.Events.{Place, Placed, past, events_from, stop_from}
use Rattle.log_model.specs.Groups.{txn, group, group_of, group_at}
use Rattle.log_model.specs.Spelling.{Spelled, bodies, AreItems, said}
use Rattle.log_model.specs.Written.{Stamped, body_of, seen_of, header_of, bytes_of, total, placed, CanWriteAll}
use Rattle.log_model.proofs.Walking.{events_some, stop_some}
use Rattle.log_model.proofs.Scanning.{spelled_read}

pub length-bytes_of : (server pos : ℕ) (es : List Stamped) → length (bytes_of server pos es) ≡ total es
length-bytes_of server pos [] = refl
length-bytes_of server pos (e ∷ es) =
    let front = length-event_bytes e.body (header_of server pos e) in
    let rest = length-bytes_of server (pos + size e.body) es in
    length-append (event_bytes e.body (header_of server pos e)) (bytes_of server (pos + size e.body) es) ∙ rw (front, rest) refl

abbrev place : List ℕ → ℕ → Place
place bytes pos = record { bytes = bytes; pos = pos }

-- behind an event that is written
behind : (e : Stamped) (server pos : ℕ) (more : List ℕ) → past (seen_of e) (place (event_bytes e.body (header_of server pos e) ++ more) pos) ≡ place more (pos + size e.body)
behind e server pos more =
    ap (λ (bs : List ℕ). place bs (pos + size e.body)) (drop_at (event_bytes e.body (header_of server pos e)) more (size e.body) (length-event_bytes e.body (header_of server pos e)))

-- where one event is read, and others behind it
abbrev Again : (server pos : ℕ) → List Stamped → List ℕ → Type 0
Again server pos es rest =
    (events_from (place (bytes_of server pos es ++ rest) pos) ≡ placed pos es ++ events_from (place rest (pos + total es)))
    × (stop_from (place (bytes_of server pos es ++ rest) pos) ≡ stop_from (place rest (pos + total es)))

nothing_again : (server pos : ℕ) (rest : List ℕ) → Again server pos [] rest
nothing_again server pos rest =
    let same : pos ≡ pos + 0 = omega arith in
    (ap (λ (n : ℕ). events_from (place rest n)) same, ap (λ (n : ℕ). stop_from (place rest n)) same)

event_again : (server pos : ℕ) (e : Stamped) (es : List Stamped) (rest : List ℕ) → CanWriteAll pos (e ∷ es) → Again server (pos + size e.body) es rest → Again server pos (e ∷ es) rest
event_again server pos e es rest can again =
    let front : List ℕ = event_bytes e.body (header_of server pos e) in
    let more : List ℕ = bytes_of server (pos + size e.body) es ++ rest in
    let first : Placed = record { pos = pos; event = seen_of e } in
    let same : bytes_of server pos (e ∷ es) ++ rest ≡ front ++ more = append_assoc front (bytes_of server (pos + size e.body) es) rest in
    let read : reading (front ++ more) pos ≡ event (seen_of e) = read-again e.body (header_of server pos e) more can.0 can.1 can.2 in
    let sum : pos + size e.body + total es ≡ pos + (size e.body + total es) = omega arith in (
      ap (λ (bs : List ℕ). events_from (place bs pos)) same ∙ events_some (place (front ++ more) pos) (seen_of e) read
          ∙ ap (λ (p : Place). first ∷ events_from p) (behind e server pos more) ∙ ap (λ (xs : List Placed). first ∷ xs) again.0
          ∙ ap (λ (n : ℕ). first ∷ placed (pos + size e.body) es ++ events_from (place rest n)) sum,
      ap (λ (bs : List ℕ). stop_from (place bs pos)) same ∙ stop_some (place (front ++ more) pos) (seen_of e) read
          ∙ ap stop_from (behind e server pos more) ∙ again.1 ∙ ap (λ (n : ℕ). stop_from (place rest n)) sum,
    )

pub events_again : (server pos : ℕ) (es : List Stamped) (rest : List ℕ) → CanWriteAll pos es → Again server pos es rest
events_again server pos [] rest can = nothing_again server pos rest
events_again server pos (e ∷ es) rest can = event_again server pos e es rest can (events_again server (pos + size e.body) es rest can.3)

-- ---- a transaction

placed_append : (xs ys : List Stamped) (pos : ℕ) → placed pos (xs ++ ys) ≡ placed pos xs ++ placed (pos + total xs) ys
placed_append [] ys pos = let same : pos ≡ pos + 0 = omega arith in ap (λ (n : ℕ). placed n ys) same
placed_append (e ∷ xs) ys pos =
    let sum : pos + size e.body + total xs ≡ pos + (size e.body + total xs) = omega arith in
    ap (λ (es : List Placed). record { pos = pos; event = seen_of e } ∷ es) (placed_append xs ys (pos + size e.body) ∙ ap (λ (n : ℕ). placed (pos + size e.body) xs ++ placed n ys) sum)

total_append : (xs ys : List Stamped) → total (xs ++ ys) ≡ total xs + total ys
total_append [] ys = let same : total ys ≡ 0 + total ys = omega arith in same
total_append (e ∷ xs) ys = let again = total_append xs ys in omega (arith, again)

said_placed : (es : List Stamped) (pos : ℕ) → map said (placed pos es) ≡ map body_of es
said_placed [] pos = refl
said_placed (e ∷ es) pos = ap (λ (bs : List Body). e.body ∷ bs) (said_placed es (pos + size e.body))

pub transaction_again : (server pos : ℕ) (opening last : Stamped) (es : List Stamped) (q : Query) (n : ℕ) (i : Spelled) (is : List Spelled) (rest : List ℕ)
    → opening.body ≡ query q → q.text ≡ codes "BEGIN" → map body_of es ≡ bodies (i ∷ is) → AreItems (i ∷ is) → last.body ≡ xid n
    → CanWriteAll pos (opening ∷ es ++ last ∷ [])
    → group_at (record { bytes = bytes_of server pos (opening ∷ es ++ last ∷ []) ++ rest; pos = pos })
    ≡ group (record {
      form = txn (record { stamp = opening.stamp; size = size opening.body; query = q }) (placed (pos + size opening.body) es) n;
      begin = pos;
      end = pos + total (opening ∷ es ++ last ∷ []);
    })
unfolding group_at
transaction_again server pos opening last es q n i is rest opens text same are ends can =
    let from : ℕ = pos + size opening.body in
    let p : Place = place (bytes_of server pos (opening ∷ es ++ last ∷ []) ++ rest) pos in
    let more : List Placed = events_from (place rest (pos + total (opening ∷ es ++ last ∷ []))) in
    let first : Placed = record { pos = pos; event = seen_of opening } in
    let final : Placed = record { pos = from + total es; event = seen_of last } in
    let tail : placed from (es ++ last ∷ []) ++ more ≡ placed from es ++ final ∷ more =
    ap (λ (xs : List Placed). xs ++ more) (placed_append es (last ∷ []) from) ∙ append_assoc (placed from es) (final ∷ []) more in
    let all = total_append es (last ∷ []) in
    let end : from + total es + size last.body ≡ pos + (size opening.body + total (es ++ last ∷ [])) = omega (arith, all) in
    ap (λ (xs : List Placed). group_of xs (stop_from p)) (events_again server pos (opening ∷ es ++ last ∷ []) rest can).0
    ∙ ap (λ (xs : List Placed). group_of (first ∷ xs) (stop_from p)) tail
    ∙ spelled_read first q (placed from es) final n i is more (stop_from p) opens text (said_placed es from ∙ same) are ends
    ∙ ap (λ (m : ℕ). group (record { form = txn (record { stamp = opening.stamp; size = size opening.body; query = q }) (placed from es) n; begin = pos; end = m })) end
