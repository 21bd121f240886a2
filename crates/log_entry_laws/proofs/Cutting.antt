-- A front of the bytes of events: whole events, and a front of the next one, which is short.
use Rattle.std.proofs.Common.{◌≡◌, ℕ, ◌+◌, ◌≤◌, ◌<◌, Bool, true, false, eqb, leb, ltb, List, [], ◌∷◌, ◌++◌, length, append_assoc, refl, sym, ap, ◌∙◌, arith, subst}
use Rattle.std.proofs.lemmas.Bool.{le-ltb, le-leb, eq-eqb, lt-ltb, ltb-true, ltb-false}
use Rattle.std.proofs.lemmas.List.{drop_at, length-append}
use Rattle.byte_fields.specs.Field.{number_at, number_bytes}
use Rattle.byte_fields.proofs.FieldLaws.{field_again}
use Rattle.event_codec.specs.declared.event.Header.{Header}
use Rattle.event_codec.specs.Event.{Body}
use Rattle.event_codec.specs.Reading.{reading, event, none, short}
use Rattle.event_codec.specs.Writing.{kind_of, body_bytes, size, header_bytes, event_bytes}
use Rattle.event_codec.proofs.RoundTrip.{read-again, length-event_bytes}
use Rattle.log_model.specs.Events.{Place, Placed, past, events_from, stop_from}
use Rattle.log_model.specs.Spelling.{IsShort}
use Rattle.log_model.specs.Written.{Stamped, seen_of, header_of, bytes_of, placed, CanWriteAll}
use Rattle.log_model.proofs.Walking.{events_some, stop_some, events_none, stop_none}
use Rattle.log_entry_laws.proofs.Parting.{parted}

-- ---- a front of one event

-- no event stands there, since bytes lack
abbrev pub Lacks : List ℕ → ℕ → Type 0
Lacks bytes pos = (need : ℕ) × (reading bytes pos ≡ none (short need))

pub no_header : (bytes : List ℕ) (pos : ℕ) → ltb (length bytes) 19 ≡ true → Lacks bytes pos
unfolding reading
no_header bytes pos few = (19, rw few refl)

-- a header in order, with fewer bytes behind it than it says
no_body : (bytes : List ℕ) (pos n : ℕ) → number_at 9 4 bytes ≡ n → number_at 13 4 bytes ≡ pos + n → 19 ≤ n → pos + n ≤ 1200000000
    → 19 ≤ length bytes → length bytes < n → reading bytes pos ≡ none (short n)
unfolding reading
no_body bytes pos n size-is next-is low high some few =
    let front : ltb (length bytes) 19 ≡ false = le-ltb _ _ some in
    let a : leb 19 n ≡ true = le-leb _ _ low in
    let b : eqb (pos + n) (pos + n) ≡ true = eq-eqb _ _ refl in
    let d : leb (pos + n) 1200000000 ≡ true = le-leb _ _ high in
    let e : ltb (length bytes) n ≡ true = lt-ltb _ _ few in
    rw (front, size-is, next-is, a, b, d, e) refl

header_length : (kind n : ℕ) (h : Header) → length (header_bytes kind n h) ≡ 19
unfolding header_bytes number_bytes
header_length kind n h = refl

header_alone : (kind n : ℕ) (h : Header) (more : List ℕ) → 19 ≤ n → h.pos + n ≤ 1200000000 → length (header_bytes kind n h ++ more) < n
    → reading (header_bytes kind n h ++ more) h.pos ≡ none (short n)
unfolding header_bytes number_at number_bytes
header_alone kind n h more low high few =
    no_body (header_bytes kind n h ++ more) h.pos n (field_again 4 n [] (omega arith)) (field_again 4 (h.pos + n) [] (omega arith))
    low high (omega arith) few

-- a front that has the header
header_whole : (kind n : ℕ) (h : Header) (front rest body : List ℕ) → 19 ≤ n → h.pos + n ≤ 1200000000
    → front ++ rest ≡ header_bytes kind n h ++ body → 19 ≤ length front → length front < n → Lacks front h.pos
header_whole kind n h front rest body low high same some few =
    let len = header_length kind n h in
    let r = parted front rest (header_bytes kind n h) body same (omega (arith, len)) in
    let is : length front ≡ length (header_bytes kind n h ++ r.0) = ap (λ (xs : List ℕ). length xs) r.1.0 in
    (n, ap (λ (bytes : List ℕ). reading bytes h.pos) r.1.0 ∙ header_alone kind n h r.0 low high (omega (arith, is)))

-- fewer bytes than an event has, which stand in front of it
event_lacks : (b : Body) (h : Header) (front rest more : List ℕ) → h.pos + size b ≤ 1200000000 → front ++ rest ≡ event_bytes b h ++ more
    → length front < size b → Lacks front h.pos
unfolding event_bytes size
event_lacks b h front rest more end same few = by (ltb (length front) 19) refl
  where
    by : (x : Bool) → ltb (length front) 19 ≡ x → Lacks front h.pos
    by true is = no_header front h.pos is
    by false is =
        let n : ℕ = 19 + length (body_bytes 0 b) in
        header_whole (kind_of b) n h front rest (body_bytes h.stamp b ++ more) (omega arith) end
        (same ∙ append_assoc (header_bytes (kind_of b) n h) (body_bytes h.stamp b) more) (ltb-false _ _ is) few

-- ---- a front of events

abbrev place : List ℕ → ℕ → Place
place bytes pos = record { bytes = bytes; pos = pos }

-- whole events, and fewer bytes than the next one has
pub record Cut (pos : ℕ) (es : List Stamped) (front : List ℕ) : Type 0 where
  pub before : List Stamped
  pub next : Stamped
  pub after : List Stamped
  pub all : es ≡ before ++ next ∷ after
  pub events : events_from (record { bytes = front; pos = pos }) ≡ placed pos before
  pub ends : IsShort (stop_from (record { bytes = front; pos = pos }))

cut_first : (pos : ℕ) (e : Stamped) (es : List Stamped) (front : List ℕ) → Lacks front pos → Cut pos (e ∷ es) front
cut_first pos e es front lacks = record {
  before = [];
  next = e;
  after = es;
  all = refl;
  events = events_none (place front pos) (short lacks.0) lacks.1;
  ends = subst IsShort (sym (stop_none (place front pos) (short lacks.0) lacks.1)) tt;
}

behind : (server pos : ℕ) (e : Stamped) (more : List ℕ) → past (seen_of e) (place (event_bytes e.body (header_of server pos e) ++ more) pos) ≡ place more (pos + size e.body)
behind server pos e more =
    ap (λ (bs : List ℕ). place bs (pos + size e.body)) (drop_at (event_bytes e.body (header_of server pos e)) more (size e.body) (length-event_bytes e.body (header_of server pos e)))

cut_later : (server pos : ℕ) (e : Stamped) (es : List Stamped) (front more : List ℕ) → CanWriteAll pos (e ∷ es)
    → front ≡ event_bytes e.body (header_of server pos e) ++ more → Cut (pos + size e.body) es more → Cut pos (e ∷ es) front
cut_later server pos e es front more can is c =
    let bytes : List ℕ = event_bytes e.body (header_of server pos e) ++ more in
    let read : reading bytes pos ≡ event (seen_of e) = read-again e.body (header_of server pos e) more can.0 can.1 can.2 in
    let same : place front pos ≡ place bytes pos = ap (λ (bs : List ℕ). place bs pos) is in
    let first : Placed = record { pos = pos; event = seen_of e } in
    let stop : stop_from (place front pos) ≡ stop_from (place more (pos + size e.body)) =
    ap stop_from same ∙ stop_some (place bytes pos) (seen_of e) read ∙ ap stop_from (behind server pos e more) in
    record {
      before = e ∷ c.before;
      next = c.next;
      after = c.after;
      all = ap (λ (xs : List Stamped). e ∷ xs) c.all;
      events = ap events_from same ∙ events_some (place bytes pos) (seen_of e) read
          ∙ ap (λ (p : Place). first ∷ events_from p) (behind server pos e more) ∙ ap (λ (xs : List Placed). first ∷ xs) c.events;
      ends = subst IsShort (sym stop) c.ends;
    }

pub cut : (server pos : ℕ) (es : List Stamped) (front rest : List ℕ) → CanWriteAll pos es → front ++ rest ≡ bytes_of server pos es → 1 ≤ length rest → Cut pos es front
cut server pos [] front rest can same some =
    let none : length (front ++ rest) ≡ 0 = ap (λ (xs : List ℕ). length xs) same in
    absurd (omega (arith, none, length-append front rest))
cut server pos (e ∷ es) front rest can same some =
    by (λ more c. cut server (pos + size e.body) es more rest can.3 c some) (ltb (length front) (size e.body)) refl
  where
    bytes : List ℕ
    bytes = event_bytes e.body (header_of server pos e)

    by : ((more : List ℕ) → more ++ rest ≡ bytes_of server (pos + size e.body) es → Cut (pos + size e.body) es more)
        → (x : Bool) → ltb (length front) (size e.body) ≡ x → Cut pos (e ∷ es) front
    by again true is =
        cut_first pos e es front (event_lacks e.body (header_of server pos e) front rest (bytes_of server (pos + size e.body) es) can.0.end same (ltb-true _ _ is))
    by again false is =
        let len = length-event_bytes e.body (header_of server pos e) in
        let enough = ltb-false _ _ is in
        let r = parted front rest (event_bytes e.body (header_of server pos e)) (bytes_of server (pos + size e.body) es) same (omega (arith, len, enough)) in
        cut_later server pos e es front r.0 can r.1.0 (again r.0 r.1.1)
