-- Events that are written one after the other: what is left does, from here, what all did from the start.
use Rattle.std.specs.Prelude.{IfOk, OnErr, Result, Ok, Err}
use Rattle.std.proofs.Common.{◌≡◌, ℕ, ◌+◌, ◌-◌, ◌≤◌, map, List, [], ◌∷◌, ◌++◌, length, take, refl, sym, ap, ◌∙◌, subst, append_assoc, append-nil, arith, length-append}
use Rattle.std.proofs.lemmas.List.{take-append-le, take-take, take_at, map-append}
use Rattle.std.proofs.Math.Seq.{take-length}
use Rattle.byte_fields.specs.Field.{BeginsWith}
use Rattle.event_codec.specs.declared.event.Header.{Header}
use Rattle.event_codec.specs.Writing.{event_bytes, size}
use Rattle.event_codec.proofs.RoundTrip.{length-event_bytes}
use Rattle.event_codec.specs.declared.event.Event.{Event}
use Rattle.event_codec.specs.Event.{Body, body_of}
use Rattle.log_model.specs.Items.{at_time}
use Rattle.log_model.specs.Written.{Stamped, header_of, bytes_of, total, CanWriteAll}
use Rattle.row_events.specs.Writing.{one, Wrote, GoesOn}

pub total_append : (xs ys : List Stamped) → total (xs ++ ys) ≡ total xs + total ys
total_append [] ys = let same : total ys ≡ 0 + total ys = omega arith in same
total_append (e ∷ xs) ys = let again = total_append xs ys in omega (arith, again)

pub bytes_append : (server pos : ℕ) (xs ys : List Stamped) → bytes_of server pos (xs ++ ys) ≡ bytes_of server pos xs ++ bytes_of server (pos + total xs) ys
bytes_append server pos [] ys = let same : pos ≡ pos + 0 = omega arith in ap (λ (n : ℕ). bytes_of server n ys) same
bytes_append server pos (e ∷ xs) ys =
    let sum : pos + size e.body + total xs ≡ pos + (size e.body + total xs) = omega arith in
    ap (λ (bs : List ℕ). event_bytes e.body (header_of server pos e) ++ bs)
    (bytes_append server (pos + size e.body) xs ys ∙ ap (λ (n : ℕ). bytes_of server (pos + size e.body) xs ++ bytes_of server n ys) sum)
    ∙ sym (append_assoc (event_bytes e.body (header_of server pos e)) (bytes_of server (pos + size e.body) xs) (bytes_of server (pos + (size e.body + total xs)) ys))

pub can_split : (pos : ℕ) (xs ys : List Stamped) → CanWriteAll pos (xs ++ ys) → CanWriteAll pos xs × CanWriteAll (pos + total xs) ys
can_split pos [] ys can = let same : pos ≡ pos + 0 = omega arith in (tt, subst (λ (n : ℕ). CanWriteAll n ys) same can)
can_split pos (e ∷ xs) ys can =
    let more = can_split (pos + size e.body) xs ys can.3 in
    let sum : pos + size e.body + total xs ≡ pos + (size e.body + total xs) = omega arith in
    ((can.0, can.1, can.2, more.0), subst (λ (n : ℕ). CanWriteAll n ys) sum more.1)

-- bytes begin with themselves
begins_itself : (bytes : List ℕ) → BeginsWith bytes bytes
begins_itself bytes = take-length bytes

-- what begins with bytes begins with what those begin with
begins_before : (new out start : List ℕ) → length start ≤ length out → BeginsWith out start → BeginsWith new out → BeginsWith new start
begins_before new out start long front more =
    sym (take-take (length start) (length out) new long) ∙ ap (λ (bs : List ℕ). take (length start) bs) more ∙ front

module _ (all : List Stamped) where
  pub starts : (from : Header) (start : List ℕ) → CanWriteAll from.pos all → GoesOn all all from from start start
  starts from start can = record {
    bytes = refl;
    stamp = refl;
    server = refl;
    pos = refl;
    can = can;
    front = begins_itself start;
    long = omega arith;
  }

  -- some of what is left is written
  pub goes : (es left whole : List Stamped) (from here to : Header) (start out new : List ℕ) → whole ≡ es ++ left → GoesOn all whole from here start out → Wrote es here to out new
      → GoesOn all left from to start new
  goes es left whole from here to start out new split on wrote =
      let parts = can_split here.pos es left (subst (λ (xs : List Stamped). CanWriteAll here.pos xs) split on.can) in
      let sum : total whole ≡ total es + total left = ap total split ∙ total_append es left in
      record {
        bytes = new_bytes es left whole from here to start out new split on wrote;
        stamp = wrote.stamp ∙ on.stamp;
        server = wrote.server ∙ on.server;
        pos = omega (arith, sum, wrote.pos, on.pos);
        can = subst (λ (n : ℕ). CanWriteAll n left) (sym wrote.pos) parts.1;
        front = ap (λ (bs : List ℕ). take (length start) bs) wrote.bytes ∙ (take-append-le (length start) out (bytes_of here.server_id here.pos es) on.long ∙ on.front);
        long = omega (arith, on.long, ap length wrote.bytes, length-append out (bytes_of here.server_id here.pos es));
      }
    where
      new_bytes : (es left whole : List Stamped) (from here to : Header) (start out new : List ℕ) → whole ≡ es ++ left → GoesOn all whole from here start out → Wrote es here to out new
          → new ++ bytes_of to.server_id to.pos left ≡ start ++ bytes_of from.server_id from.pos all
      new_bytes es left whole from here to start out new split on wrote =
          ap (λ (bs : List ℕ). bs ++ bytes_of to.server_id to.pos left) wrote.bytes
          ∙ append_assoc out (bytes_of here.server_id here.pos es) (bytes_of to.server_id to.pos left)
          ∙ ap (λ (n : ℕ). out ++ (bytes_of here.server_id here.pos es ++ bytes_of n to.pos left)) wrote.server
          ∙ ap (λ (n : ℕ). out ++ (bytes_of here.server_id here.pos es ++ bytes_of here.server_id n left)) wrote.pos
          ∙ ap (λ (bs : List ℕ). out ++ bs) (sym (bytes_append here.server_id here.pos es left))
          ∙ ap (λ (xs : List Stamped). out ++ bytes_of here.server_id here.pos xs) (sym split)
          ∙ on.bytes

  -- nothing is left
  pub ends : (from here : Header) (start out : List ℕ) → GoesOn all [] from here start out → Wrote all from here start out
  ends from here start out on = record {
    bytes = sym (append-nil out) ∙ on.bytes;
    stamp = on.stamp;
    server = on.server;
    pos = omega (arith, on.pos);
  }

  -- what comes next can be written
  pub next : (es left whole : List Stamped) (from here : Header) (start out : List ℕ) → whole ≡ es ++ left → GoesOn all whole from here start out → CanWriteAll here.pos es
  next es left whole from here start out split on = (can_split here.pos es left (subst (λ (xs : List Stamped). CanWriteAll here.pos xs) split on.can)).0

  -- what was there stays in front
  pub fails : (left : List Stamped) (from here : Header) (start out new : List ℕ) → GoesOn all left from here start out → BeginsWith new out → BeginsWith new start
  fails left from here start out new on more = begins_before new out start on.long on.front more

-- ---- two lists, one behind the other

pub both : (xs ys whole : List Stamped) (from mid to : Header) (old out new : List ℕ) → whole ≡ xs ++ ys → Wrote xs from mid old out → Wrote ys mid to out new → Wrote whole from to old new
both xs ys whole from mid to old out new split first second = record {
  bytes =
      second.bytes ∙ ap (λ (bs : List ℕ). bs ++ bytes_of mid.server_id mid.pos ys) first.bytes
      ∙ append_assoc old (bytes_of from.server_id from.pos xs) (bytes_of mid.server_id mid.pos ys)
      ∙ ap (λ (n : ℕ). old ++ (bytes_of from.server_id from.pos xs ++ bytes_of n mid.pos ys)) first.server
      ∙ ap (λ (n : ℕ). old ++ (bytes_of from.server_id from.pos xs ++ bytes_of from.server_id n ys)) first.pos
      ∙ ap (λ (bs : List ℕ). old ++ bs) (sym (bytes_append from.server_id from.pos xs ys))
      ∙ ap (λ (es : List Stamped). old ++ bytes_of from.server_id from.pos es) (sym split);
  stamp = second.stamp ∙ first.stamp;
  server = second.server ∙ first.server;
  pos = let sum : total whole ≡ total xs + total ys = ap total split ∙ total_append xs ys in omega (arith, sum, second.pos, first.pos);
}

pub first_can : (xs ys whole : List Stamped) (pos : ℕ) → whole ≡ xs ++ ys → CanWriteAll pos whole → CanWriteAll pos xs
first_can xs ys whole pos split can = (can_split pos xs ys (subst (λ (es : List Stamped). CanWriteAll pos es) split can)).0

pub second_can : (xs ys whole : List Stamped) (from mid : Header) (old out : List ℕ) → whole ≡ xs ++ ys → CanWriteAll from.pos whole → Wrote xs from mid old out → CanWriteAll mid.pos ys
second_can xs ys whole from mid old out split can wrote =
    subst (λ (n : ℕ). CanWriteAll n ys) (sym wrote.pos) (can_split from.pos xs ys (subst (λ (es : List Stamped). CanWriteAll from.pos es) split can)).1

-- where the second is not written, what was there stays in front
pub second_fails : (xs : List Stamped) (from mid : Header) (old out new : List ℕ) → Wrote xs from mid old out → BeginsWith new out → BeginsWith new old
second_fails xs from mid old out new wrote more =
    let grown : length out ≡ length old + length (bytes_of from.server_id from.pos xs) = ap length wrote.bytes ∙ length-append old (bytes_of from.server_id from.pos xs) in
    let front : BeginsWith out old = ap (λ (bs : List ℕ). take (length old) bs) wrote.bytes ∙ take_at old (bytes_of from.server_id from.pos xs) (length old) refl in
    begins_before new out old (omega (arith, grown)) front more

pub at_time_append : (stamp : ℕ) (xs ys : List Body) → at_time stamp (xs ++ ys) ≡ at_time stamp xs ++ at_time stamp ys
at_time_append stamp xs ys = map-append (λ b. record { stamp = stamp; body = b }) xs ys

pub total_any : (s t : ℕ) (bs : List Body) → total (at_time s bs) ≡ total (at_time t bs)
total_any s t [] = refl
total_any s t (b ∷ bs) = ap (λ (n : ℕ). size b + n) (total_any s t bs)

-- one event
pub wrote_one : (e : Event) (h : Header) (old new : List ℕ) (start end : ℕ) → CanWriteAll h.pos (one h.stamp e) → new ≡ old ++ event_bytes (body_of e) h → start ≡ length old → end ≡ length new
    → Wrote (one h.stamp e) h (record { stamp = h.stamp; server_id = h.server_id; pos = h.pos + (end - start) }) old new × (h.pos + (end - start) ≤ 1200000000)
wrote_one e h old new start end can grown before behind =
    let size-of : length (event_bytes (body_of e) h) ≡ size (body_of e) = length-event_bytes (body_of e) h in
    let whole : length new ≡ length old + length (event_bytes (body_of e) h) = ap length grown ∙ length-append old (event_bytes (body_of e) h) in
    let count : end - start ≡ size (body_of e) = omega (arith, size-of, whole) in (
      record {
        bytes = grown ∙ ap (λ (bs : List ℕ). old ++ bs) (sym (append-nil (event_bytes (body_of e) h)));
        stamp = refl;
        server = refl;
        pos = omega (arith, count);
      },
      omega (arith, count, can.0.end),
    )

-- the same of a call's answer
pub both_if : {E : Type 0} (xs ys whole : List Stamped) (from mid : Header) (old out new : List ℕ) (r : Result Header E) → whole ≡ xs ++ ys → Wrote xs from mid old out
    → IfOk r (λ to. Wrote ys mid to out new) → IfOk r (λ to. Wrote whole from to old new)
both_if xs ys whole from mid old out new (Ok to) split first second = both xs ys whole from mid to old out new split first second
both_if xs ys whole from mid old out new (Err e) split first second = second

pub fails_if : {E : Type 0} (xs : List Stamped) (from mid : Header) (old out new : List ℕ) (r : Result Header E) → Wrote xs from mid old out → OnErr r (BeginsWith new out) → OnErr r (BeginsWith new old)
fails_if xs from mid old out new (Ok to) first more = more
fails_if xs from mid old out new (Err e) first more = second_fails xs from mid old out new first more
