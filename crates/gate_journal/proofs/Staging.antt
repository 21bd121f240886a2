-- A record staged behind the present gate, and the gate opened: what a crash leaves of the file.
use Rattle.std.proofs.Common.{◌≡◌, ℕ, ◌+◌, ◌<◌, ◌≤◌, ◌^◌, true, false, ◌==◌, List, [], ◌∷◌, ◌++◌, length, take, drop, get_or, nat_le, Ok, sym, ◌∙◌, ap, subst, arith, append_assoc, ◌⊎◌, inl, inr}
use Rattle.std.proofs.lemmas.List.{length-append, length-take, length-drop, get_or-take, get_or-drop, drop-drop, take-append-drop}
use Rattle.std.proofs.Math.Seq.{take-append_seam, drop-append_seam, get_or-append_seam}
use Rattle.std.proofs.lemmas.Bool.{cond-true, le-leb, cases_Bool, cases_lt, eqb-true}
use Rattle.byteorder.specs.Endian.{little_number}
use Rattle.byte_fields.specs.Field.{number_at, number_bytes}
use Rattle.byte_fields.proofs.FieldLaws.{field_again, field_width}
use Rattle.disk_model.specs.Story.{overwritten}
use Rattle.disk_model.specs.Torn.{Torn}
use Rattle.disk_model.proofs.Bytes.{over_length, over_before}
use Rattle.gate_journal.specs.declared.record.NextRecord.TheVariants.{Record}
use Rattle.gate_journal.specs.Records.{record_at, with_last, records, framed}
use Rattle.gate_journal.specs.Journal.{IsAtGate}
use Rattle.gate_journal.proofs.Reading.{record_is, records_short, closed_same, one_more}

-- ---- a file that agrees up to and with the gate

pub same_records : (file c : List ℕ) (gate : ℕ) → IsAtGate file gate → length file ≤ length c → ((i : ℕ) → i < gate + 1 → get_or c i 0 ≡ get_or file i 0) → records c ≡ records file
same_records file c gate here longer same = by_length (cases_lt 1 (length c))
  where
    by_length : (1 < length c) ⊎ (length c ≤ 1) → records c ≡ records file
    by_length (inl long) =
        closed_same file c here.opened here.is (omega (arith, here.place, here.within)) long (λ i lt. same i (omega (arith, here.place)))
        (ap (λ g. get_or c g 0) here.place ∙ same gate (omega arith) ∙ here.closed) ∙ sym here.is
    by_length (inr short) = records_short c short ∙ sym (records_short file (omega arith))

pub still_at_gate : (file c : List ℕ) (gate : ℕ) → IsAtGate file gate → length file ≤ length c → ((i : ℕ) → i < gate + 1 → get_or c i 0 ≡ get_or file i 0) → IsAtGate c gate
still_at_gate file c gate here longer same = record {
  opened = here.opened;
  is = same_records file c gate here longer same ∙ here.is;
  place = here.place;
  within = omega (arith, here.within);
  closed = same gate (omega arith) ∙ here.closed;
}

agree_taken : (n : ℕ) (c file : List ℕ) → take n c ≡ take n file → (i : ℕ) → i < n → get_or c i 0 ≡ get_or file i 0
agree_taken n c file same i lt = sym (get_or-take n c i 0 lt) ∙ ap (λ l. get_or l i 0) same ∙ get_or-take n file i 0 lt

-- staging leaves the records, whatever a crash leaves behind the gate
pub stage_torn : (file c : List ℕ) (gate n : ℕ) → IsAtGate file gate → Torn (gate + 1) n file c → records c ≡ records file
stage_torn file c gate n here torn = same_records file c gate here torn.no_shorter (agree_taken (gate + 1) c file torn.before)

-- ---- a piece over a file

over_is : (at : ℕ) (piece file : List ℕ) → at ≤ length file → overwritten at piece file ≡ take at file ++ piece ++ drop (at + length piece) file
over_is at piece file within = cond-true (nat_le at (length file)) (take at file ++ piece ++ drop (at + length piece) file) file (le-leb at (length file) within)

front_length : (at : ℕ) (piece file : List ℕ) → at ≤ length file → length (take at file) ≡ at
front_length at piece file within = omega (arith, length-take at file)

-- behind its place the piece stands
pub over_piece : (at : ℕ) (piece file : List ℕ) → at ≤ length file → take (length piece) (drop at (take at file ++ piece ++ drop (at + length piece) file)) ≡ piece
over_piece at piece file within =
    let assoc = append_assoc (take at file) piece (drop (at + length piece) file) in
    ap (λ l. take (length piece) (drop at l)) assoc
    ∙ ap (λ n. take (length piece) (drop n (take at file ++ (piece ++ drop (at + length piece) file)))) (sym (front_length at piece file within))
    ∙ ap (take (length piece)) (drop-append_seam (take at file) (piece ++ drop (at + length piece) file))
    ∙ take-append_seam piece (drop (at + length piece) file)

module _ (file ready : List ℕ) (gate : ℕ) (here : IsAtGate file gate) where
  pub stage_done : IsAtGate (overwritten (gate + 1) ready file) gate × (take (length ready) (drop (gate + 1) (overwritten (gate + 1) ready file)) ≡ ready) × (records (overwritten (gate + 1) ready file) ≡ records file)
  stage_done =
      let within : gate + 1 ≤ length file = omega (arith, here.within) in
      let is = over_is (gate + 1) ready file within in
      let longer : length file ≤ length (take (gate + 1) file ++ ready ++ drop (gate + 1 + length ready) file) = omega (arith, over_length (gate + 1) ready file within) in
      let same : (i : ℕ) → i < gate + 1 → get_or (take (gate + 1) file ++ ready ++ drop (gate + 1 + length ready) file) i 0 ≡ get_or file i 0 = over_before (gate + 1) ready file within in
      subst (λ (l : List ℕ). IsAtGate l gate × (take (length ready) (drop (gate + 1) l) ≡ ready) × (records l ≡ records file)) (sym is) (
        still_at_gate file (take (gate + 1) file ++ ready ++ drop (gate + 1 + length ready) file) gate here longer same,
        over_piece (gate + 1) ready file within,
        same_records file (take (gate + 1) file ++ ready ++ drop (gate + 1 + length ready) file) gate here longer same,
      )

-- ---- the gate is opened before a staged record

pub frame_length : (body : List ℕ) → length (framed body) ≡ 5 + length body
frame_length body = omega (arith, length-append (number_bytes 4 (length body) ++ body) (0 ∷ []), length-append (number_bytes 4 (length body)) body, field_width 4 (length body))

module _ (file c body : List ℕ) (gate : ℕ) (here : IsAtGate file gate) (fits : length body < 2 ^ 32) (staged : take (length (framed body)) (drop (gate + 1) file) ≡ framed body)
    (before : (i : ℕ) → i < gate → get_or c i 0 ≡ get_or file i 0) (behind : drop (gate + 1) c ≡ drop (gate + 1) file) where
  rest : List ℕ
  rest = drop (length (framed body)) (drop (gate + 1) file)

  tail_is : drop (gate + 1) c ≡ number_bytes 4 (length body) ++ (body ++ (0 ∷ rest))
  unfolding rest
  tail_is =
      behind ∙ sym (take-append-drop (length (framed body)) (drop (gate + 1) file)) ∙ ap (λ l. l ++ rest) staged
      ∙ append_assoc (number_bytes 4 (length body) ++ body) (0 ∷ []) rest ∙ append_assoc (number_bytes 4 (length body)) body (0 ∷ rest)

  long : gate + 5 + length body < length c
  long =
      let a = ap length tail_is in
      let b = length-append (number_bytes 4 (length body)) (body ++ (0 ∷ rest)) in
      let d = length-append body (0 ∷ rest) in
      omega (arith, a, b, d, field_width 4 (length body), length-drop (gate + 1) c)

  number_is : number_at (gate + 1) 4 c ≡ length body
  unfolding number_at
  number_is = ap (little_number 4) tail_is ∙ field_again 4 (length body) (body ++ (0 ∷ rest)) fits

  body_on : drop (gate + 5) c ≡ body ++ (0 ∷ rest)
  body_on =
      let split : gate + 1 + 4 ≡ gate + 5 = omega arith in
      ap (λ n. drop n c) (sym split) ∙ sym (drop-drop 4 (gate + 1) c) ∙ ap (drop 4) tail_is
      ∙ ap (λ n. drop n (number_bytes 4 (length body) ++ (body ++ (0 ∷ rest)))) (sym (field_width 4 (length body)))
      ∙ drop-append_seam (number_bytes 4 (length body)) (body ++ (0 ∷ rest))

  body_is : take (length body) (drop (gate + 5) c) ≡ body
  body_is = ap (take (length body)) body_on ∙ take-append_seam body (0 ∷ rest)

  next_closed : get_or c (gate + 5 + length body) 0 ≡ 0
  next_closed = sym (get_or-drop (gate + 5) c (length body) 0) ∙ ap (λ l. get_or l (length body) 0) body_on ∙ get_or-append_seam body 0 rest 0

  there : (get_or c gate 0 == 0) ≡ false → record_at c gate ≡ Record (length body)
  there open_gate = record_is c gate (length body) (omega (arith, long)) open_gate number_is long

  pub gate_opened : (get_or c gate 0 == 0) ≡ false → records c ≡ with_last body (records file)
  gate_opened open_gate =
      let more = one_more file c here.opened (length body) here.is (omega (arith, long)) (λ i lt. before i (omega (arith, here.place)))
      (subst (λ g. record_at c g ≡ Record (length body)) (sym here.place) (there open_gate))
      (subst (λ g. get_or c (g + 5 + length body) 0 ≡ 0) (sym here.place) next_closed) in
      more
      ∙ ap (λ b. Ok (record { bodies = here.opened.bodies ++ b ∷ []; gates = here.opened.gates ++ here.opened.gate ∷ []; gate = here.opened.gate + 5 + length body }))
      (ap (λ g. take (length body) (drop (g + 5) c)) here.place ∙ body_is)
      ∙ sym (ap (with_last body) here.is)

  pub next_gate : (get_or c gate 0 == 0) ≡ false → IsAtGate c (gate + 5 + length body)
  next_gate open_gate = record {
    opened = record { bodies = here.opened.bodies ++ body ∷ []; gates = here.opened.gates ++ here.opened.gate ∷ []; gate = here.opened.gate + 5 + length body };
    is = gate_opened open_gate ∙ ap (with_last body) here.is;
    place = ap (λ g. g + 5 + length body) here.place;
    within = long;
    closed = next_closed;
  }

  shut : get_or c gate 0 ≡ 0 → length file ≤ length c → records c ≡ records file
  shut closed longer = same_records file c gate here longer (λ i lt. by_place i lt (cases_lt i gate))
    where
      by_place : (i : ℕ) → i < gate + 1 → (i < gate) ⊎ (gate ≤ i) → get_or c i 0 ≡ get_or file i 0
      by_place i lt (inl low) = before i low
      by_place i lt (inr le) = let is : i ≡ gate = omega arith in ap (λ k. get_or c k 0) is ∙ closed ∙ sym here.closed ∙ sym (ap (λ k. get_or file k 0) is)

  pub either_records : length file ≤ length c → (records c ≡ records file) ⊎ (records c ≡ with_last body (records file))
  either_records longer = by_gate (cases_Bool (get_or c gate 0 == 0))
    where
      by_gate : ((get_or c gate 0 == 0) ≡ true) ⊎ ((get_or c gate 0 == 0) ≡ false) → (records c ≡ records file) ⊎ (records c ≡ with_last body (records file))
      by_gate (inl e) = inl (shut (eqb-true (get_or c gate 0) 0 e) longer)
      by_gate (inr e) = inr (gate_opened e)

-- a crash inside the opening leaves the same records, or one more
pub open_torn : (file c body : List ℕ) (gate : ℕ) → IsAtGate file gate → length body < 2 ^ 32 → take (length (framed body)) (drop (gate + 1) file) ≡ framed body → Torn gate 1 file c
    → (records c ≡ records file) ⊎ (records c ≡ with_last body (records file))
open_torn file c body gate here fits staged torn = either_records file c body gate here fits staged (agree_taken gate c file torn.before) torn.after torn.no_shorter

-- and the opening done is one more
pub open_done : (file body : List ℕ) (gate : ℕ) → IsAtGate file gate → length body < 2 ^ 32 → take (length (framed body)) (drop (gate + 1) file) ≡ framed body
    → (records (overwritten gate (1 ∷ []) file) ≡ with_last body (records file)) × IsAtGate (overwritten gate (1 ∷ []) file) (gate + 5 + length body)
open_done file body gate here fits staged =
    let within : gate ≤ length file = omega (arith, here.within) in
    let is = over_is gate (1 ∷ []) file within in
    let one : get_or (take gate file ++ (1 ∷ []) ++ drop (gate + 1) file) gate 0 ≡ 1 =
    ap (λ l. get_or l gate 0) (append_assoc (take gate file) (1 ∷ []) (drop (gate + 1) file))
    ∙ ap (λ n. get_or (take gate file ++ (1 ∷ drop (gate + 1) file)) n 0) (sym (front_length gate (1 ∷ []) file within)) ∙ get_or-append_seam (take gate file) 1 (drop (gate + 1) file) 0 in
    let opened : (get_or (take gate file ++ (1 ∷ []) ++ drop (gate + 1) file) gate 0 == 0) ≡ false = ap (λ b. b == 0) one in
    let tail : drop (gate + 1) (take gate file ++ (1 ∷ []) ++ drop (gate + 1) file) ≡ drop (gate + 1) file =
    ap (λ n. drop n (take gate file ++ (1 ∷ []) ++ drop (gate + 1) file)) (sym (omega (arith, length-append (take gate file) (1 ∷ []), front_length gate (1 ∷ []) file within)))
    ∙ drop-append_seam (take gate file ++ (1 ∷ [])) (drop (gate + 1) file) in
    subst (λ (l : List ℕ). (records l ≡ with_last body (records file)) × IsAtGate l (gate + 5 + length body)) (sym is) (
      gate_opened file (take gate file ++ (1 ∷ []) ++ drop (gate + 1) file) body gate here fits staged (over_before gate (1 ∷ []) file within) tail opened,
      next_gate file (take gate file ++ (1 ∷ []) ++ drop (gate + 1) file) body gate here fits staged (over_before gate (1 ∷ []) file within) tail opened,
    )
