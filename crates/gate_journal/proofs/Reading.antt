-- Reading the records of a file.
use Rattle.std.proofs.Common.{◌≡◌, ℕ, ◌+◌, ◌*◌, ◌<◌, ◌≤◌, zero, suc, Bool, true, false, ◌==◌, cond, max, ◌-◌, List, [], ◌∷◌, ◌++◌, length, take, drop, get_or, nat_le, nat_lt, Result, Ok, Err, refl, sym, ◌∙◌, ap, subst, arith, append_assoc}
use Rattle.std.proofs.lemmas.List.{ext_get_or, length-take, length-drop, get_or-take, get_or-drop}
use Rattle.std.proofs.Math.ListN.{get_or-eq_default}
use Rattle.std.proofs.lemmas.Bool.{cond-true, cond-false, eq-eqb, eqb-true, lt-ltb, ltb-true, leb-true, leb-false, lt-leb, le-leb, cases_Bool}
use Rattle.byteorder.specs.Endian.{little_from}
use Rattle.byte_fields.specs.Field.{number_at}
use Rattle.gate_journal.specs.declared.record.NextRecord.{NextRecord}
use Rattle.gate_journal.specs.declared.record.NextRecord.TheVariants.{End, Record, Damaged}
use Rattle.gate_journal.specs.Records.{Opened, record_at, none_from, with_first, and_behind, records_from, records}

-- ---- bytes that agree

little_agree : (n i : ℕ) (xs ys : List ℕ) → ((k : ℕ) → k < i + n → get_or xs k 0 ≡ get_or ys k 0) → little_from i n xs ≡ little_from i n ys
little_agree zero i xs ys same = refl
little_agree (suc n) i xs ys same =
    ap (λ x. x + 256 * little_from (suc i) n xs) (same i (omega arith))
    ∙ ap (λ x. get_or ys i 0 + 256 * x) (little_agree n (suc i) xs ys (λ k lt. same k (omega arith)))

number_agree : (place : ℕ) (c file : List ℕ) → ((i : ℕ) → i < place + 4 → get_or c i 0 ≡ get_or file i 0) → number_at place 4 c ≡ number_at place 4 file
unfolding number_at
number_agree place c file same = little_agree 4 0 (drop place c) (drop place file) (λ k lt.
    get_or-drop place c k 0 ∙ same (place + k) (omega arith) ∙ sym (get_or-drop place file k 0))

slice_agree : (from size : ℕ) (c file : List ℕ) → from + size ≤ length c → from + size ≤ length file → ((i : ℕ) → i < from + size → get_or c i 0 ≡ get_or file i 0) → take size (drop from c) ≡ take size (drop from file)
slice_agree from size c file le le' same = ext_get_or 0 (take size (drop from c)) (take size (drop from file))
    (omega (arith, length-take size (drop from c), length-take size (drop from file), length-drop from c, length-drop from file))
    (λ i lt.
    let low : i < size = omega (arith, length-take size (drop from c)) in
    get_or-take size (drop from c) i 0 low ∙ get_or-drop from c i 0 ∙ same (from + i) (omega arith) ∙ sym (get_or-drop from file i 0) ∙ sym (get_or-take size (drop from file) i 0 low))

-- ---- what stands at a gate

size_of : NextRecord → ℕ
size_of End = 0
size_of (Record size) = size
size_of Damaged = 0

is_record : NextRecord → Bool
is_record End = false
is_record (Record size) = true
is_record Damaged = false

picked : (a b d : Bool) (s size : ℕ) → cond a End (cond b End (cond d (Record s) Damaged)) ≡ Record size → (a ≡ false) × (b ≡ false) × (d ≡ true) × (s ≡ size)
unfolding size_of is_record
picked true b d s size e = absurd (Rattle.std.proofs.lemmas.Bool.false≢true (ap is_record e))
picked false true d s size e = absurd (Rattle.std.proofs.lemmas.Bool.false≢true (ap is_record e))
picked false false true s size e = (refl, refl, refl, ap size_of e)
picked false false false s size e = absurd (Rattle.std.proofs.lemmas.Bool.false≢true (ap is_record e))

pub record Whole (file : List ℕ) (at size : ℕ) : Type 0 where
  pub long : 1 < length file
  pub open_gate : (get_or file at 0 == 0) ≡ false
  pub size_is : number_at (at + 1) 4 file ≡ size
  pub within : at + 5 + size < length file

pub whole : (file : List ℕ) (at size : ℕ) → record_at file at ≡ Record size → Whole file at size
whole file at size e =
    let p = picked (nat_le (length file) 1) (get_or file at 0 == 0) (nat_lt (at + 5 + number_at (at + 1) 4 file) (length file)) (number_at (at + 1) 4 file) size e in
    let lt = ltb-true (at + 5 + number_at (at + 1) 4 file) (length file) p.2 in
    record {
      long = leb-false (length file) 1 p.0;
      open_gate = p.1;
      size_is = p.3;
      within = omega (arith, lt, p.3);
    }

pub record_is : (file : List ℕ) (at size : ℕ) → 1 < length file → (get_or file at 0 == 0) ≡ false → number_at (at + 1) 4 file ≡ size → at + 5 + size < length file → record_at file at ≡ Record size
record_is file at size long open_gate is within =
    let enough : at + 5 + number_at (at + 1) 4 file < length file = omega (arith, is) in
    cond-false (nat_le (length file) 1) End (cond (get_or file at 0 == 0) End (cond (nat_lt (at + 5 + number_at (at + 1) 4 file) (length file)) (Record (number_at (at + 1) 4 file)) Damaged)) (lt-leb (length file) 1 long)
    ∙ cond-false (get_or file at 0 == 0) End (cond (nat_lt (at + 5 + number_at (at + 1) 4 file) (length file)) (Record (number_at (at + 1) 4 file)) Damaged) open_gate
    ∙ cond-true (nat_lt (at + 5 + number_at (at + 1) 4 file) (length file)) (Record (number_at (at + 1) 4 file)) Damaged (lt-ltb (at + 5 + number_at (at + 1) 4 file) (length file) enough)
    ∙ ap (λ s. Record s) is

closed_step : (a b : Bool) (r : NextRecord) → b ≡ true → cond a End (cond b End r) ≡ End
closed_step true b r e = refl
closed_step false b r e = cond-true b End r e

-- a closed gate, or none at all
pub end_is : (file : List ℕ) (at : ℕ) → get_or file at 0 ≡ 0 → record_at file at ≡ End
end_is file at closed = closed_step (nat_le (length file) 1) (get_or file at 0 == 0) (cond (nat_lt (at + 5 + number_at (at + 1) 4 file) (length file)) (Record (number_at (at + 1) 4 file)) Damaged) (eq-eqb (get_or file at 0) 0 closed)

past_is : (file : List ℕ) (at : ℕ) → length file ≤ at → record_at file at ≡ End
past_is file at le = end_is file at (get_or-eq_default file 0 {n = at} le)

short_is : (file : List ℕ) (at : ℕ) → length file ≤ 1 → record_at file at ≡ End
short_is file at le = cond-true (nat_le (length file) 1) End (cond (get_or file at 0 == 0) End (cond (nat_lt (at + 5 + number_at (at + 1) 4 file) (length file)) (Record (number_at (at + 1) 4 file)) Damaged)) (le-leb (length file) 1 le)

end_step : (a b d : Bool) (s : ℕ) → cond a End (cond b End (cond d (Record s) Damaged)) ≡ End → a ≡ false → b ≡ true
unfolding is_record
end_step a true d s e p = refl
end_step true false d s e p = absurd (Rattle.std.proofs.lemmas.Bool.true≢false p)
end_step false false true s e p = absurd (Rattle.std.proofs.lemmas.Bool.true≢false (ap is_record e))
end_step false false false s e p = cc

-- the gate that is the end is closed
pub end_closed : (file : List ℕ) (at : ℕ) → 1 < length file → record_at file at ≡ End → get_or file at 0 ≡ 0
end_closed file at long e = eqb-true (get_or file at 0) 0
    (end_step (nat_le (length file) 1) (get_or file at 0 == 0) (nat_lt (at + 5 + number_at (at + 1) 4 file) (length file)) (number_at (at + 1) 4 file) e (lt-leb (length file) 1 long))

-- ---- records one behind the other

-- a record more in front of what is read
opened_or : Opened → Result Opened ℕ → Opened
opened_or d (Ok o) = o
opened_or d (Err at) = d

pub record First (body : List ℕ) (gate : ℕ) (r : Result Opened ℕ) (o : Opened) : Type 0 where
  pub rest : Opened
  pub read : r ≡ Ok rest
  pub is : o ≡ record { bodies = body ∷ rest.bodies; gates = gate ∷ rest.gates; gate = rest.gate }

first_ok : (body : List ℕ) (gate : ℕ) (r : Result Opened ℕ) (o : Opened) → with_first body gate r ≡ Ok o → First body gate r o
unfolding opened_or
first_ok body gate (Ok p) o e = record { rest = p; read = refl; is = sym (ap (opened_or o) e) }
first_ok body gate (Err at) o e = cc

pub ok_is : (r : Result Opened ℕ) (o p : Opened) → r ≡ Ok o → r ≡ Ok p → o ≡ p
unfolding opened_or
ok_is r o p e e' = sym (ap (opened_or o) e) ∙ ap (opened_or o) e'

and_more : (n m : ℕ) (r : NextRecord) (file : List ℕ) (at : ℕ) → ((size : ℕ) → records_from n file (at + 5 + size) ≡ records_from m file (at + 5 + size)) → and_behind r file at (records_from n file) ≡ and_behind r file at (records_from m file)
and_more n m End file at same = refl
and_more n m (Record size) file at same = ap (with_first (take size (drop (at + 5) file)) at) (same size)
and_more n m Damaged file at same = refl

-- more fuel than bytes changes nothing
pub fuel : (n m : ℕ) (file : List ℕ) (at : ℕ) → length file ≤ at + n → length file ≤ at + m → records_from n file at ≡ records_from m file at
fuel zero zero file at le le' = refl
fuel zero (suc m) file at le le' = sym (ap (λ r. and_behind r file at (records_from m file)) (past_is file at (omega arith)))
fuel (suc n) zero file at le le' = ap (λ r. and_behind r file at (records_from n file)) (past_is file at (omega arith))
fuel (suc n) (suc m) file at le le' = and_more n m (record_at file at) file at (λ size. fuel n m file (at + 5 + size) (omega arith) (omega arith))

pub records_short : (file : List ℕ) → length file ≤ 1 → records file ≡ Ok (none_from 0)
unfolding records
records_short file le = fuel (length file) 1 file 0 (omega arith) (omega arith) ∙ ap (λ r. and_behind r file 0 (records_from 0 file)) (short_is file 0 le)

-- ---- a file that agrees with another up to its present gate

-- records in front of those that are read
pub onto : Opened → Result Opened ℕ → Result Opened ℕ
onto o (Ok p) = Ok (record { bodies = o.bodies ++ p.bodies; gates = o.gates ++ p.gates; gate = p.gate })
onto o (Err at) = Err at

onto_none : (at : ℕ) (r : Result Opened ℕ) → onto (none_from at) r ≡ r
unfolding onto
onto_none at (Ok p) = refl
onto_none at (Err e) = refl

onto_first : (body : List ℕ) (gate : ℕ) (o : Opened) (r : Result Opened ℕ) → onto (record { bodies = body ∷ o.bodies; gates = gate ∷ o.gates; gate = o.gate }) r ≡ with_first body gate (onto o r)
unfolding onto
onto_first body gate o (Ok p) = refl
onto_first body gate o (Err e) = refl

gate_step : (n : ℕ) (file : List ℕ) (at : ℕ) (o : Opened) (r : NextRecord) → ((at' : ℕ) (o' : Opened) → records_from n file at' ≡ Ok o' → at' ≤ o'.gate) → and_behind r file at (records_from n file) ≡ Ok o → at ≤ o.gate
gate_step n file at o End so_far e = let is = ok_is (Ok (none_from at)) (none_from at) o refl e in omega (arith, ap (λ (p : Opened). p.gate) is)
gate_step n file at o (Record size) so_far e =
    let f = first_ok (take size (drop (at + 5) file)) at (records_from n file (at + 5 + size)) o e in
    let gates : o.gate ≡ f.rest.gate = ap (λ (p : Opened). p.gate) f.is in
    omega (arith, gates, so_far (at + 5 + size) f.rest f.read)
gate_step n file at o Damaged so_far e = cc

-- the present gate is not before the gate that reading began at
pub gate_grows : (n : ℕ) (file : List ℕ) (at : ℕ) (o : Opened) → records_from n file at ≡ Ok o → at ≤ o.gate
gate_grows zero file at o e = let is = ok_is (Ok (none_from at)) (none_from at) o refl e in omega (arith, ap (λ (p : Opened). p.gate) is)
gate_grows (suc n) file at o e = gate_step n file at o (record_at file at) (gate_grows n file) e

-- reading goes through the same records, and goes on at the gate
module _ (file c : List ℕ) (o : Opened) (k : ℕ) (within : o.gate < length c) (long : 1 < length c) (same : (i : ℕ) → i < o.gate → get_or c i 0 ≡ get_or file i 0) (enough : length c ≤ o.gate + k) where
  at_gate : (m at : ℕ) (p : Opened) → p.gate ≡ o.gate → none_from at ≡ p → length c ≤ at + m → records_from m c at ≡ onto p (records_from k c o.gate)
  at_gate m at p place is le =
      let here : at ≡ o.gate = ap (λ (p : Opened). p.gate) is ∙ place in
      fuel m k c at le (omega (arith, here, enough)) ∙ ap (λ g. records_from k c g) here ∙ sym (onto_none at (records_from k c o.gate)) ∙ ap (λ p. onto p (records_from k c o.gate)) is

  through_step : (n m at : ℕ) (p : Opened) (r : NextRecord) → record_at file at ≡ r → p.gate ≡ o.gate → length c ≤ at + suc m → and_behind r file at (records_from n file) ≡ Ok p
      → ((at' : ℕ) (p' : Opened) → records_from n file at' ≡ Ok p' → p'.gate ≡ o.gate → length c ≤ at' + m → records_from m c at' ≡ onto p' (records_from k c o.gate))
      → records_from (suc m) c at ≡ onto p (records_from k c o.gate)
  through_step n m at p End is place le e so_far = at_gate (suc m) at p place (ok_is (Ok (none_from at)) (none_from at) p refl e) le
  through_step n m at p Damaged is place le e so_far = cc
  through_step n m at p (Record size) is place le e so_far =
      let f = first_ok (take size (drop (at + 5) file)) at (records_from n file (at + 5 + size)) p e in
      let w = whole file at size is in
      let last : p.gate ≡ f.rest.gate = ap (λ (p : Opened). p.gate) f.is in
      let grown : at + 5 + size ≤ f.rest.gate = gate_grows n file (at + 5 + size) f.rest f.read in
      let agree : (i : ℕ) → i < at + 5 + size → get_or c i 0 ≡ get_or file i 0 = λ i lt. same i (omega (arith, last, grown, place)) in
      let there : record_at c at ≡ Record size = record_is c at size long
      (ap (λ b. b == 0) (agree at (omega arith)) ∙ w.open_gate)
      (number_agree (at + 1) c file (λ i lt. agree i (omega arith)) ∙ w.size_is)
      (omega (arith, last, grown, place)) in
      let body : take size (drop (at + 5) c) ≡ take size (drop (at + 5) file) = slice_agree (at + 5) size c file (omega (arith, last, grown, place)) (omega (arith, w.within)) agree in
      ap (λ r. and_behind r c at (records_from m c)) there
      ∙ ap (λ b. with_first b at (records_from m c (at + 5 + size))) body
      ∙ ap (λ r. with_first (take size (drop (at + 5) file)) at r) (so_far (at + 5 + size) f.rest f.read (sym last ∙ place) (omega arith))
      ∙ sym (onto_first (take size (drop (at + 5) file)) at f.rest (records_from k c o.gate))
      ∙ ap (λ p. onto p (records_from k c o.gate)) (sym f.is)

  pub through : (n m at : ℕ) (p : Opened) → records_from n file at ≡ Ok p → p.gate ≡ o.gate → length c ≤ at + m → records_from m c at ≡ onto p (records_from k c o.gate)
  through zero m at p e place le = at_gate m at p place (ok_is (Ok (none_from at)) (none_from at) p refl e) le
  through (suc n) zero at p e place le = absurd (omega (arith, gate_grows (suc n) file at p e, place, within))
  through (suc n) (suc m) at p e place le = through_step n m at p (record_at file at) refl place le e (λ at' p' e' place' le'. through n m at' p' e' place' le')

-- the records of a file are those up to another's present gate, and what stands there
pub goes_through : (file c : List ℕ) (o : Opened) → records file ≡ Ok o → o.gate < length c → 1 < length c → ((i : ℕ) → i < o.gate → get_or c i 0 ≡ get_or file i 0)
    → records c ≡ onto o (records_from (length c) c o.gate)
unfolding records
goes_through file c o e within long same = through file c o (length c) within long same (omega arith) (length file) (length c) 0 o e refl (omega arith)

-- ---- what stands at the present gate

onto_end : (o : Opened) → onto o (Ok (none_from o.gate)) ≡ Ok o
unfolding onto
onto_end o = let bodies = Rattle.std.proofs.lemmas.List.append-nil o.bodies in let gates = Rattle.std.proofs.lemmas.List.append-nil o.gates in
    ap (λ bs. Ok (record { bodies = bs; gates = o.gates ++ []; gate = o.gate })) bodies ∙ ap (λ gs. Ok (record { bodies = o.bodies; gates = gs; gate = o.gate })) gates

from_closed : (n : ℕ) (c : List ℕ) (at : ℕ) → get_or c at 0 ≡ 0 → records_from n c at ≡ Ok (none_from at)
from_closed zero c at closed = refl
from_closed (suc n) c at closed = ap (λ r. and_behind r c at (records_from n c)) (end_is c at closed)

-- it is closed: the same records
pub closed_same : (file c : List ℕ) (o : Opened) → records file ≡ Ok o → o.gate < length c → 1 < length c → ((i : ℕ) → i < o.gate → get_or c i 0 ≡ get_or file i 0) → get_or c o.gate 0 ≡ 0 → records c ≡ Ok o
closed_same file c o e within long same closed =
    goes_through file c o e within long same ∙ ap (onto o) (from_closed (length c) c o.gate closed) ∙ onto_end o

-- it is open, with a whole record and a closed gate behind: one more
pub one_more : (file c : List ℕ) (o : Opened) (size : ℕ) → records file ≡ Ok o → 1 < length c → ((i : ℕ) → i < o.gate → get_or c i 0 ≡ get_or file i 0)
    → record_at c o.gate ≡ Record size → get_or c (o.gate + 5 + size) 0 ≡ 0
    → records c ≡ Ok (record { bodies = o.bodies ++ take size (drop (o.gate + 5) c) ∷ []; gates = o.gates ++ o.gate ∷ []; gate = o.gate + 5 + size })
unfolding onto
one_more file c o size e long same there closed =
    let w = whole c o.gate size there in
    goes_through file c o e (omega (arith, w.within)) long same
    ∙ ap (onto o) (fuel (length c) (suc (length c)) c o.gate (omega arith) (omega arith)
    ∙ ap (λ r. and_behind r c o.gate (records_from (length c) c)) there
    ∙ ap (with_first (take size (drop (o.gate + 5) c)) o.gate) (from_closed (length c) c (o.gate + 5 + size) closed))

-- ---- the present gate is closed and in the file

module _ (file : List ℕ) (long : 1 < length file) where
  present_step : (n at : ℕ) (o : Opened) (r : NextRecord) → record_at file at ≡ r → at < length file → length file ≤ at + suc n → and_behind r file at (records_from n file) ≡ Ok o
      → ((at' : ℕ) (o' : Opened) → at' < length file → length file ≤ at' + n → records_from n file at' ≡ Ok o' → (o'.gate < length file) × (get_or file o'.gate 0 ≡ 0))
      → (o.gate < length file) × (get_or file o.gate 0 ≡ 0)
  present_step n at o End is lt le e so_far =
      let here : at ≡ o.gate = ap (λ (p : Opened). p.gate) (ok_is (Ok (none_from at)) (none_from at) o refl e) in
      subst (λ g. (g < length file) × (get_or file g 0 ≡ 0)) here (lt, end_closed file at long is)
  present_step n at o (Record size) is lt le e so_far =
      let f = first_ok (take size (drop (at + 5) file)) at (records_from n file (at + 5 + size)) o e in
      let w = whole file at size is in
      let last : f.rest.gate ≡ o.gate = sym (ap (λ (p : Opened). p.gate) f.is) in
      subst (λ g. (g < length file) × (get_or file g 0 ≡ 0)) last (so_far (at + 5 + size) f.rest (omega (arith, w.within)) (omega arith) f.read)
  present_step n at o Damaged is lt le e so_far = cc

  present : (n at : ℕ) (o : Opened) → at < length file → length file ≤ at + n → records_from n file at ≡ Ok o → (o.gate < length file) × (get_or file o.gate 0 ≡ 0)
  present zero at o lt le e = absurd (omega arith)
  present (suc n) at o lt le e = present_step n at o (record_at file at) refl lt le e (λ at' o' lt' le' e'. present n at' o' lt' le' e')

pub present_gate : (file : List ℕ) (o : Opened) → 1 < length file → records file ≡ Ok o → (o.gate < length file) × (get_or file o.gate 0 ≡ 0)
unfolding records
present_gate file o long e = present file long (length file) 0 o (omega arith) (omega arith) e

-- ---- read one by one

onto_last : (o : Opened) (body : List ℕ) (gate : ℕ) (r : Result Opened ℕ) → onto o (with_first body gate r) ≡ onto (record { bodies = o.bodies ++ body ∷ []; gates = o.gates ++ gate ∷ []; gate = o.gate }) r
unfolding onto
onto_last o body gate (Ok p) =
    ap (λ bs. Ok (record { bodies = bs; gates = o.gates ++ (gate ∷ p.gates); gate = p.gate })) (sym (append_assoc o.bodies (body ∷ []) p.bodies))
    ∙ ap (λ gs. Ok (record { bodies = (o.bodies ++ body ∷ []) ++ p.bodies; gates = gs; gate = p.gate })) (sym (append_assoc o.gates (gate ∷ []) p.gates))
onto_last o body gate (Err at) = refl

-- the records so far in front of what is still to be read, by this fuel
pub record SoFar (bytes : List ℕ) (fuel : ℕ) (bodies : List (List ℕ)) (gates : List ℕ) (gate : ℕ) : Type 0 where
  pub is : records bytes ≡ onto (record { bodies = bodies; gates = gates; gate = gate }) (records_from fuel bytes gate)
  pub within : gate < max 1 (length bytes)

pub none_yet : (bytes : List ℕ) (bodies : List (List ℕ)) (gates : List ℕ) → bodies ≡ [] → gates ≡ [] → SoFar bytes (length bytes - 0) bodies gates 0
unfolding records
none_yet bytes bodies gates p q =
    let all : length bytes - 0 ≡ length bytes = omega arith in
    record {
      is = sym (onto_none 0 (records_from (length bytes) bytes 0)) ∙ ap (λ bs. onto (record { bodies = bs; gates = []; gate = 0 }) (records_from (length bytes) bytes 0)) (sym p)
          ∙ ap (λ gs. onto (record { bodies = bodies; gates = gs; gate = 0 }) (records_from (length bytes) bytes 0)) (sym q)
          ∙ ap (λ n. onto (record { bodies = bodies; gates = gates; gate = 0 }) (records_from n bytes 0)) (sym all);
      within = omega arith;
    }

onto_nothing : (o : Opened) (gate : ℕ) → onto o (Ok (none_from gate)) ≡ Ok (record { bodies = o.bodies; gates = o.gates; gate = gate })
unfolding onto
onto_nothing o gate = let bodies = Rattle.std.proofs.lemmas.List.append-nil o.bodies in let gates = Rattle.std.proofs.lemmas.List.append-nil o.gates in
    ap (λ bs. Ok (record { bodies = bs; gates = o.gates ++ []; gate = gate })) bodies ∙ ap (λ gs. Ok (record { bodies = o.bodies; gates = gs; gate = gate })) gates

from_end : (n : ℕ) (bytes : List ℕ) (gate : ℕ) → record_at bytes gate ≡ End → records_from n bytes gate ≡ Ok (none_from gate)
from_end zero bytes gate is = refl
from_end (suc n) bytes gate is = ap (λ r. and_behind r bytes gate (records_from n bytes)) is

pub ends_at : (bytes : List ℕ) (fuel : ℕ) (bodies : List (List ℕ)) (gates : List ℕ) (gate : ℕ) → SoFar bytes fuel bodies gates gate → record_at bytes gate ≡ End → records bytes ≡ Ok (record { bodies = bodies; gates = gates; gate = gate })
ends_at bytes fuel bodies gates gate so_far is = so_far.is ∙ ap (onto (record { bodies = bodies; gates = gates; gate = gate })) (from_end fuel bytes gate is) ∙ onto_nothing (record { bodies = bodies; gates = gates; gate = gate }) gate

pub ends_all : (bytes : List ℕ) (fuel : ℕ) (bodies : List (List ℕ)) (gates : List ℕ) (gate : ℕ) → SoFar bytes fuel bodies gates gate → fuel ≡ 0 → records bytes ≡ Ok (record { bodies = bodies; gates = gates; gate = gate })
ends_all bytes fuel bodies gates gate so_far none' =
    so_far.is ∙ ap (λ n. onto (record { bodies = bodies; gates = gates; gate = gate }) (records_from n bytes gate)) none' ∙ onto_nothing (record { bodies = bodies; gates = gates; gate = gate }) gate

onto_err : (o : Opened) (at : ℕ) → onto o (Err at) ≡ Err at
unfolding onto
onto_err o at = refl

pub damaged_at : (bytes : List ℕ) (fuel n : ℕ) (bodies : List (List ℕ)) (gates : List ℕ) (gate : ℕ) → SoFar bytes fuel bodies gates gate → fuel ≡ suc n → record_at bytes gate ≡ Damaged → records bytes ≡ Err gate
damaged_at bytes fuel n bodies gates gate so_far more is =
    so_far.is ∙ ap (λ n. onto (record { bodies = bodies; gates = gates; gate = gate }) (records_from n bytes gate)) more
    ∙ ap (λ r. onto (record { bodies = bodies; gates = gates; gate = gate }) (and_behind r bytes gate (records_from n bytes))) is
    ∙ onto_err (record { bodies = bodies; gates = gates; gate = gate }) gate

onto_same : (bs : List (List ℕ)) (gs : List ℕ) (g h : ℕ) (r : Result Opened ℕ) → onto (record { bodies = bs; gates = gs; gate = g }) r ≡ onto (record { bodies = bs; gates = gs; gate = h }) r
unfolding onto
onto_same bs gs g h (Ok p) = refl
onto_same bs gs g h (Err at) = refl

pub one_read : (bytes : List ℕ) (fuel n : ℕ) (bodies bodies' : List (List ℕ)) (gates gates' : List ℕ) (gate size to : ℕ) (body : List ℕ) → SoFar bytes fuel bodies gates gate → fuel ≡ suc n → record_at bytes gate ≡ Record size
    → bodies' ≡ bodies ++ body ∷ [] → body ≡ take size (drop (gate + 5) bytes) → gates' ≡ gates ++ gate ∷ [] → to ≡ gate + 5 + size → SoFar bytes n bodies' gates' to
one_read bytes fuel n bodies bodies' gates gates' gate size to body so_far more is grown same noted next = record {
  is =
      so_far.is ∙ ap (λ n. onto (record { bodies = bodies; gates = gates; gate = gate }) (records_from n bytes gate)) more
      ∙ ap (λ r. onto (record { bodies = bodies; gates = gates; gate = gate }) (and_behind r bytes gate (records_from n bytes))) is
      ∙ onto_last (record { bodies = bodies; gates = gates; gate = gate }) (take size (drop (gate + 5) bytes)) gate (records_from n bytes (gate + 5 + size))
      ∙ onto_gate bodies' gates' gate to (records_from n bytes (gate + 5 + size)) (ap (λ b. bodies ++ b ∷ []) (sym same) ∙ sym grown) (sym noted)
      ∙ ap (λ g. onto (record { bodies = bodies'; gates = gates'; gate = to }) (records_from n bytes g)) (sym next);
  within = let w = whole bytes gate size is in omega (arith, w.within, next);
}
  where
    onto_gate : (bs : List (List ℕ)) (gs : List ℕ) (g h : ℕ) (r : Result Opened ℕ) → (bodies ++ take size (drop (gate + 5) bytes) ∷ []) ≡ bs → (gates ++ gate ∷ []) ≡ gs
        → onto (record { bodies = bodies ++ take size (drop (gate + 5) bytes) ∷ []; gates = gates ++ gate ∷ []; gate = g }) r ≡ onto (record { bodies = bs; gates = gs; gate = h }) r
    onto_gate bs gs g h r p q =
        onto_same (bodies ++ take size (drop (gate + 5) bytes) ∷ []) (gates ++ gate ∷ []) g h r
        ∙ ap (λ b. onto (record { bodies = b; gates = gates ++ gate ∷ []; gate = h }) r) p ∙ ap (λ q. onto (record { bodies = bs; gates = q; gate = h }) r) q
