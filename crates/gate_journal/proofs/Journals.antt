-- The journal's calls on a disk.
use Rattle.std.proofs.Common.{◌⊎◌, inl, inr, ◌≡◌, ℕ, ◌+◌, ◌<◌, ◌≤◌, ◌^◌, Bool, true, false, max, List, [], ◌∷◌, ◌++◌, length, take, drop, nat_le, Option, Some, None, Result, Ok, Err, refl, sym, ◌∙◌, ap, subst, arith}
use Rattle.std.specs.Prelude.{IfSome, OnOk, MatchBool}
use Rattle.std.proofs.lemmas.List.{drop_all}
use Rattle.std.proofs.lemmas.Bool.{cond-true, le-leb, leb-true, leb-false, cases_lt}
use Rattle.disk_model.specs.Story.{Story, seen, overwritten}
use Rattle.disk_model.specs.Torn.{Torn}
use Rattle.disk_model.specs.Moments.{Only, GoesOn}
use Rattle.disk_model.specs.Claims.{Steps, Puts, Quietly}
use Rattle.disk_model.proofs.Laws.{if_on, if_both, if_all}
use Rattle.disk_model.proofs.Quiet.{quiet_none}
use Rattle.disk_model.proofs.Putting.{steps_map, steps_none}
use Rattle.gate_journal.specs.declared.journal.Journal.{Journal}
use Rattle.gate_journal.specs.Records.{Opened, none_from, records, with_last, framed}
use Rattle.gate_journal.specs.Journal.{IsAtGate, Rests, IsPrepared, HasStaged, IsFound, SameRecords, MaybeOneMore}
use Rattle.gate_journal.proofs.Reading.{records_short, present_gate, ok_is}
use Rattle.gate_journal.proofs.Staging.{stage_torn, stage_done, open_torn, open_done, frame_length}

-- ---- the first gate

abbrev IsShort : Option Story → Journal → Type 0
IsShort t j = (length (seen t j.file) ≤ 1) × (j.gate ≡ 0)

found_fresh : (t : Option Story) (j : Journal) (b : Bool) → b ≡ true → IfSome t (λ _. MatchBool b (IsShort t j) (IsAtGate (seen t j.file) j.gate)) → IfSome t (λ _. IsShort t j)
found_fresh None j b is found = tt
found_fresh (Some s) j true is found = found
found_fresh (Some s) j false is found = cc

found_old : (t : Option Story) (j : Journal) (b : Bool) → b ≡ false → IfSome t (λ _. MatchBool b (IsShort t j) (IsAtGate (seen t j.file) j.gate)) → IfSome t (λ _. IsAtGate (seen t j.file) j.gate)
found_old None j b is found = tt
found_old (Some s) j true is found = cc
found_old (Some s) j false is found = found

first_gate : (file : List ℕ) → length file ≤ 1 → overwritten 0 (0 ∷ []) file ≡ 0 ∷ []
first_gate file le = cond-true (nat_le 0 (length file)) (take 0 file ++ (0 ∷ []) ++ drop 1 file) file (le-leb 0 (length file) (omega arith)) ∙ ap (λ l. 0 ∷ l) (drop_all 1 file le)

at_first : (file : List ℕ) (gate : ℕ) → gate ≡ 0 → file ≡ 0 ∷ [] → IsAtGate file gate
at_first file gate first is = subst (λ l. IsAtGate l gate) (sym is) (subst (λ g. IsAtGate (0 ∷ []) g) (sym first) (record {
  opened = none_from 0;
  is = records_short (0 ∷ []) (omega arith);
  place = refl;
  within = omega arith;
  closed = refl;
}))

module _ (t u : Option Story) (j : Journal) (fresh : j.fresh ≡ true) (found : IsFound t j) where
  told : IfSome t (λ _. IsShort t j)
  told = found_fresh t j j.fresh fresh found.gate

  pub start_steps : Puts t u j.file 0 (0 ∷ []) → Steps t u j.file (SameRecords t j.file)
  start_steps puts = steps_map t u j.file (IsShort t j) (Torn 0 1 (seen t j.file)) (SameRecords t j.file) told
      (λ short c torn. records_short c (omega (arith, torn.no_longer, short.0)) ∙ sym (records_short (seen t j.file) short.0)) puts

  pub start_rests : (k : Journal) → GoesOn t u → Only u j.file (seen u j.file) → IfSome t (λ _. seen u j.file ≡ overwritten 0 (0 ∷ []) (seen t j.file)) → k.file ≡ j.file → k.gate ≡ j.gate → Rests u k
  start_rests k on only reads file gate = record {
    durable = subst (λ f. Only u f (seen u f)) (sym file) only;
    room = omega (arith, found.room, gate);
    gate = subst (λ f. IfSome u (λ _. IsAtGate (seen u f) k.gate)) (sym file) (if_on t u (IsAtGate (seen u j.file) k.gate) (IsAtGate (seen u j.file) k.gate) on
        (if_both t (IsShort t j) (seen u j.file ≡ overwritten 0 (0 ∷ []) (seen t j.file)) (IsAtGate (seen u j.file) k.gate) told reads
        (λ short is. at_first (seen u j.file) k.gate (gate ∙ short.1) (is ∙ first_gate (seen t j.file) short.0))) (λ x. x));
  }

  pub start_records : IfSome t (λ _. seen u j.file ≡ overwritten 0 (0 ∷ []) (seen t j.file)) → IfSome t (λ _. records (seen u j.file) ≡ records (seen t j.file))
  start_records reads = if_both t (IsShort t j) (seen u j.file ≡ overwritten 0 (0 ∷ []) (seen t j.file)) (records (seen u j.file) ≡ records (seen t j.file)) told reads
      (λ short is. ap records (is ∙ first_gate (seen t j.file) short.0) ∙ records_short (0 ∷ []) (omega arith) ∙ sym (records_short (seen t j.file) short.0))

pub rests_found : (t : Option Story) (j : Journal) → j.fresh ≡ false → Only t j.file (seen t j.file) → IsFound t j → Rests t j
rests_found t j old only found = record { durable = only; room = found.room; gate = found_old t j j.fresh old found.gate }

pub no_start : (t : Option Story) (j : Journal) → Only t j.file (seen t j.file) → Steps t t j.file (SameRecords t j.file)
no_start t j only = steps_none t j.file (SameRecords t j.file) only (if_all t (SameRecords t j.file (seen t j.file)) refl)

-- ---- stage

abbrev Here : Option Story → Journal → Type 0
Here t j = IsAtGate (seen t j.file) j.gate

module _ (t u : Option Story) (j : Journal) (ready : List ℕ) (same : ready ≡ j.ready) (rests : Rests t j) where
  pub stage_steps : Puts t u j.file (j.gate + 1) ready → Steps t u j.file (SameRecords t j.file)
  stage_steps puts = steps_map t u j.file (Here t j) (Torn (j.gate + 1) (length ready) (seen t j.file)) (SameRecords t j.file) rests.gate
      (λ here c torn. stage_torn (seen t j.file) c j.gate (length ready) here torn) puts

  now_is : seen u j.file ≡ overwritten (j.gate + 1) ready (seen t j.file) → seen u j.file ≡ overwritten (j.gate + 1) j.ready (seen t j.file)
  now_is is = is ∙ ap (λ (p : List ℕ). overwritten (j.gate + 1) p (seen t j.file)) same

  pub stage_records : {A E : Type 0} (r : Result A E) → OnOk r (IfSome t (λ _. seen u j.file ≡ overwritten (j.gate + 1) ready (seen t j.file))) → OnOk r (IfSome t (λ _. records (seen u j.file) ≡ records (seen t j.file)))
  stage_records (Ok x) reads = if_both t (Here t j) (seen u j.file ≡ overwritten (j.gate + 1) ready (seen t j.file)) (records (seen u j.file) ≡ records (seen t j.file)) rests.gate reads
      (λ here is. ap records (now_is is) ∙ (stage_done (seen t j.file) j.ready j.gate here).2)
  stage_records (Err e) reads = tt

  staged_now : (body : List ℕ) → IsPrepared j body → GoesOn t u → Only u j.file (seen u j.file) → IfSome t (λ _. seen u j.file ≡ overwritten (j.gate + 1) ready (seen t j.file)) → j.gate + 1 + length ready < 2 ^ 64 → HasStaged u j body
  staged_now body prepared on only reads room = record {
    rests = record {
      durable = only;
      room = rests.room;
      gate = if_on t u (Here u j) (Here u j) on (if_both t (Here t j) (seen u j.file ≡ overwritten (j.gate + 1) ready (seen t j.file)) (Here u j) rests.gate reads
          (λ here is. subst (λ l. IsAtGate l j.gate) (sym (now_is is)) (stage_done (seen t j.file) j.ready j.gate here).0)) (λ x. x);
    };
    prepared = prepared;
    room = omega (arith, room, ap length same);
    staged = if_on t u (take (length j.ready) (drop (j.gate + 1) (seen u j.file)) ≡ j.ready) (take (length j.ready) (drop (j.gate + 1) (seen u j.file)) ≡ j.ready) on
        (if_both t (Here t j) (seen u j.file ≡ overwritten (j.gate + 1) ready (seen t j.file)) (take (length j.ready) (drop (j.gate + 1) (seen u j.file)) ≡ j.ready) rests.gate reads
        (λ here is. ap (λ l. take (length j.ready) (drop (j.gate + 1) l)) (now_is is) ∙ (stage_done (seen t j.file) j.ready j.gate here).1)) (λ x. x);
  }

  pub stage_stages : {A E : Type 0} (r : Result A E) (body : List ℕ) → IsPrepared j body → GoesOn t u → OnOk r (Only u j.file (seen u j.file))
      → OnOk r (IfSome t (λ _. seen u j.file ≡ overwritten (j.gate + 1) ready (seen t j.file))) → OnOk r (j.gate + 1 + length ready < 2 ^ 64) → OnOk r (HasStaged u j body)
  stage_stages (Ok x) body prepared on only reads room = staged_now body prepared on only reads room
  stage_stages (Err e) body prepared on only reads room = tt

-- ---- open the gate

module _ (t u : Option Story) (j : Journal) (body : List ℕ) (staged : HasStaged t j body) where
  framed_there : take (length j.ready) (drop (j.gate + 1) (seen t j.file)) ≡ j.ready → take (length (framed body)) (drop (j.gate + 1) (seen t j.file)) ≡ framed body
  framed_there is = subst (λ (l : List ℕ). take (length l) (drop (j.gate + 1) (seen t j.file)) ≡ l) staged.prepared.ready is

  abbrev There : Type 0
  There = Here t j × (take (length (framed body)) (drop (j.gate + 1) (seen t j.file)) ≡ framed body)

  there : IfSome t (λ _. There)
  there = if_both t (Here t j) (take (length j.ready) (drop (j.gate + 1) (seen t j.file)) ≡ j.ready) There staged.rests.gate staged.staged (λ here is. (here, framed_there is))

  pub open_steps : Puts t u j.file j.gate (1 ∷ []) → Steps t u j.file (MaybeOneMore t j.file body)
  open_steps puts = steps_map t u j.file There (Torn j.gate 1 (seen t j.file)) (MaybeOneMore t j.file body) there
      (λ x c torn. open_torn (seen t j.file) c body j.gate x.0 staged.prepared.fits x.1 torn) puts

  pub open_records : IfSome t (λ _. seen u j.file ≡ overwritten j.gate (1 ∷ []) (seen t j.file)) → IfSome t (λ _. records (seen u j.file) ≡ with_last body (records (seen t j.file)))
  open_records reads = if_both t There (seen u j.file ≡ overwritten j.gate (1 ∷ []) (seen t j.file)) (records (seen u j.file) ≡ with_last body (records (seen t j.file))) there reads
      (λ x is. ap records is ∙ (open_done (seen t j.file) body j.gate x.0 staged.prepared.fits x.1).0)

  pub open_rests : (k : Journal) → GoesOn t u → Only u j.file (seen u j.file) → IfSome t (λ _. seen u j.file ≡ overwritten j.gate (1 ∷ []) (seen t j.file)) → k.file ≡ j.file → k.gate ≡ j.gate + length j.ready → Rests u k
  open_rests k on only reads file gate =
      let long : length j.ready ≡ 5 + length body = ap length staged.prepared.ready ∙ frame_length body in
      let next : k.gate ≡ j.gate + 5 + length body = omega (arith, gate, long) in
      record {
        durable = subst (λ f. Only u f (seen u f)) (sym file) only;
        room = omega (arith, gate, staged.room);
        gate = subst (λ f. IfSome u (λ _. IsAtGate (seen u f) k.gate)) (sym file) (if_on t u (IsAtGate (seen u j.file) k.gate) (IsAtGate (seen u j.file) k.gate) on
            (if_both t There (seen u j.file ≡ overwritten j.gate (1 ∷ []) (seen t j.file)) (IsAtGate (seen u j.file) k.gate) there reads
            (λ x is. subst (λ l. IsAtGate l k.gate) (sym is) (subst (λ g. IsAtGate (overwritten j.gate (1 ∷ []) (seen t j.file)) g) (sym next)
            (open_done (seen t j.file) body j.gate x.0 staged.prepared.fits x.1).1))) (λ x. x));
      }

-- ---- a journal that was scanned

at_gate_of : (file : List ℕ) (o : Opened) (b : Bool) → nat_le (length file) 1 ≡ b → records file ≡ Ok o → MatchBool b ((length file ≤ 1) × (o.gate ≡ 0)) (IsAtGate file o.gate)
at_gate_of file o true e is = (leb-true (length file) 1 e, ap (λ (p : Opened). p.gate) (ok_is (records file) o (none_from 0) is (records_short file (leb-true (length file) 1 e))))
at_gate_of file o false e is =
    let present = present_gate file o (leb-false (length file) 1 e) is in
    record { opened = o; is = is; place = refl; within = present.0; closed = present.1 }

scanned : (t u : Option Story) (f : ℕ) (file : List ℕ) (o : Opened) (j : Journal) → Quietly t u → IfSome t (λ _. file ≡ seen t f) → records file ≡ Ok o → j.file ≡ f → j.gate ≡ o.gate → j.fresh ≡ nat_le (length file) 1
    → IfSome t (λ _. MatchBool j.fresh ((length (seen u j.file) ≤ 1) × (j.gate ≡ 0)) (IsAtGate (seen u j.file) j.gate))
scanned None u f file o j quiet read is named place fresh = tt
scanned (Some s) u f file o j quiet read is named place fresh =
    let now : file ≡ seen u j.file = read ∙ sym (quiet.reads f) ∙ ap (seen u) (sym named) in
    subst (λ l. MatchBool j.fresh ((length l ≤ 1) × (j.gate ≡ 0)) (IsAtGate l j.gate)) now
    (subst (λ g. MatchBool j.fresh ((length file ≤ 1) × (g ≡ 0)) (IsAtGate file g)) (sym place)
    (subst (λ b. MatchBool b ((length file ≤ 1) × (o.gate ≡ 0)) (IsAtGate file o.gate)) (sym fresh) (at_gate_of file o (nat_le (length file) 1) refl is)))

pub found_scanned : (t u : Option Story) (f : ℕ) (file : List ℕ) (o : Opened) (j : Journal) → Quietly t u → IfSome t (λ _. file ≡ seen t f) → records file ≡ Ok o → o.gate < max 1 (length file) → length file < 2 ^ 64
    → j.file ≡ f → j.gate ≡ o.gate → j.fresh ≡ nat_le (length file) 1 → IsFound u j
found_scanned t u f file o j quiet read is within fits named place fresh = record {
  room = omega (arith, within, fits, place);
  gate = if_on t u (MatchBool j.fresh ((length (seen u j.file) ≤ 1) × (j.gate ≡ 0)) (IsAtGate (seen u j.file) j.gate)) (MatchBool j.fresh ((length (seen u j.file) ≤ 1) × (j.gate ≡ 0)) (IsAtGate (seen u j.file) j.gate))
      quiet.on (scanned t u f file o j quiet read is named place fresh) (λ x. x);
}

-- ---- a journal at the end of what was read

gate_within : (file : List ℕ) (o : Opened) → records file ≡ Ok o → o.gate < max 1 (length file)
gate_within file o is = by_length (cases_lt 1 (length file))
  where
    by_length : (1 < length file) ⊎ (length file ≤ 1) → o.gate < max 1 (length file)
    by_length (inl long) = omega (arith, (present_gate file o long is).0)
    by_length (inr short) = omega (arith, ap (λ (p : Opened). p.gate) (ok_is (records file) o (none_from 0) is (records_short file short)))

pub found_at : (t : Option Story) (f : ℕ) (file : List ℕ) (o : Opened) (gate n : ℕ) (j : Journal) → IfSome t (λ _. file ≡ seen t f) → records file ≡ Ok o → o.gate ≡ gate → n ≡ length file → n < 2 ^ 64
    → j.file ≡ f → j.gate ≡ gate → j.fresh ≡ nat_le n 1 → IsFound t j
found_at t f file o gate n j read is place size fits named at fresh =
    found_scanned t t f file o j (quiet_none t) read is (gate_within file o is) (omega (arith, size, fits)) named (at ∙ sym place) (fresh ∙ ap (λ k. nat_le k 1) size)

pub read_now : (t u : Option Story) (f : ℕ) (file raw : List ℕ) → Quietly t u → raw ≡ file → IfSome t (λ _. file ≡ seen t f) → IfSome u (λ _. raw ≡ seen u f)
read_now t u f file raw quiet same read = if_on t u (file ≡ seen t f) (raw ≡ seen u f) quiet.on read (λ e. same ∙ e ∙ sym (quiet.reads f))
