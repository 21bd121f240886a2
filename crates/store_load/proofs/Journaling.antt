-- The records of a journal applied, one by one.
use Rattle.std.proofs.Common.{◌≡◌, ℕ, ◌+◌, ◌-◌, zero, suc, List, [], ◌∷◌, length, take, drop, Some, None, Result, Ok, Err, refl, sym, ◌∙◌, ap, arith}
use Rattle.gate_journal.specs.declared.record.NextRecord.TheVariants.{End, Record, Damaged}
use Rattle.gate_journal.specs.Records.{Opened, record_at, none_from, with_first, and_behind, records_from, records}
use Rattle.store_model.specs.declared.record.Kind.{Kind}
use Rattle.store_model.specs.Held.{body_applied}
use Rattle.store_model.specs.Stores.{gone_on, by_next, applied_from, journal_applied}
use Rattle.store_load.specs.declared.stored.Stored.{Stored}
use Rattle.store_load.specs.Loading.{GoesOn, held_in}

-- ---- what goes on

pub goes_nowhere : (s : Stored) → s.work.changes ≡ [] → GoesOn s s
goes_nowhere s none = record { reads = record { node = refl; generation = refl; changes = none; own = λ is. refl; few = λ few. few }; journal = refl }

pub goes_further : (r s t : Stored) → GoesOn r s → GoesOn s t → GoesOn r t
goes_further r s t p q = record {
  reads = record {
    node = q.reads.node ∙ p.reads.node;
    generation = q.reads.generation ∙ p.reads.generation;
    changes = q.reads.changes;
    own = λ is. q.reads.own (p.reads.node ∙ is) ∙ p.reads.own is;
    few = λ few. q.reads.few (p.reads.few few);
  };
  journal = q.journal ∙ p.journal;
}

-- ---- so far

-- what was applied, in front of what is still to be, by this fuel
pub record Applied (bytes : List ℕ) (fuel gate : ℕ) (first now : Stored) : Type 0 where
  pub held : journal_applied first.node bytes (held_in first) ≡ applied_from first.node fuel bytes gate (held_in now)
  pub opened : (o : Opened) → records_from fuel bytes gate ≡ Ok o → (p : Opened) × (records bytes ≡ Ok p) × (p.gate ≡ o.gate)
  pub goes : GoesOn first now

pub none_applied : (bytes : List ℕ) (s : Stored) → s.work.changes ≡ [] → Applied bytes (length bytes - 0) 0 s s
unfolding journal_applied records
none_applied bytes s none =
    let all : length bytes - 0 ≡ length bytes = omega arith in
    record {
      held = ap (λ n. applied_from s.node n bytes 0 (held_in s)) (sym all);
      opened = λ o is. (o, ap (λ n. records_from n bytes 0) (sym all) ∙ is, refl);
      goes = goes_nowhere s none;
    }

module _ (bytes : List ℕ) (fuel gate : ℕ) (first now : Stored) (so_far : Applied bytes fuel gate first now) where
  -- ---- the end

  end_held : (n : ℕ) → record_at bytes gate ≡ End → applied_from first.node n bytes gate (held_in now) ≡ Ok (held_in now)
  end_held zero is = refl
  end_held (suc n) is = ap (λ r. by_next first.node r bytes gate (applied_from first.node n bytes) (held_in now)) is

  end_opened : (n : ℕ) → record_at bytes gate ≡ End → records_from n bytes gate ≡ Ok (none_from gate)
  end_opened zero is = refl
  end_opened (suc n) is = ap (λ r. and_behind r bytes gate (records_from n bytes)) is

  pub end_is_held : record_at bytes gate ≡ End → journal_applied first.node bytes (held_in first) ≡ Ok (held_in now)
  end_is_held is = so_far.held ∙ end_held fuel is

  pub end_is_opened : record_at bytes gate ≡ End → (p : Opened) × (records bytes ≡ Ok p) × (p.gate ≡ gate)
  end_is_opened is = so_far.opened (none_from gate) (end_opened fuel is)

  pub all_is_held : fuel ≡ 0 → journal_applied first.node bytes (held_in first) ≡ Ok (held_in now)
  all_is_held none = so_far.held ∙ ap (λ n. applied_from first.node n bytes gate (held_in now)) none

  pub all_is_opened : fuel ≡ 0 → (p : Opened) × (records bytes ≡ Ok p) × (p.gate ≡ gate)
  all_is_opened none = so_far.opened (none_from gate) (ap (λ n. records_from n bytes gate) none)

  -- ---- damage

  pub damaged_here : (n : ℕ) → fuel ≡ suc n → record_at bytes gate ≡ Damaged → journal_applied first.node bytes (held_in first) ≡ Err gate
  damaged_here n more is =
      so_far.held ∙ ap (λ m. applied_from first.node m bytes gate (held_in now)) more
      ∙ ap (λ r. by_next first.node r bytes gate (applied_from first.node n bytes) (held_in now)) is

  pub not_applied : (n size : ℕ) (node : Kind) (body : List ℕ) → fuel ≡ suc n → record_at bytes gate ≡ Record size → node ≡ now.node → body ≡ take size (drop (gate + 5) bytes)
      → body_applied node body (held_in now) ≡ None → journal_applied first.node bytes (held_in first) ≡ Err gate
  not_applied n size node body more is own same none =
      so_far.held ∙ ap (λ m. applied_from first.node m bytes gate (held_in now)) more
      ∙ ap (λ r. by_next first.node r bytes gate (applied_from first.node n bytes) (held_in now)) is
      ∙ ap (gone_on gate (applied_from first.node n bytes (gate + 5 + size)))
      (ap (λ b. body_applied first.node b (held_in now)) (sym same)
      ∙ ap (λ (k : Kind). body_applied k body (held_in now)) (sym (own ∙ so_far.goes.reads.node)) ∙ none)

  -- ---- a record more

  with_it : (body : List ℕ) (r : Result Opened ℕ) (o : Opened) → r ≡ Ok o → with_first body gate r ≡ Ok (record { bodies = body ∷ o.bodies; gates = gate ∷ o.gates; gate = o.gate })
  with_it body r o is = ap (with_first body gate) is

  pub one_applied : (n size to : ℕ) (node : Kind) (body : List ℕ) (later : Stored) → fuel ≡ suc n → record_at bytes gate ≡ Record size → node ≡ now.node → body ≡ take size (drop (gate + 5) bytes)
      → to ≡ gate + 5 + size → body_applied node body (held_in now) ≡ Some (held_in later) → GoesOn now later → Applied bytes n to first later
  one_applied n size to node body later more is own same next made goes = record {
    held =
        so_far.held ∙ ap (λ m. applied_from first.node m bytes gate (held_in now)) more
        ∙ ap (λ r. by_next first.node r bytes gate (applied_from first.node n bytes) (held_in now)) is
        ∙ ap (gone_on gate (applied_from first.node n bytes (gate + 5 + size)))
        (ap (λ b. body_applied first.node b (held_in now)) (sym same)
        ∙ ap (λ (k : Kind). body_applied k body (held_in now)) (sym (own ∙ so_far.goes.reads.node)) ∙ made)
        ∙ ap (λ g. applied_from first.node n bytes g (held_in later)) (sym next);
    opened = λ o read. so_far.opened (record { bodies = take size (drop (gate + 5) bytes) ∷ o.bodies; gates = gate ∷ o.gates; gate = o.gate })
        (ap (λ m. records_from m bytes gate) more ∙ ap (λ r. and_behind r bytes gate (records_from n bytes)) is
        ∙ with_it (take size (drop (gate + 5) bytes)) (records_from n bytes (gate + 5 + size)) o (ap (records_from n bytes) (sym next) ∙ read));
    goes = goes_further first now later so_far.goes goes;
  }
