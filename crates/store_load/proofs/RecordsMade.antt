-- A record applied: its test, the base that it makes, and what is held behind it.
use Rattle.std.proofs.Common.{◌≡◌, ℕ, ◌+◌, ◌≤◌, ◌==◌, Bool, true, false, ◌&&◌, List, [], ◌∷◌, length, Option, Some, None, Result, Ok, Err, nat_le, length-append, refl, sym, ◌∙◌, ap, arith}
use Rattle.std.specs.Prelude.{IfOk}
use Rattle.std.specs.Option.{option_map}
use Rattle.std.proofs.lemmas.Bool.{and_parts, eqb-true, leb-true}
use Rattle.prog_work.specs.Contents.{Contents, base_of}
use Rattle.store_model.specs.sql_reach.catalog_rules.Bases.{Base}
use Rattle.store_model.specs.declared.record.Kind.{Kind}
use Rattle.store_model.specs.declared.record.Kind.TheVariants.{Source, Replica}
use Rattle.store_model.specs.declared.record.Head.{Head}
use Rattle.store_model.specs.declared.record.Record.{Record as AnyRecord}
use Rattle.store_model.specs.declared.record.Record.TheVariants.{Transaction, Definition, LogStart, TransactionApplied, DefinitionApplied, PlaceMoved}
use Rattle.store_model.specs.Held.{LogEnd, Held, with_last_end, begins_log, where_so, applied, most_committed, most_logs, latest_end, latest_old_end}
use Rattle.store_load.specs.declared.reached.Reached.{Reached}
use Rattle.store_load.specs.declared.stored.Stored.{Stored}
use Rattle.store_load.specs.Whose.{IsOf}
use Rattle.store_load.specs.Loading.{BaseIs, GoesOn, HeldIs, base_made, behind, ends_at, held_in, held_of, is_next}

-- ---- the ends of logs

pub count_ends : (ends : List ℕ) → length (ends_at ends) ≡ length ends
count_ends [] = refl
count_ends (e ∷ ends) = omega (arith, count_ends ends)

count_last : (pos : ℕ) (ends : List LogEnd) → length (with_last_end pos ends) ≡ length ends
count_last pos [] = refl
count_last pos (e ∷ []) = refl
count_last pos (e ∷ f ∷ ends) = omega (arith, count_last pos (f ∷ ends))

-- ---- what a record makes

applied_is : (r : AnyRecord) (h : Held) → applied r h ≡ where_so (is_next r h) (option_map (behind r h) (base_made r h.base))
unfolding applied
applied_is (Transaction head cs) h = refl
applied_is (Definition head text) h = refl
applied_is (LogStart head old_end) h = refl
applied_is (TransactionApplied head cs) h = refl
applied_is (DefinitionApplied head text) h = refl
applied_is (PlaceMoved head) h = refl

pub not_next : (r : AnyRecord) (h : Held) → is_next r h ≡ false → applied r h ≡ None
not_next r h e = applied_is r h ∙ ap (λ (b : Bool). where_so b (option_map (behind r h) (base_made r h.base))) e

made_base : (r : AnyRecord) (s : Stored) (reached : Reached) (work : Contents) (made : Bool) → is_next r (held_in s) ≡ true
    → held_of (base_of work) reached ≡ behind r (held_in s) (base_of work) → BaseIs made (base_made r (base_of s.work)) work
    → HeldIs made (applied r (held_in s)) (held_of (base_of work) reached)
made_base r s reached work true next set is =
    applied_is r (held_in s) ∙ ap (λ (b : Bool). where_so b (option_map (behind r (held_in s)) (base_made r (base_of s.work)))) next
    ∙ ap (option_map (behind r (held_in s))) is.0 ∙ ap (λ (h : Held). Some h) (sym set)
made_base r s reached work false next set is =
    applied_is r (held_in s) ∙ ap (λ (b : Bool). where_so b (option_map (behind r (held_in s)) (base_made r (base_of s.work)))) next
    ∙ ap (option_map (behind r (held_in s))) is

pub held_made : {E : Type 0} (r : AnyRecord) (s : Stored) (reached : Reached) (work : Contents) (result : Result Bool E) → is_next r (held_in s) ≡ true
    → ((base made : Base) → held_of made reached ≡ behind r (held_of base s.reached) made)
    → IfOk result (λ made. BaseIs made (base_made r (base_of s.work)) work) → IfOk result (λ made. HeldIs made (applied r (held_in s)) (held_of (base_of work) reached))
held_made r s reached work (Ok made) next set is = made_base r s reached work made next (set (base_of s.work) (base_of work)) is
held_made r s reached work (Err e) next set is = tt

-- ---- what goes on

begun_few : (head : Head) (old_end : ℕ) (h : Held) → begins_log head old_end h ≡ true → length h.ends + 1 ≤ most_logs
begun_few head old_end h e =
    let a = and_parts (head.number == h.number && nat_le head.number most_committed && head.log == length h.ends + 1 && nat_le head.log most_logs && nat_le head.pos latest_end && nat_le old_end latest_old_end) _ e in
    let b = and_parts (head.number == h.number && nat_le head.number most_committed && head.log == length h.ends + 1 && nat_le head.log most_logs && nat_le head.pos latest_end) _ a.0 in
    let d = and_parts (head.number == h.number && nat_le head.number most_committed && head.log == length h.ends + 1 && nat_le head.log most_logs) _ b.0 in
    let f = and_parts (head.number == h.number && nat_le head.number most_committed && head.log == length h.ends + 1) (nat_le head.log most_logs) d.0 in
    let k = and_parts (head.number == h.number && nat_le head.number most_committed) (head.log == length h.ends + 1) f.0 in
    omega (arith, eqb-true head.log (length h.ends + 1) k.1, leb-true head.log most_logs f.1)

few_behind : (r : AnyRecord) (h : Held) (base : Base) → is_next r h ≡ true → length h.ends ≤ most_logs → length (behind r h base).ends ≤ most_logs
few_behind (Transaction head cs) h base next few = omega (arith, count_last head.pos h.ends)
few_behind (Definition head text) h base next few = omega (arith, count_last head.pos h.ends)
few_behind (LogStart head old_end) h base next few =
    omega (arith, length-append (with_last_end old_end h.ends) (record { pos = head.pos } ∷ []), count_last old_end h.ends, begun_few head old_end h next)
few_behind (TransactionApplied head cs) h base next few = few
few_behind (DefinitionApplied head text) h base next few = few
few_behind (PlaceMoved head) h base next few = few

-- a replica's record leaves its ends
own_behind : (kind : Kind) (r : AnyRecord) (h : Held) (base : Base) → kind ≡ Replica → IsOf kind r → (behind r h base).ends ≡ h.ends
own_behind Source r h base is of = cc
own_behind Replica (Transaction head cs) h base is of = absurd of
own_behind Replica (Definition head text) h base is of = absurd of
own_behind Replica (LogStart head old_end) h base is of = absurd of
own_behind Replica (TransactionApplied head cs) h base is of = refl
own_behind Replica (DefinitionApplied head text) h base is of = refl
own_behind Replica (PlaceMoved head) h base is of = refl

closed_by : (made : Bool) (o : Option Base) (work : Contents) → made ≡ true → BaseIs made o work → work.changes ≡ []
closed_by true o work e is = is.1
closed_by false o work e is = cc

pub goes_on : {E : Type 0} (r : AnyRecord) (s after : Stored) (result : Result Bool E) → IsOf s.node r → is_next r (held_in s) ≡ true → after.node ≡ s.node → after.generation ≡ s.generation
    → after.journal ≡ s.journal → ((base made : Base) → held_of made after.reached ≡ behind r (held_of base s.reached) made)
    → IfOk result (λ made. BaseIs made (base_made r (base_of s.work)) after.work) → IfOk result (λ made. made ≡ true → GoesOn s after)
goes_on r s after (Ok made) of next node generation journal set is = λ yes.
    let base = base_of s.work in
    let ends : ends_at after.reached.ends ≡ (behind r (held_in s) base).ends = ap (λ (h : Held). h.ends) (set base base) in
    record {
      reads = record {
        node = node;
        generation = generation;
        changes = closed_by made (base_made r (base_of s.work)) after.work yes is;
        own = λ replica. ends ∙ own_behind s.node r (held_in s) base replica of;
        few = λ few. omega (arith, ap (λ (es : List LogEnd). length es) ends, count_ends after.reached.ends, few_behind r (held_in s) base next (omega (arith, count_ends s.reached.ends)));
      };
      journal = journal;
    }
goes_on r s after (Err e) of next node generation journal set is = tt
