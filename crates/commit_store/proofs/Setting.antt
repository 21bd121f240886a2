-- What the readers give behind a record is what is held behind it.
use Rattle.std.proofs.Common.{◌≡◌, ℕ, ◌-◌, ◌<◌, ◌==◌, zero, suc, Bool, true, false, List, [], ◌∷◌, ◌++◌, length, Option, Some, None, refl, sym, ◌∙◌, ap, arith}
use Rattle.std.specs.Prelude.{slice_set}
use Rattle.std.specs.Option.{option_map}
use Rattle.store_model.specs.declared.record.Kind.{Kind}
use Rattle.store_model.specs.declared.record.Kind.TheVariants.{Source, Replica}
use Rattle.store_model.specs.declared.record.Head.{Head}
use Rattle.store_model.specs.declared.record.Record.{Record as AnyRecord}
use Rattle.store_model.specs.declared.record.Record.TheVariants.{Transaction, Definition, LogStart, TransactionApplied, DefinitionApplied, PlaceMoved}
use Rattle.store_model.specs.Bodies.{IsRecord}
use Rattle.store_model.specs.Held.{LogEnd, Held, with_last_end, is_next_commit, committed, begins_log, log_begun, next_applied, carried_out, changed, defined_by, where_so, applied}
use Rattle.commit_store.specs.declared.next.Next.TheVariants.{Committed, LogBegun, CarriedOut}
use Rattle.commit_store.specs.declared.store.Store.{Store}
use Rattle.commit_store.specs.Next.{with_last, next_of, passed}
use Rattle.commit_store.specs.Keeping.{HasEnds, positions, Shows}

-- ---- the ends of logs

pub last_positions : (pos : ℕ) (ends : List LogEnd) → positions (with_last_end pos ends) ≡ with_last pos (positions ends)
last_positions pos [] = refl
last_positions pos (e ∷ []) = refl
last_positions pos (e ∷ f ∷ ends) = ap (λ more. e.pos ∷ more) (last_positions pos (f ∷ ends))

pub more_positions : (ends more : List LogEnd) → positions (ends ++ more) ≡ positions ends ++ positions more
more_positions [] more = refl
more_positions (e ∷ ends) more = ap (λ rest. e.pos ∷ rest) (more_positions ends more)

-- ---- what a record makes, by its readers

some_or : {A : Type 0} → A → Option A → A
some_or d (Some x) = x
some_or d None = d

some_is : {A : Type 0} (x y : A) → Some x ≡ Some y → x ≡ y
unfolding some_or
some_is x y e = ap (some_or x) e

so_made : (b : Bool) (x : Option Held) (now : Held) → where_so b x ≡ Some now → x ≡ Some now
so_made true x now e = e
so_made false x now e = cc

-- what is made of some base
record Made {A : Type 0} (make : A → Held) (now : Held) : Type 0 where
  pub from : A
  pub is : now ≡ make from

made_of : {A : Type 0} (make : A → Held) (x : Option A) (now : Held) → option_map make x ≡ Some now → Made make now
made_of make (Some a) now e = record { from = a; is = sym (some_is (make a) now e) }
made_of make None now e = cc

module _ (store : Store) (held now : Held) (shows : Shows store held) where
  -- a commit of a source
  committed_shows : (head : Head) → Made (committed head held) now → Shows (passed (Committed head) store) now
  committed_shows head made = record {
    number = sym (ap (λ (h : Held). h.number) made.is);
    ends = ap (with_last head.pos) shows.ends ∙ sym (last_positions head.pos held.ends) ∙ sym (ap (λ (h : Held). positions h.ends) made.is);
    log = shows.log ∙ sym (ap (λ (h : Held). h.place.log) made.is);
    pos = shows.pos ∙ sym (ap (λ (h : Held). h.place.pos) made.is);
  }

  -- a log that begins
  begun_shows : (head : Head) (old_end : ℕ) → now ≡ log_begun head old_end held → Shows (passed (LogBegun old_end head.pos) store) now
  begun_shows head old_end is = record {
    number = shows.number ∙ sym (ap (λ (h : Held). h.number) is);
    ends =
        ap (λ ends. with_last old_end ends ++ head.pos ∷ []) shows.ends
        ∙ ap (λ ends. ends ++ head.pos ∷ []) (sym (last_positions old_end held.ends))
        ∙ sym (more_positions (with_last_end old_end held.ends) (record { pos = head.pos } ∷ []))
        ∙ sym (ap (λ (h : Held). positions h.ends) is);
    log = shows.log ∙ sym (ap (λ (h : Held). h.place.log) is);
    pos = shows.pos ∙ sym (ap (λ (h : Held). h.place.pos) is);
  }

  -- a step of a replica
  carried_shows : (head : Head) → Made (carried_out head held) now → Shows (passed (CarriedOut head) store) now
  carried_shows head made = record {
    number = sym (ap (λ (h : Held). h.number) made.is);
    ends = shows.ends ∙ sym (ap (λ (h : Held). positions h.ends) made.is);
    log = sym (ap (λ (h : Held). h.place.log) made.is);
    pos = sym (ap (λ (h : Held). h.place.pos) made.is);
  }

  pub passed_shows : (r : AnyRecord) → applied r held ≡ Some now → Shows (passed (next_of r) store) now
  unfolding applied
  passed_shows (Transaction head cs) e = committed_shows head (made_of (committed head held) (changed cs held.base) now (so_made (is_next_commit head held) (option_map (committed head held) (changed cs held.base)) now e))
  passed_shows (Definition head text) e = committed_shows head (made_of (committed head held) (defined_by text held.base) now (so_made (is_next_commit head held) (option_map (committed head held) (defined_by text held.base)) now e))
  passed_shows (LogStart head old_end) e = begun_shows head old_end (sym (some_is (log_begun head old_end held) now (so_made (begins_log head old_end held) (Some (log_begun head old_end held)) now e)))
  passed_shows (TransactionApplied head cs) e =
      carried_shows head (made_of (carried_out head held) (changed cs held.base) now (so_made (head.number == next_applied held.number) (option_map (carried_out head held) (changed cs held.base)) now e))
  passed_shows (DefinitionApplied head text) e =
      carried_shows head (made_of (carried_out head held) (defined_by text held.base) now (so_made (head.number == next_applied held.number) (option_map (carried_out head held) (defined_by text held.base)) now e))
  passed_shows (PlaceMoved head) e =
      let is : now ≡ carried_out head held held.base = sym (some_is (carried_out head held held.base) now (so_made (head.number == held.number) (Some (carried_out head held held.base)) now e)) in
      carried_shows head (record { from = held.base; is = is })

-- ---- whose ends they are

pub own_after : (kind : Kind) (held now : Held) (r : AnyRecord) → IsRecord kind r → HasEnds kind held.ends → applied r held ≡ Some now → HasEnds kind now.ends
unfolding applied
own_after Source held now r form own e = tt
own_after Replica held now (Transaction head cs) form own e = absurd form
own_after Replica held now (Definition head text) form own e = absurd form
own_after Replica held now (LogStart head old_end) form own e = absurd form
own_after Replica held now (TransactionApplied head cs) form own e =
    let made = made_of (carried_out head held) (changed cs held.base) now (so_made (head.number == next_applied held.number) (option_map (carried_out head held) (changed cs held.base)) now e) in
    ap (λ (h : Held). h.ends) made.is ∙ own
own_after Replica held now (DefinitionApplied head text) form own e =
    let made = made_of (carried_out head held) (defined_by text held.base) now (so_made (head.number == next_applied held.number) (option_map (carried_out head held) (defined_by text held.base)) now e) in
    ap (λ (h : Held). h.ends) made.is ∙ own
own_after Replica held now (PlaceMoved head) form own e =
    ap (λ (h : Held). h.ends) (sym (some_is (carried_out head held held.base) now (so_made (head.number == held.number) (Some (carried_out head held held.base)) now e))) ∙ own

-- ---- the code's ends

last_set : (pos : ℕ) (ends : List ℕ) (n : ℕ) → length ends ≡ suc n → slice_set ends n pos ≡ with_last pos ends
last_set pos [] n is = absurd (omega (arith, is))
last_set pos (e ∷ []) zero is = refl
last_set pos (e ∷ []) (suc n) is = absurd (omega (arith, is))
last_set pos (e ∷ f ∷ ends) zero is = absurd (omega (arith, is))
last_set pos (e ∷ f ∷ ends) (suc n) is = ap (λ more. e ∷ more) (last_set pos (f ∷ ends) n (omega (arith, is)))

pub set_last : (pos count : ℕ) (ends : List ℕ) → count ≡ length ends → 0 < count → slice_set ends (count - 1) pos ≡ with_last pos ends
set_last pos count ends is some = last_set pos ends (count - 1) (omega (arith, is))
