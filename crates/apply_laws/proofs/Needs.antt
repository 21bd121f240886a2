-- The events before a text: what stands behind them is what they say of it.
use Rattle.std.proofs.Common.{◌≡◌, ℕ, ◌+◌, List, [], ◌∷◌, ◌++◌, Option, Some, None, Ok, refl, ap, ◌∙◌, arith}
use Rattle.val_types.specs.declared.value.Value.{Value}
use Rattle.event_codec.specs.declared.event.IntVarKind.TheVariants.{LastInsertId, InsertId}
use Rattle.event_codec.specs.Event.{Body, int_var, rand, user_var}
use Rattle.event_codec.specs.Writing.{size}
use Rattle.log_entry_laws.specs.log_entries.Variables.{variable_set}
use Rattle.log_entry_laws.specs.log_model.Events.{Placed}
use Rattle.log_entry_laws.specs.log_model.Items.{at_time}
use Rattle.log_entry_laws.specs.log_model.Spelling.{some_of, vars_before}
use Rattle.log_entry_laws.specs.log_model.Written.{Stamped, placed, total}
use Rattle.apply_model.specs.Texts.{Progress, Applier, Needs, no_needs}
use Rattle.apply_model.specs.Groups.{Going, and_then, with_number, with_needs, event_carried, items_carried}
use Rattle.apply_laws.proofs.Carrying.{with_some, with_seeds, with_vars, needs_by}
use Rattle.apply_laws.proofs.Steps.{needing, placed_at}

module _ (a : Applier) (stamp : ℕ) (p : Progress) (more : List Stamped) where
  -- What stands behind the first of some events, where these are still to come: what the text needs, and the bytes so far.
  pub record NeedsRead (all bs : List Body) (pos bytes : ℕ) (before behind : Needs) : Type 0 where
    pub place : ℕ
    pub now : ℕ
    pub carried : items_carried a (placed pos (at_time stamp all ++ more)) (needing p bytes before)
        ≡ items_carried a (placed place (at_time stamp bs ++ more)) (needing p now behind)
    pub same : now + total (at_time stamp bs) ≡ bytes + total (at_time stamp all)

  -- one event, where it stands
  some_read : {X : Type 0} → (event : X → Body) (set : X → Needs → Needs) → ((x : X) (e : Placed) (g : Going) → event_carried a e g (event x) ≡ Ok (with_needs (set x g.needs) g))
      → (o : Option X) (bs : List Body) (pos bytes : ℕ) (needs : Needs) → NeedsRead (some_of event o bs) bs pos bytes needs (with_some set o needs)
  some_read event set step None bs pos bytes needs = record { place = pos; now = bytes; carried = refl; same = refl }
  some_read event set step (Some x) bs pos bytes needs = record {
    place = pos + size (event x);
    now = bytes + size (event x);
    carried = ap (and_then (items_carried a (placed (pos + size (event x)) (at_time stamp bs ++ more))))
        (step x (placed_at pos stamp (event x)) (needing p (bytes + size (event x)) needs));
    same = omega arith;
  }

  vars_read : (vs : List (List ℕ × Value)) (bs : List Body) (pos bytes : ℕ) (needs : Needs) → NeedsRead (vars_before vs bs) bs pos bytes needs (with_vars vs needs)
  vars_read [] bs pos bytes needs = record { place = pos; now = bytes; carried = refl; same = refl }
  vars_read (v ∷ vs) bs pos bytes needs =
      let later = vars_read vs bs (pos + size (user_var v.0 v.1)) (bytes + size (user_var v.0 v.1)) (record needs { vars = variable_set needs.vars v.0 v.1 }) in
      let rest = later.same in
      record { place = later.place; now = later.now; carried = later.carried; same = omega (arith, rest) }

  then_read : (all mid bs : List Body) (pos bytes : ℕ) (before between behind : Needs) → (one : NeedsRead all mid pos bytes before between)
      → NeedsRead mid bs one.place one.now between behind → NeedsRead all bs pos bytes before behind
  then_read all mid bs pos bytes before between behind one later =
      let first = one.same in
      let rest = later.same in
      record { place = later.place; now = later.now; carried = one.carried ∙ later.carried; same = omega (arith, first, rest) }

  module _ (last_id first : Option ℕ) (seeds : Option (ℕ × ℕ)) (vs : List (List ℕ × Value)) (bs : List Body) where
    abbrev with_vars_here : List Body
    with_vars_here = vars_before vs bs

    abbrev with_seeds_here : List Body
    with_seeds_here = some_of (λ (s : ℕ × ℕ). rand s.0 s.1) seeds with_vars_here

    abbrev with_first_here : List Body
    with_first_here = some_of (int_var InsertId) first with_seeds_here

    abbrev needs_last : Needs
    needs_last = with_some (with_number LastInsertId) last_id no_needs

    abbrev needs_first : Needs
    needs_first = with_some (with_number InsertId) first needs_last

    abbrev needs_seeds : Needs
    needs_seeds = with_some with_seeds seeds needs_first

    -- all events before a text
    pub needs_read : (pos bytes : ℕ) → NeedsRead (some_of (int_var LastInsertId) last_id with_first_here) bs pos bytes no_needs (needs_by last_id first seeds vs)
    needs_read pos bytes =
        let one = some_read (int_var LastInsertId) (with_number LastInsertId) (λ n e g. refl) last_id with_first_here pos bytes no_needs in
        let two = some_read (int_var InsertId) (with_number InsertId) (λ n e g. refl) first with_seeds_here one.place one.now needs_last in
        let three = some_read (λ (s : ℕ × ℕ). rand s.0 s.1) with_seeds (λ s e g. refl) seeds with_vars_here two.place two.now needs_first in
        let four = vars_read vs bs three.place three.now needs_seeds in
        then_read (some_of (int_var LastInsertId) last_id with_first_here) with_first_here bs pos bytes no_needs needs_last (needs_by last_id first seeds vs) one
        (then_read with_first_here with_seeds_here bs one.place one.now needs_last needs_first (needs_by last_id first seeds vs) two
        (then_read with_seeds_here with_vars_here bs two.place two.now needs_first needs_seeds (needs_by last_id first seeds vs) three four))
