-- What a replica has carried out, as entries and steps go on.
use Rattle.std.proofs.Common.{◌≡◌, ℕ, List, ◌++◌, length, map, take, Some, sym, ◌∙◌, ap, subst, arith}
use Rattle.std.proofs.lemmas.List.{map-append, length-map, length-append, take-append-le}
use Rattle.session_model.specs.log_entries.declared.entries.Item.{Item}
use Rattle.session_model.specs.log_entries.declared.entries.Entry.{Entry}
use Rattle.session_model.specs.log_entries.Entries.{after}
use Rattle.session_model.specs.log_model.Log.{LogPlace, end_from}
use Rattle.session_model.specs.Machine.{Whole, kept_entry}
use Rattle.session_model.specs.Holding.{changes_of, define}
use Rattle.store_model.specs.declared.record.Record.{Record}
use Rattle.store_model.specs.Held.{Held}
use Rattle.durable_runs.specs.Runs.{behind_steps}
use Rattle.durable_runs.specs.Replicas.{replica_side, IsCarried, AreCarried}
use Rattle.durable_runs.specs.Laws.{CarriedGoesOn}
use Rattle.durable_runs.proofs.States.{states_join}

pub carried_entries : (follows : List (Entry Whole) → Type 0) (before : Held) (es more : List (Entry Whole)) (number : ℕ) (writer : LogPlace) (now : Held)
    → IsCarried follows before es number writer now → IsCarried follows before (es ++ more) number writer now
carried_entries follows before es more number writer now c =
    let same : take c.first (es ++ more) ≡ take c.first es = take-append-le c.first es more c.within in
    let kept : take c.first (map kept_entry (es ++ more)) ≡ take c.first (map kept_entry es) =
    ap (λ (l : List (Entry Item)). take c.first l) (map-append kept_entry es more)
    ∙ take-append-le c.first (map kept_entry es) (map kept_entry more) (omega (arith, c.within, length-map es kept_entry)) in
    record {
      first = c.first;
      within = omega (arith, c.within, length-append es more);
      place = c.place ∙ ap (λ (l : List (Entry Item)). end_from before.place l number writer) (sym kept);
      base = subst (λ (l : List (Entry Whole)). follows l → after changes_of define l before.base ≡ Some now.base) (sym same) c.base;
    }

pub carried_steps : (follows : List (Entry Whole) → Type 0) (before : Held) (es : List (Entry Whole)) (number : ℕ) (writer : LogPlace) (held mid : Held) (front back : List Record)
    → AreCarried follows before es number writer held front → behind_steps replica_side front held ≡ Some mid
    → AreCarried follows before es number writer mid back → AreCarried follows before es number writer held (front ++ back)
carried_steps follows before es number writer held mid front back first made rest =
    states_join (IsCarried follows before es number writer) held mid front back first made rest

-- whatever makes entries do the same at every replica
pub carried_goes_on : (follows : List (Entry Whole) → Type 0) → CarriedGoesOn follows
carried_goes_on follows = record { entries = carried_entries follows; steps = carried_steps follows }
