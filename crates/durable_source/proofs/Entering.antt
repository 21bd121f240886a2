-- What the entries of a command leave can be written, where the run holds and each can wait where it comes.
use Rattle.std.proofs.Common.{◌≡◌, ℕ, List, [], ◌∷◌, ◌++◌, map, Option, Some, None, refl, sym, ◌∙◌, ap, subst}
use Rattle.std.specs.Option.{option_map, option_and_then}
use Rattle.session_model.specs.log_entries.declared.entries.Item.{Item}
use Rattle.session_model.specs.log_entries.declared.entries.Entry.{Entry}
use Rattle.session_model.specs.log_entries.declared.entries.Entry.TheVariants.{Transaction, Definition, LogStart}
use Rattle.session_model.specs.log_entries.Entries.{after, entry_applied}
use Rattle.session_model.specs.log_model.Log.{LogPlace, behind, counted}
use Rattle.session_model.specs.catalog_rules.Bases.{Base}
use Rattle.session_model.specs.Machine.{Whole, kept_of, kept_entry}
use Rattle.session_model.specs.Holding.{EntriesMade, changes_of, define}
use Rattle.store_model.specs.Held.{Held}
use Rattle.store_model.specs.Entries.{IsWithin, held_behind, writer_at}
use Rattle.store_model.specs.Laws.{HasLog}
use Rattle.store_checkpoints.specs.store_source.durable_runs.Laws.{HasFirstLog}
use Rattle.store_checkpoints.specs.store_source.durable_runs.Sources.{AreWithin, Stored, held_after}
use Rattle.store_checkpoints.proofs.of_store_source.of_durable_runs.Storing.{stored_is, stored_some}
use Rattle.source_node.specs.session_shared.waiting_entries.binlog_items.log_entry_laws.Entries.{CanLogAll}
use Rattle.source_node.specs.session_shared.waiting_entries.Waiting.{CanWaitAll, FitsStore, HaveBodies}

-- ---- bases

appended : (es back : List (Entry Whole)) (first : Option Base)
    → ((base : Base) → after changes_of define (es ++ back) base ≡ option_and_then (after changes_of define back) (after changes_of define es base))
    → option_and_then (after changes_of define (es ++ back)) first ≡ option_and_then (after changes_of define back) (option_and_then (after changes_of define es) first)
appended es back None rest = refl
appended es back (Some made) rest = rest made

after_append : (front back : List (Entry Whole)) (base : Base)
    → after changes_of define (front ++ back) base ≡ option_and_then (after changes_of define back) (after changes_of define front base)
after_append [] back base = refl
after_append (e ∷ es) back base = appended es back (entry_applied changes_of define e base) (after_append es back)

-- where a base is made of all entries, it is made of the later ones
pub later_base : (front back : List (Entry Whole)) (base mid now : Base) → after changes_of define (front ++ back) base ≡ Some now → after changes_of define front base ≡ Some mid
    → after changes_of define back mid ≡ Some now
later_base front back base mid now whole first =
    sym (after_append front back base ∙ ap (option_and_then (after changes_of define back)) first) ∙ whole

one_leads : (e : Entry Whole) (es : List (Entry Whole)) (held : Held) (base : Base) (first : Option Base)
    → ((next : Held) → after changes_of define es next.base ≡ Some base → (now : Held) × (held_after es next ≡ Some now))
    → option_and_then (after changes_of define es) first ≡ Some base
    → (now : Held) × (option_and_then (held_after es) (option_map (held_behind kept_of changes_of define e held) first) ≡ Some now)
one_leads e es held base None rest is = cc
one_leads e es held base (Some made) rest is = rest (held_behind kept_of changes_of define e held made) is

-- a store has something behind entries that a base can be made of
pub leads_on : (es : List (Entry Whole)) (held : Held) (base : Base) → after changes_of define es held.base ≡ Some base → (now : Held) × (held_after es held ≡ Some now)
leads_on [] held base is = (held, refl)
leads_on (e ∷ es) held base is = one_leads e es held base (entry_applied changes_of define e held.base) (λ next. leads_on es next base) is

pub later_made : (front back : List (Entry Whole)) → EntriesMade (front ++ back) → EntriesMade back
later_made [] back made = made
later_made (e ∷ es) back made = later_made es back made.1

-- ---- what a store may have

fits_within : (e : Entry Item) (held : Held) → FitsStore e held.number (writer_at held) → IsWithin e held
fits_within (Transaction stamp server is) held fits = fits
fits_within (Definition stamp server i) held fits = fits
fits_within (LogStart stamp server) held fits = fits

has_log : (e : Entry Item) (held : Held) → FitsStore e held.number (writer_at held) → HasLog e held
has_log (Transaction stamp server is) held fits = fits.1.0
has_log (Definition stamp server i) held fits = fits.1.0
has_log (LogStart stamp server) held fits = tt

-- the first of them finds a log or begins one
pub first_fits : (es : List (Entry Whole)) (held : Held) → CanWaitAll (map kept_entry es) held.number (writer_at held) → HasFirstLog es held
first_fits [] held can = tt
first_fits (e ∷ es) held can = has_log (kept_entry e) held can.0.1.1

-- the logs do not matter here
abbrev without_logs : Held → Stored
without_logs held = record { held = held; logs = λ n. [] }

next_can : (e : Entry Whole) (es : List (Entry Whole)) (held now : Held) → CanWaitAll (map kept_entry (e ∷ es)) held.number (writer_at held) → held_after (e ∷ []) held ≡ Some now
    → CanWaitAll (map kept_entry es) now.number (writer_at now)
next_can e es held now can is =
    let made = stored_some (e ∷ []) (without_logs held) now is in
    let b = stored_is (e ∷ []) (without_logs held) made.0 (has_log (kept_entry e) held can.0.1.1) made.1.0 in
    let number : counted (kept_entry e) held.number ≡ now.number = sym b.number ∙ ap (λ (h : Held). h.number) made.1.1 in
    let writer : behind (kept_entry e) held.number (writer_at held) ≡ writer_at now = sym b.writer ∙ ap writer_at made.1.1 in
    subst (λ (p : LogPlace). CanWaitAll (map kept_entry es) now.number p) writer
    (subst (λ (n : ℕ). CanWaitAll (map kept_entry es) n (behind (kept_entry e) held.number (writer_at held))) number can.1)

pub are_within : (es : List (Entry Whole)) (held : Held) → CanWaitAll (map kept_entry es) held.number (writer_at held) → AreWithin es held
are_within [] held can = tt
are_within (e ∷ es) held can = (fits_within (kept_entry e) held can.0.1.1, λ now is. are_within es now (next_can e es held now can is))

pub have_bodies : (es : List (Entry Item)) (number : ℕ) (p : LogPlace) → CanWaitAll es number p → HaveBodies es number p
have_bodies [] number p can = tt
have_bodies (e ∷ es) number p can = (can.0.1.0, have_bodies es (counted e number) (behind e number p) can.1)

pub can_log_all : (es : List (Entry Item)) (number : ℕ) (p : LogPlace) → CanWaitAll es number p → CanLogAll es number p
can_log_all [] number p can = tt
can_log_all (e ∷ es) number p can = (can.0.0, can_log_all es (counted e number) (behind e number p) can.1)
