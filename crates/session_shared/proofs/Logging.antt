-- Entries that are logged.
use Rattle.std.proofs.Common.{◌≡◌, ℕ, List, [], ◌∷◌, ◌++◌, refl, sym, ap, ◌∙◌, subst, append-nil, append_assoc}
use Rattle.std.proofs.lemmas.List.{map-id}
use Rattle.session_model.specs.log_entries.declared.entries.Item.{Item}
use Rattle.session_model.specs.log_entries.declared.entries.Entry.{Entry}
use Rattle.session_model.specs.log_entries.declared.entries.Entry.TheVariants.{Transaction, Definition, LogStart}
use Rattle.session_model.specs.log_model.Log.{LogPlace, behind, counted, counted_all, written_to}
use Rattle.session_model.specs.Running.{entry_by}
use Rattle.waiting_entries.specs.declared.making.Made.{Made}
use Rattle.waiting_entries.specs.declared.waiting.Waiting.{Waiting}
use Rattle.waiting_entries.specs.Waiting.{CanWaitAll, Leaves, all_waiting}
use Rattle.waiting_entries.proofs.Added.{can_go_on, waiting_goes_on}
use Rattle.session_shared.specs.declared.desk.Desk.{Desk}
use Rattle.session_shared.specs.declared.logged.Logged.{Logged}
use Rattle.session_shared.specs.Desk.{place_of}
use Rattle.session_shared.specs.Logging.{Logs, logged}

-- a node has of an entry what the log has
pub same_entry : (e : Entry Item) → entry_by (λ (i : Item). i) e ≡ e
same_entry (Transaction stamp server items) = ap (λ is. Transaction stamp server is) (map-id items)
same_entry (Definition stamp server item) = refl
same_entry (LogStart stamp server) = refl

-- what was made of an entry waits behind what waited before
abbrev pub with_made : Logged → Made → Logged
with_made l made = record { log = l.log; pos = made.end; waiting = l.waiting ++ made.waiting ∷ [] }

pub one_entry : (e : Entry Item) (before after : Logged) (made : Made) (count : ℕ) → after ≡ with_made before made → Leaves e count (place_of before) made
    → (after.waiting ≡ logged (e ∷ []) before.waiting count (place_of before)) × CanWaitAll (e ∷ []) count (place_of before)
one_entry e before after made count is leaves =
    (ap (λ (l : Logged). l.waiting) is ∙ ap (λ (w : Waiting). before.waiting ++ w ∷ []) leaves.waiting, (leaves.can, tt))

pub one_logged : (e : Entry Item) (old new : Desk) (made : Made) → new.log ≡ with_made old.log made → Leaves e old.committed (place_of old.log) made → Logs (e ∷ []) old new
one_logged e old new made is leaves = one_entry e old.log new.log made old.committed is leaves

-- the next entry comes behind it
pub entry_place : (e : Entry Item) (before after : Logged) (made : Made) (count : ℕ) → after ≡ with_made before made → Leaves e count (place_of before) made
    → place_of after ≡ behind e count (place_of before)
entry_place e before after made count is leaves = ap place_of is ∙ sym leaves.next

pub logged_is : (es : List (Entry Item)) (waiting : List Waiting) (count : ℕ) (p : LogPlace) → logged es waiting count p ≡ waiting ++ all_waiting es count p
logged_is [] waiting count p = sym (append-nil waiting)
logged_is (e ∷ es) waiting count p = refl

-- entries behind others
pub logs_on : (front back : List (Entry Item)) (old ran new : Desk) → ran.committed ≡ counted_all front old.committed → place_of ran.log ≡ written_to front old.committed (place_of old.log)
    → Logs front old ran → Logs back ran new → Logs (front ++ back) old new
logs_on front back old ran new count place first second =
    let n : ℕ = old.committed in
    let p : LogPlace = place_of old.log in
    let there : ran.log.waiting ≡ old.log.waiting ++ all_waiting front n p = first.0 ∙ logged_is front old.log.waiting n p in
    let more : all_waiting back ran.committed (place_of ran.log) ≡ all_waiting back (counted_all front n) (written_to front n p) =
    ap (λ (k : ℕ). all_waiting back k (place_of ran.log)) count ∙ ap (all_waiting back (counted_all front n)) place in (
      second.0 ∙ logged_is back ran.log.waiting ran.committed (place_of ran.log) ∙ ap (λ (ws : List Waiting). ran.log.waiting ++ ws) more
          ∙ ap (λ (ws : List Waiting). ws ++ all_waiting back (counted_all front n) (written_to front n p)) there
          ∙ append_assoc old.log.waiting (all_waiting front n p) (all_waiting back (counted_all front n) (written_to front n p))
          ∙ ap (λ (ws : List Waiting). old.log.waiting ++ ws) (sym (waiting_goes_on front back n p))
          ∙ sym (logged_is (front ++ back) old.log.waiting n p),
      can_go_on front back n p first.1
          (subst (λ (q : LogPlace). CanWaitAll back (counted_all front n) q) place
          (subst (λ (k : ℕ). CanWaitAll back k (place_of ran.log)) count second.1)),
    )

-- entries behind one
pub log_on : (e : Entry Item) (es : List (Entry Item)) (old ran new : Desk) → ran.committed ≡ counted e old.committed → place_of ran.log ≡ behind e old.committed (place_of old.log)
    → Logs (e ∷ []) old ran → Logs es ran new → Logs (e ∷ es) old new
log_on e es old ran new count place first second = logs_on (e ∷ []) es old ran new count place first second

-- a desk that nothing was logged on
pub logs_from : (es : List (Entry Item)) (old ran new : Desk) → ran.log ≡ old.log → ran.committed ≡ old.committed → Logs es ran new → Logs es old new
logs_from es old ran new same count logs =
    subst (λ (k : ℕ). (new.log.waiting ≡ logged es old.log.waiting k (place_of old.log)) × CanWaitAll es k (place_of old.log)) count
    (subst (λ (l : Logged). (new.log.waiting ≡ logged es l.waiting ran.committed (place_of l)) × CanWaitAll es ran.committed (place_of l)) same logs)
