-- Entries of one log, and what they put behind it.
use Rattle.std.proofs.Common.{◌≡◌, ◌≤◌, ℕ, ◌+◌, eqb, List, [], ◌∷◌, ◌++◌, length, map, refl, ap, ◌∙◌, arith}
use Rattle.std.specs.Prelude.{if◌then◌else◌, ◌==◌}
use Rattle.std.proofs.lemmas.Bool.{cond-false, ne_eqb}
use Rattle.durable_runs.specs.Laws.{BeginNone}
use Rattle.waiting_entries.specs.Added.{added_to}
use Rattle.run_laws.specs.log_entries.declared.entries.Item.{Item}
use Rattle.run_laws.specs.log_entries.declared.entries.Entry.{Entry}
use Rattle.run_laws.specs.log_entries.declared.entries.Entry.TheVariants.{Transaction, Definition, LogStart}
use Rattle.run_laws.specs.log_model.Log.{LogPlace, behind, entry_bytes, written_to}
use Rattle.run_laws.specs.session_model.Machine.{Whole, kept_entry}
use Rattle.run_laws.specs.run_model.Following.{AreCommitted}
use Rattle.run_laws.specs.Laws.{behind_head}

-- ---- entries that stay in their log

-- transactions and definitions begin none
pub none_begins : (es : List (Entry Whole)) → AreCommitted es → BeginNone (map kept_entry es)
none_begins [] committed = tt
none_begins (Transaction stamp server items ∷ es) committed = none_begins es committed
none_begins (Definition stamp server item ∷ es) committed = none_begins es committed
none_begins (LogStart stamp server ∷ es) committed = committed

-- a writer goes back to no log
log_rises : (es : List (Entry Item)) (number : ℕ) (p : LogPlace) → p.log ≤ (written_to es number p).log
log_rises [] number p = omega arith
log_rises (Transaction stamp server items ∷ es) number p = log_rises es (number + 1) (behind (Transaction stamp server items) number p)
log_rises (Definition stamp server item ∷ es) number p = log_rises es (number + 1) (behind (Definition stamp server item) number p)
log_rises (LogStart stamp server ∷ es) number p = omega (arith, log_rises es number (behind (LogStart stamp server) number p))

-- so that entries are such where the writer stands in the same log behind them
pub stays_in : (es : List (Entry Whole)) (number : ℕ) (p : LogPlace) → (written_to (map kept_entry es) number p).log ≡ p.log → AreCommitted es
stays_in [] number p same = tt
stays_in (Transaction stamp server items ∷ es) number p same = stays_in es (number + 1) (behind (kept_entry (Transaction stamp server items)) number p) same
stays_in (Definition stamp server item ∷ es) number p same = stays_in es (number + 1) (behind (kept_entry (Definition stamp server item)) number p) same
stays_in (LogStart stamp server ∷ es) number p same =
    let up : p.log + 1 ≤ (written_to (map kept_entry es) number (behind (LogStart stamp server) number p)).log = log_rises (map kept_entry es) number (behind (LogStart stamp server) number p) in
    let no : ⊥ = omega (arith, same, up) in no

-- none of them is a head
pub behind_committed : (es : List (Entry Whole)) → AreCommitted es → behind_head es ≡ es
behind_committed [] committed = refl
behind_committed (Transaction stamp server items ∷ es) committed = refl
behind_committed (Definition stamp server item ∷ es) committed = refl
behind_committed (LogStart stamp server ∷ es) committed = absurd committed

-- ---- what they put behind other logs

elsewhere : (n log : ℕ) (bytes : List ℕ) → (n ≡ log → ⊥) → (if n == log then bytes else []) ≡ []
elsewhere n log bytes other = cond-false (eqb n log) bytes [] (ne_eqb n log other)

pub added_none : (n : ℕ) (es : List (Entry Item)) (number : ℕ) (p : LogPlace) → BeginNone es → (n ≡ p.log → ⊥) → added_to n es number p ≡ []
added_none n [] number p none other = refl
added_none n (Transaction stamp server items ∷ es) number p none other =
    let next : LogPlace = behind (Transaction stamp server items) number p in
    ap (λ (l : List ℕ). l ++ added_to n es (number + 1) next) (elsewhere n p.log (entry_bytes (Transaction stamp server items) number p) other)
    ∙ added_none n es (number + 1) next none other
added_none n (Definition stamp server item ∷ es) number p none other =
    let next : LogPlace = behind (Definition stamp server item) number p in
    ap (λ (l : List ℕ). l ++ added_to n es (number + 1) next) (elsewhere n p.log (entry_bytes (Definition stamp server item) number p) other)
    ∙ added_none n es (number + 1) next none other
added_none n (LogStart stamp server ∷ es) number p none other = absurd none

-- ---- bytes

-- without a length there is none
pub no_bytes : (bytes : List ℕ) → length bytes ≡ 0 → bytes ≡ []
no_bytes [] none = refl
no_bytes (b ∷ bs) none = let no : ⊥ = omega (arith, none) in absurd no
