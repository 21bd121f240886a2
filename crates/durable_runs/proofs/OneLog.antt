-- What entries add to one log, where none of them begins another.
use Rattle.std.proofs.Common.{◌≡◌, ℕ, ◌+◌, eqb, List, [], ◌∷◌, ◌++◌, refl, ◌∙◌, ap}
use Rattle.std.specs.Prelude.{if◌then◌else◌}
use Rattle.std.proofs.lemmas.Bool.{cond-true, eq-eqb}
use Rattle.session_model.specs.log_entries.declared.entries.Item.{Item}
use Rattle.session_model.specs.log_entries.declared.entries.Entry.{Entry}
use Rattle.session_model.specs.log_entries.declared.entries.Entry.TheVariants.{Transaction, Definition, LogStart}
use Rattle.session_model.specs.log_model.Log.{LogPlace, log, head, behind, entry_bytes}
use Rattle.session_model.specs.Machine.{nowhere}
use Rattle.waiting_entries.specs.Added.{added_to}
use Rattle.durable_runs.specs.Laws.{BeginNone}

here : (n : ℕ) (bytes : List ℕ) → (if eqb n n then bytes else []) ≡ bytes
here n bytes = cond-true (eqb n n) bytes [] (eq-eqb n n refl)

pub one_log : (es : List (Entry Item)) (number : ℕ) (p : LogPlace) → BeginNone es → added_to p.log es number p ≡ log es number p
one_log [] number p none = refl
one_log (Transaction stamp server is ∷ es) number p none =
    let next : LogPlace = behind (Transaction stamp server is) number p in
    ap (λ (l : List ℕ). l ++ added_to p.log es (number + 1) next) (here p.log (entry_bytes (Transaction stamp server is) number p))
    ∙ ap (λ (l : List ℕ). entry_bytes (Transaction stamp server is) number p ++ l) (one_log es (number + 1) next none)
one_log (Definition stamp server i ∷ es) number p none =
    let next : LogPlace = behind (Definition stamp server i) number p in
    ap (λ (l : List ℕ). l ++ added_to p.log es (number + 1) next) (here p.log (entry_bytes (Definition stamp server i) number p))
    ∙ ap (λ (l : List ℕ). entry_bytes (Definition stamp server i) number p ++ l) (one_log es (number + 1) next none)
one_log (LogStart stamp server ∷ es) number p none = absurd none

pub first_log : (stamp server : ℕ) (es : List (Entry Item)) → BeginNone es → added_to 1 (LogStart stamp server ∷ es) 0 nowhere ≡ log (LogStart stamp server ∷ es) 0 nowhere
first_log stamp server es none = ap (λ (l : List ℕ). head stamp server ++ l) (one_log es 0 (behind (LogStart stamp server) 0 nowhere) none)
