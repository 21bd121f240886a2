-- A journal that rests, while another file is worked on.
use Rattle.std.proofs.Common.{◌≡◌, ◌≢◌, ℕ, ◌≤◌, List, [], length, Option, Some, None, sym, ap, ◌∙◌, subst, arith}
use Rattle.std.specs.Prelude.{IfSome}
use Rattle.disk_model.specs.Story.{Story, seen}
use Rattle.disk_model.specs.Moments.{Only}
use Rattle.disk_model.specs.Claims.{Quietly, Steps}
use Rattle.disk_model.proofs.Laws.{if_on, if_both}
use Rattle.disk_model.proofs.Quiet.{quiet_only}
use Rattle.gate_journal.specs.declared.journal.Journal.{Journal}
use Rattle.gate_journal.specs.Journal.{IsAtGate, Rests}

module _ (t u : Option Story) (j : Journal) (rests : Rests t j) where
  gate_still : seen u j.file ≡ seen t j.file → IfSome t (λ _. IsAtGate (seen u j.file) j.gate)
  gate_still same =
      if_both t (IsAtGate (seen t j.file) j.gate) (IsAtGate (seen t j.file) j.gate) (IsAtGate (seen u j.file) j.gate) rests.gate rests.gate
      (λ at again. subst (λ file. IsAtGate file j.gate) (sym same) at)

  -- calls that only look and sync
  pub rests_quiet : Quietly t u → Rests u j
  rests_quiet quiet = record {
    durable = λ c left. rests.durable c (quiet.left j.file c left) ∙ sym (quiet.reads j.file);
    room = rests.room;
    gate = if_on t u (IsAtGate (seen u j.file) j.gate) (IsAtGate (seen u j.file) j.gate) quiet.on (gate_still (quiet.reads j.file)) (λ at. at);
  }

  -- calls on another file
  pub rests_beside : (f : ℕ) (Q : List ℕ → Type 0) → j.file ≢ f → Steps t u f Q → Rests u j
  rests_beside f Q apart steps = record {
    durable = λ c left. rests.durable c (steps.others j.file c apart left) ∙ sym (steps.reads j.file apart);
    room = rests.room;
    gate = if_on t u (IsAtGate (seen u j.file) j.gate) (IsAtGate (seen u j.file) j.gate) steps.on (gate_still (steps.reads j.file apart)) (λ at. at);
  }

-- ---- a log at its end

-- a file that is durable still is behind calls that only look
pub only_still : (t u : Option Story) (f : ℕ) → Quietly t u → Only t f (seen t f) → Only u f (seen u f)
only_still t u f quiet only c left = only c (quiet.left f c left) ∙ sym (quiet.reads f)

-- and as long as it was
pub within_still : (t u : Option Story) (f n : ℕ) → Quietly t u → IfSome t (λ _. n ≡ length (seen t f)) → IfSome u (λ _. n ≤ length (seen u f))
within_still t None f n quiet is = tt
within_still None (Some v) f n quiet is = absurd quiet.on
within_still (Some s) (Some v) f n quiet is = omega (arith, is, ap length (quiet.reads f))

-- ---- a journal without bytes

pub nothing_there : (t u : Option Story) (f : ℕ) (bytes : List ℕ) → Quietly t u → IfSome t (λ _. bytes ≡ seen t f) → bytes ≡ [] → IfSome u (λ _. seen u f ≡ [])
nothing_there t None f bytes quiet read none = tt
nothing_there None (Some v) f bytes quiet read none = absurd quiet.on
nothing_there (Some s) (Some v) f bytes quiet read none = quiet.reads f ∙ sym read ∙ none
