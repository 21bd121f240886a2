-- One more change, and some of them.
use Rattle.std.proofs.Common.{◌≡◌, ◌∙◌, ℕ, zero, suc, ◌+◌, ◌≤◌, List, [], ◌++◌, inl, inr, ap, sym, refl, arith, add-one, append-nil, append_assoc}
use Rattle.std.proofs.lemmas.Bool.{cases_lt}
use Rattle.load_script.specs.Script.{create_text, load_text, session_line, last_lines, turn_lines, turns_lines, turns_text}

pub turns_more : (i : ℕ) → turns_text (i + 1) ≡ turns_text i ++ turn_lines (i + 1)
turns_more i =
    let more : turns_lines (i + 1) ≡ turns_lines i ++ turn_lines (i + 1) = rw add-one refl in
    ap (λ t. session_line create_text ++ t) more ∙ sym (append_assoc (session_line create_text) (turns_lines i) (turn_lines (i + 1)))

-- what stands behind some changes
lines_behind : (i n : ℕ) → i ≤ n → (more : List ℕ) × (turns_lines n ≡ turns_lines i ++ more)
lines_behind i zero within =
    let none : i ≡ 0 = omega arith in
    ([], ap turns_lines (sym none) ∙ sym (append-nil (turns_lines i)))
lines_behind i (suc n) within = elim (cases_lt n i) [
  | inl past ↦ let all : i ≡ suc n = omega arith in ([], ap turns_lines (sym all) ∙ sym (append-nil (turns_lines i)))
  | inr some ↦
      let behind = lines_behind i n some in
      (behind.0 ++ turn_lines (suc n), ap (λ t. t ++ turn_lines (suc n)) behind.1 ∙ append_assoc (turns_lines i) behind.0 (turn_lines (suc n)))
]

-- the script goes on behind some changes
pub goes_on : (i n : ℕ) → i ≤ n → (more : List ℕ) × (load_text n ≡ turns_text i ++ more)
goes_on i n within =
    let behind = lines_behind i n within in
    let first = session_line create_text in
    (behind.0 ++ last_lines, ap (λ t. first ++ t ++ last_lines) behind.1 ∙ ap (λ t. t ++ last_lines) (sym (append_assoc first (turns_lines i) behind.0)) ∙ append_assoc (turns_text i) behind.0 last_lines)
