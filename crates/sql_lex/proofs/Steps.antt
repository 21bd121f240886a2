-- Steps of the loops over bytes.
use Rattle.std.proofs.Common.{◌≡◌, ℕ, ◌+◌, ◌-◌, ◌*◌, ◌<◌, ◌≤◌, min, Bool, false, List, [], ◌∷◌, length, get_or, drop, Option, Some, None, refl, sym, ap, ◌∙◌, arith, add-one, drop-cons}
use Rattle.sql_lex.specs.Quotes.{further, leads, closes, closing_from}
use Rattle.sql_lex.specs.Blanks.{closes_block, block_length}
use Rattle.sql_lex.specs.Begins.{number_from}

further_more : (i : ℕ) (o : Option ℕ) → further i (further 1 o) ≡ further (i + 1) o
further_more i None = refl
further_more i (Some k) = ap Some (omega arith)

module _ (text : List ℕ) (i : ℕ) (within : i < length text) where
  here : drop i text ≡ get_or text i 0 ∷ drop (i + 1) text
  here = rw (add-one, drop-cons text i 0 within) refl

  pub closing_step : (quote : ℕ) (held : Bool) (o : Option ℕ) → closes quote held (get_or text i 0) (drop (i + 1) text) ≡ false
      → further i (closing_from quote held (drop i text)) ≡ o → further (i + 1) (closing_from quote (leads quote held (get_or text i 0)) (drop (i + 1) text)) ≡ o
  closing_step quote held o e h =
      let step : closing_from quote held (get_or text i 0 ∷ drop (i + 1) text) ≡ further 1 (closing_from quote (leads quote held (get_or text i 0)) (drop (i + 1) text)) = rw e refl in
      sym (further_more i (closing_from quote (leads quote held (get_or text i 0)) (drop (i + 1) text)))
      ∙ (ap (further i) (sym step) ∙ (ap (λ us. further i (closing_from quote held us)) (sym here) ∙ h))

  pub block_step : (o : Option ℕ) → closes_block (get_or text i 0) (drop (i + 1) text) ≡ false
      → further i (block_length (drop i text)) ≡ o → further (i + 1) (block_length (drop (i + 1) text)) ≡ o
  block_step o e h =
      let step : block_length (get_or text i 0 ∷ drop (i + 1) text) ≡ further 1 (block_length (drop (i + 1) text)) = rw e refl in
      sym (further_more i (block_length (drop (i + 1) text))) ∙ (ap (further i) (sym step) ∙ (ap (λ us. further i (block_length us)) (sym here) ∙ h))

-- a number grows with each digit
number_above : (n : ℕ) (ds : List ℕ) → n ≤ number_from n ds
number_above n [] = omega arith
number_above n (d ∷ ds) = let h = number_above (10 * n + (d - 48)) ds in omega arith

pub number_large : (ds : List ℕ) (i n m : ℕ) → i < length ds → 922337203685477580 < n → number_from n (drop i ds) ≡ m → 9223372036854775809 ≡ min m 9223372036854775809
number_large ds i n m within large e =
    let read : number_from n (get_or ds i 0 ∷ drop (i + 1) ds) ≡ m = ap (number_from n) (sym (here ds i within)) ∙ e in
    let h = number_above (10 * n + (get_or ds i 0 - 48)) (drop (i + 1) ds) in
    omega arith
