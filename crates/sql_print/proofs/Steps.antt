-- A text that grows at its end, piece by piece.
use Rattle.std.proofs.Common.{◌≡◌, ℕ, Bool, true, false, IsTrue, ◌↔◌, List, [], ◌∷◌, ◌++◌, codes, append_assoc, ap, ◌∙◌, refl, Result, Ok, Err, OnOk}
use Rattle.sql_tree.specs.StatementView.{view_sets}
use Rattle.sql_tree.specs.declared.statements.ColumnSet.{ColumnSet}
use Rattle.sql_print.specs.StatementSpelling.{update_text, sets_text}

-- a text is another one with a piece behind it
pub record Grown (out p new : List ℕ) : Type 0 where
  pub is : new ≡ out ++ p

pub start : (out p : List ℕ) {new : List ℕ} → new ≡ out ++ p → Grown out p new
start out p e = record { is = e }

-- one more piece
pub step : {out p prev : List ℕ} (x : List ℕ) {new : List ℕ} → Grown out p prev → new ≡ prev ++ x → Grown out (p ++ x) new
step {out = out} {p = p} x g f = record { is = f ∙ ap (λ z. z ++ x) g.is ∙ append_assoc out p x }

-- the last piece, which may find no memory
pub last : {T E : Type 0} (r : Result T E) {out p prev : List ℕ} (x new : List ℕ) → Grown out p prev → OnOk r (new ≡ prev ++ x) → OnOk r (new ≡ out ++ (p ++ x))
last (Ok u) x new g f = (step x g f).is
last (Err u) x new g f = f

append_none : (p : List ℕ) → p ≡ p ++ []
append_none [] = refl
append_none (b ∷ p) = ap (λ z. b ∷ z) (append_none p)

-- a piece with nothing in it
pub nothing : {out p prev : List ℕ} → Grown out p prev → Grown out (p ++ []) prev
nothing {out = out} {p = p} g = record { is = g.is ∙ ap (λ z. out ++ z) (append_none p) }

-- two pieces as one
pub joined : {out p prev : List ℕ} (x : List ℕ) {new : List ℕ} → Grown out p prev → Grown prev x new → Grown out (p ++ x) new
joined x g h = step x g h.is

-- no item behind ON DUPLICATE KEY UPDATE is no text
pub no_update : (r : Bool) (ss : List ColumnSet) → (IsTrue r ↔ (ss ≡ [])) → r ≡ true → update_text (view_sets ss) ≡ []
no_update r [] h e = refl
no_update r (s ∷ ss) h e = let k = h.0 e in cc

-- and items stand behind it
pub some_update : (r : Bool) (ss : List ColumnSet) → (IsTrue r ↔ (ss ≡ [])) → r ≡ false
    → update_text (view_sets ss) ≡ codes " ON DUPLICATE KEY UPDATE " ++ sets_text (view_sets ss)
some_update r [] h e = let k = h.1 refl in cc
some_update r (s ∷ ss) h e = refl
