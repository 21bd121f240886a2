-- Lists in parts, grouped to the left and to the right.
use Rattle.std.proofs.Common.{◌≡◌, ℕ, List, [], ◌∷◌, ◌++◌, ◌∙◌, ap, append_assoc, append-nil, codes}

module _ (a b c d : List ℕ) where
  pub group4 : a ++ b ++ c ++ d ≡ a ++ (b ++ (c ++ d))
  group4 = simp append_assoc

  module _ (e : List ℕ) where
    pub group5 : a ++ b ++ c ++ d ++ e ≡ a ++ (b ++ (c ++ (d ++ e)))
    group5 = simp append_assoc

    module _ (f : List ℕ) where
      pub group6 : a ++ b ++ c ++ d ++ e ++ f ≡ a ++ (b ++ (c ++ (d ++ (e ++ f))))
      group6 = simp append_assoc

      pub group7 : (g : List ℕ) → a ++ b ++ c ++ d ++ e ++ f ++ g ≡ a ++ (b ++ (c ++ (d ++ (e ++ (f ++ g)))))
      group7 g = simp append_assoc

-- three arguments with commas between, and the closing parenthesis
pub arguments_line : (a b c : List ℕ) → (a ++ (44 ∷ 32 ∷ (b ++ (44 ∷ 32 ∷ (c ++ []))))) ++ 41 ∷ [] ≡ a ++ (44 ∷ 32 ∷ (b ++ (44 ∷ 32 ∷ (c ++ 41 ∷ []))))
arguments_line a b c =
    append_assoc a (44 ∷ 32 ∷ (b ++ (44 ∷ 32 ∷ (c ++ [])))) (41 ∷ [])
    ∙ ap (λ z. a ++ (44 ∷ 32 ∷ z)) (append_assoc b (44 ∷ 32 ∷ (c ++ [])) (41 ∷ []) ∙ ap (λ z. b ++ (44 ∷ 32 ∷ z)) (append_assoc c [] (41 ∷ [])))

-- a stored function from its name on: name, parameters, type, body
pub function_line : (n p t w : List ℕ) → n ++ codes "(" ++ p ++ codes ")" ++ (codes " RETURNS " ++ t) ++ codes " " ++ w ≡ (n ++ (40 ∷ ((p ++ 41 ∷ []) ++ (codes " RETURNS " ++ t)))) ++ 32 ∷ w
function_line n p t w = simp append_assoc

-- a procedure: name, parameters, body
pub procedure_line : (n p w : List ℕ) → n ++ codes "(" ++ p ++ codes ")" ++ [] ++ codes " " ++ w ≡ (n ++ (40 ∷ (p ++ 41 ∷ []))) ++ 32 ∷ w
procedure_line n p w = ap (λ z. z ++ codes " " ++ w) (append-nil (n ++ codes "(" ++ p ++ codes ")")) ∙ simp append_assoc

-- a trigger: name, time, event, table, body
pub trigger_line : (n t c o w : List ℕ) → n ++ (32 ∷ (t ++ 32 ∷ [])) ++ (c ++ codes " ON ") ++ o ++ codes " FOR EACH ROW " ++ w
    ≡ (n ++ (32 ∷ (t ++ (32 ∷ (c ++ (32 ∷ (codes "ON " ++ (o ++ (32 ∷ codes "FOR EACH ROW"))))))))) ++ 32 ∷ w
trigger_line n t c o w = simp append_assoc

-- a DECLARE: names, type, DEFAULT
pub declaration_line : (n t d : List ℕ) → codes "DECLARE " ++ n ++ codes " " ++ t ++ d ++ codes "; " ≡ codes "DECLARE " ++ ((n ++ (32 ∷ (t ++ d))) ++ codes "; ")
declaration_line n t d = simp append_assoc
