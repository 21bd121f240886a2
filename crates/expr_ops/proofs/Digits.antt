-- The digits of a UUID, as the crate uuid and as the definition write them.
use Rattle.std.proofs.Common.{◌≡◌, ℕ, ◌/◌, ◌%◌, ◌<◌, List, [], ◌∷◌, inl, refl, sym, ap, ◌∙◌, arith}
use Rattle.std.specs.Prelude.{slice_index}
use Rattle.std.specs.Int.{to_be_bytes, w128}
use Rattle.hex.specs.Hex.{lower_digits, encode_lower, encode_with}
use Rattle.uuid.specs.Text.{hex_digit, hyphenated_text, lower, by_index}
use Rattle.uuid.proofs.TextLemmas.{table_at}
use Rattle.value_rules.specs.Identifiers.{uuid_text, uuid_digits, grouped}

cons_same : (x y : ℕ) (xs ys : List ℕ) → x ≡ y → xs ≡ ys → x ∷ xs ≡ y ∷ ys
cons_same x y xs ys e es = cc

-- a digit below 16
digit_same : (d : ℕ) → d < 16 → hex_digit lower d ≡ slice_index lower_digits d
digit_same d small = sym (table_at lower d 0 (inl refl) small)

-- the two digits of a byte
byte_same : (b : ℕ) (xs ys : List ℕ) → b < 256 → xs ≡ ys
    → hex_digit lower (b / 16 % 16) ∷ hex_digit lower (b % 16) ∷ xs ≡ slice_index lower_digits (b / 16) ∷ slice_index lower_digits (b % 16) ∷ ys
byte_same b xs ys small es =
    let high : b / 16 % 16 ≡ b / 16 = omega arith in
    cons_same _ _ _ _ (ap (hex_digit lower) high ∙ digit_same (b / 16) (omega arith))
    (cons_same _ _ _ _ (digit_same (b % 16) (omega arith)) es)

hyphen_same : (xs ys : List ℕ) → xs ≡ ys → 45 ∷ xs ≡ 45 ∷ ys
hyphen_same xs ys es = ap (λ (zs : List ℕ). 45 ∷ zs) es

-- sixteen bytes
bytes_same : (a b c d e f g h i j k l m n o p : ℕ) → a < 256 → b < 256 → c < 256 → d < 256 → e < 256 → f < 256 → g < 256 → h < 256
    → i < 256 → j < 256 → k < 256 → l < 256 → m < 256 → n < 256 → o < 256 → p < 256
    → hyphenated_text lower (a ∷ b ∷ c ∷ d ∷ e ∷ f ∷ g ∷ h ∷ i ∷ j ∷ k ∷ l ∷ m ∷ n ∷ o ∷ p ∷ [])
    ≡ grouped (encode_lower (a ∷ b ∷ c ∷ d ∷ e ∷ f ∷ g ∷ h ∷ i ∷ j ∷ k ∷ l ∷ m ∷ n ∷ o ∷ p ∷ []))
unfolding by_index encode_with
bytes_same a b c d e f g h i j k l m n o p sa sb sc sd se sf sg sh si sj sk sl sm sn so sp =
    byte_same a _ _ sa (byte_same b _ _ sb (byte_same c _ _ sc (byte_same d _ _ sd (hyphen_same _ _
    (byte_same e _ _ se (byte_same f _ _ sf (hyphen_same _ _
    (byte_same g _ _ sg (byte_same h _ _ sh (hyphen_same _ _
    (byte_same i _ _ si (byte_same j _ _ sj (hyphen_same _ _
    (byte_same k _ _ sk (byte_same l _ _ sl (byte_same m _ _ sm (byte_same n _ _ sn (byte_same o _ _ so (byte_same p _ _ sp refl)))))))))))))))))))

-- the bytes of a number
pub uuid_same : (n : ℕ) → hyphenated_text lower (to_be_bytes w128 n) ≡ uuid_text n
unfolding uuid_text uuid_digits
uuid_same n =
    bytes_same _ _ _ _ _ _ _ _ _ _ _ _ _ _ _ _ (omega arith) (omega arith) (omega arith) (omega arith) (omega arith) (omega arith) (omega arith) (omega arith)
    (omega arith) (omega arith) (omega arith) (omega arith) (omega arith) (omega arith) (omega arith) (omega arith)
