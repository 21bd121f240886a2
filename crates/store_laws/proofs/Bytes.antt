-- What is read of bytes.
use Rattle.std.proofs.Common.{◌≡◌, ℕ, zero, suc, Bool, true, false, cond, eqb, ltb, List, [], ◌∷◌, length, take, drop, Some, None, ap, subst}
use Rattle.hex.specs.Hex.{IsBytes}
use Rattle.byte_fields.specs.Field.{number_at}
use Rattle.disk_model.proofs.Bytes.{bytes_take, bytes_drop}
use Rattle.std.specs.Int.{w64, cast_signed}
use Rattle.val_types.specs.declared.value.Value.TheVariants.{Null, Int, Text}
use Rattle.store_model.specs.log_model.Images.{Read, and_then}
use Rattle.store_model.specs.Reading.{read_as, to_the_end, number_of, piece_of, text_behind, so_many, all_behind, value_of_kind, value_in, row_in}

-- what is read has P, and bytes stand behind it
abbrev pub Gives : {X : Type 0} → (X → Type 0) → Read X → Type 0
Gives P None = Unit {0}
Gives P (Some r) = P r.0 × IsBytes r.1

-- the same, whatever stands behind it
abbrev pub Says : {X : Type 0} → (X → Type 0) → Read X → Type 0
Says P None = Unit {0}
Says P (Some r) = P r.0

abbrev pub Any : {X : Type 0} → X → Type 0
Any x = Unit {0}

pub gives_either : {X : Type 0} (P : X → Type 0) (b : Bool) (r s : Read X) → Gives P r → Gives P s → Gives P (cond b r s)
gives_either P true r s p q = p
gives_either P false r s p q = q

pub says_either : {X : Type 0} (P : X → Type 0) (b : Bool) (r s : Read X) → Says P r → Says P s → Says P (cond b r s)
says_either P true r s p q = p
says_either P false r s p q = q

pub says_given : {X : Type 0} (P : X → Type 0) (r : Read X) → Gives P r → Says P r
says_given P None p = tt
says_given P (Some r) p = p.0

pub says_any : {X : Type 0} (P : X → Type 0) (r : Read X) → ((x : X) → P x) → Says P r
says_any P None all = tt
says_any P (Some r) all = all r.0

pub then_gives : {X Y : Type 0} (P : X → Type 0) (Q : Y → Type 0) (more : X → List ℕ → Read Y) (r : Read X) → Gives P r
    → ((x : X) (rest : List ℕ) → P x → IsBytes rest → Gives Q (more x rest)) → Gives Q (and_then more r)
then_gives P Q more None p behind = tt
then_gives P Q more (Some r) p behind = behind r.0 r.1 p.0 p.1

pub then_says : {X Y : Type 0} (P : X → Type 0) (Q : Y → Type 0) (more : X → List ℕ → Read Y) (r : Read X) → Gives P r
    → ((x : X) (rest : List ℕ) → P x → IsBytes rest → Says Q (more x rest)) → Says Q (and_then more r)
then_says P Q more None p behind = tt
then_says P Q more (Some r) p behind = behind r.0 r.1 p.0 p.1

pub as_gives : {X Y : Type 0} (P : X → Type 0) (Q : Y → Type 0) (make : X → Y) (r : Read X) → Gives P r → ((x : X) → P x → Q (make x)) → Gives Q (read_as make r)
as_gives P Q make None p made = tt
as_gives P Q make (Some r) p made = (made r.0 p.0, p.1)

pub as_says : {X Y : Type 0} (P : X → Type 0) (Q : Y → Type 0) (make : X → Y) (r : Read X) → Says P r → ((x : X) → P x → Q (make x)) → Says Q (read_as make r)
as_says P Q make None p made = tt
as_says P Q make (Some r) p made = made r.0 p

pub end_says : {X : Type 0} (P : X → Type 0) (r : Read X) (x : X) → Says P r → to_the_end r ≡ Some x → P x
end_says P None x p e = cc
end_says P (Some (y, [])) x p e = subst P (ap (λ o. elim o [ None ↦ y | Some z ↦ z ]) e) p
end_says P (Some (y, b ∷ rest)) x p e = cc

-- ---- the parts of bodies

pub number_gives : (count : ℕ) (bytes : List ℕ) → IsBytes bytes → Gives (λ n. Any n) (number_of count bytes)
number_gives count bytes is =
    gives_either (λ n. Any n) (ltb (length bytes) count) None (Some (number_at 0 count bytes, drop count bytes)) tt (tt, bytes_drop count bytes is)

piece_gives : (count : ℕ) (bytes : List ℕ) → IsBytes bytes → Gives IsBytes (piece_of count bytes)
piece_gives count bytes is =
    gives_either IsBytes (ltb (length bytes) count) None (Some (take count bytes, drop count bytes)) tt (bytes_take count bytes is, bytes_drop count bytes is)

pub text_gives : (width : ℕ) (bytes : List ℕ) → IsBytes bytes → Gives IsBytes (text_behind width bytes)
text_gives width bytes is = then_gives (λ n. Any n) IsBytes piece_of (number_of width bytes) (number_gives width bytes is) (λ n rest any is'. piece_gives n rest is')

module _ {X : Type 0} (one : List ℕ → Read X) (gives : (bytes : List ℕ) → IsBytes bytes → Gives (λ x. Any x) (one bytes)) where
  many_give : (n : ℕ) (bytes : List ℕ) → IsBytes bytes → Gives (λ xs. Any xs) (so_many one n bytes)
  many_give zero bytes is = (tt, is)
  many_give (suc n) bytes is =
      then_gives (λ x. Any x) (λ xs. Any xs) (λ x rest. read_as (λ xs. x ∷ xs) (so_many one n rest)) (one bytes) (gives bytes is)
      (λ x rest any is'. as_gives (λ xs. Any xs) (λ xs. Any xs) (λ xs. x ∷ xs) (so_many one n rest) (many_give n rest is') (λ xs any. tt))

  pub all_give : (width : ℕ) (bytes : List ℕ) → IsBytes bytes → Gives (λ xs. Any xs) (all_behind width one bytes)
  all_give width bytes is = then_gives (λ n. Any n) (λ xs. Any xs) (so_many one) (number_of width bytes) (number_gives width bytes is) (λ n rest any is'. many_give n rest is')

kind_gives : (kind : ℕ) (bytes : List ℕ) → IsBytes bytes → Gives (λ v. Any v) (value_of_kind kind bytes)
kind_gives kind bytes is =
    gives_either (λ v. Any v) (eqb kind 0) (Some (Null, bytes)) _ (tt, is)
    (gives_either (λ v. Any v) (eqb kind 1) (read_as (λ n. Int (cast_signed w64 n)) (number_of 8 bytes)) _
    (as_gives (λ n. Any n) (λ v. Any v) (λ n. Int (cast_signed w64 n)) (number_of 8 bytes) (number_gives 8 bytes is) (λ n any. tt))
    (gives_either (λ v. Any v) (eqb kind 2) (read_as (λ t. Text t) (text_behind 4 bytes)) None
    (as_gives IsBytes (λ v. Any v) (λ t. Text t) (text_behind 4 bytes) (text_gives 4 bytes is) (λ t any. tt)) tt))

value_gives : (bytes : List ℕ) → IsBytes bytes → Gives (λ v. Any v) (value_in bytes)
value_gives bytes is = then_gives (λ n. Any n) (λ v. Any v) value_of_kind (number_of 1 bytes) (number_gives 1 bytes is) (λ n rest any is'. kind_gives n rest is')

pub row_gives : (bytes : List ℕ) → IsBytes bytes → Gives (λ row. Any row) (row_in bytes)
unfolding row_in
row_gives bytes is = all_give value_in value_gives 1 bytes is
