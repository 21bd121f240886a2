-- A record that was read belongs to its store, and its text is no longer than its body.
use Rattle.std.proofs.Common.{◌≡◌, ℕ, ◌≤◌, Bool, true, false, cond, eqb, ltb, List, [], ◌∷◌, length, Some, None, ap, subst, length-take, length-drop, arith}
use Rattle.val_types.specs.declared.change.Change.{Change}
use Rattle.store_model.specs.log_model.Images.{Read, and_then}
use Rattle.store_model.specs.declared.record.Kind.{Kind}
use Rattle.store_model.specs.declared.record.Kind.TheVariants.{Source, Replica}
use Rattle.store_model.specs.declared.record.Head.{Head}
use Rattle.store_model.specs.declared.record.Record.{Record as AnyRecord}
use Rattle.store_model.specs.declared.record.Record.TheVariants.{Transaction, Definition, LogStart, TransactionApplied, DefinitionApplied, PlaceMoved}
use Rattle.store_model.specs.Reading.{read_as, to_the_end, number_of, piece_of, text_behind}
use Rattle.store_model.specs.Bodies.{head_in, changes_in, with_changes, with_text, with_old_end, record_of_kind, record_of}
use Rattle.store_load.specs.Whose.{HasTextWithin, IsOf}

-- what is read has P
abbrev Says : {X : Type 0} → (X → Type 0) → Read X → Type 0
Says P None = Unit {0}
Says P (Some r) = P r.0

-- and at most n bytes stand behind it
abbrev Gives : {X : Type 0} → (n : ℕ) → (X → Type 0) → Read X → Type 0
Gives n P None = Unit {0}
Gives n P (Some r) = P r.0 × (length r.1 ≤ n)

abbrev Any : {X : Type 0} → X → Type 0
Any x = Unit {0}

says_either : {X : Type 0} (P : X → Type 0) (b : Bool) (r s : Read X) → Says P r → Says P s → Says P (cond b r s)
says_either P true r s p q = p
says_either P false r s p q = q

gives_either : {X : Type 0} (n : ℕ) (P : X → Type 0) (b : Bool) (r s : Read X) → Gives n P r → Gives n P s → Gives n P (cond b r s)
gives_either n P true r s p q = p
gives_either n P false r s p q = q

says_any : {X : Type 0} (P : X → Type 0) (r : Read X) → ((x : X) → P x) → Says P r
says_any P None all = tt
says_any P (Some r) all = all r.0

says_given : {X : Type 0} (n : ℕ) (P : X → Type 0) (r : Read X) → Gives n P r → Says P r
says_given n P None p = tt
says_given n P (Some r) p = p.0

then_says : {X Y : Type 0} (n : ℕ) (P : X → Type 0) (Q : Y → Type 0) (more : X → List ℕ → Read Y) (r : Read X) → Gives n P r
    → ((x : X) (rest : List ℕ) → length rest ≤ n → Says Q (more x rest)) → Says Q (and_then more r)
then_says n P Q more None p behind = tt
then_says n P Q more (Some r) p behind = behind r.0 r.1 p.1

then_gives : {X Y : Type 0} (n : ℕ) (P : X → Type 0) (Q : Y → Type 0) (more : X → List ℕ → Read Y) (r : Read X) → Gives n P r
    → ((x : X) (rest : List ℕ) → length rest ≤ n → Gives n Q (more x rest)) → Gives n Q (and_then more r)
then_gives n P Q more None p behind = tt
then_gives n P Q more (Some r) p behind = behind r.0 r.1 p.1

as_says : {X Y : Type 0} (P : X → Type 0) (Q : Y → Type 0) (make : X → Y) (r : Read X) → Says P r → ((x : X) → P x → Q (make x)) → Says Q (read_as make r)
as_says P Q make None p made = tt
as_says P Q make (Some r) p made = made r.0 p

as_gives : {X Y : Type 0} (n : ℕ) (P : X → Type 0) (Q : Y → Type 0) (make : X → Y) (r : Read X) → Gives n P r → ((x : X) → P x → Q (make x)) → Gives n Q (read_as make r)
as_gives n P Q make None p made = tt
as_gives n P Q make (Some r) p made = (made r.0 p.0, p.1)

end_says : {X : Type 0} (P : X → Type 0) (r : Read X) (x : X) → Says P r → to_the_end r ≡ Some x → P x
end_says P None x p e = cc
end_says P (Some (y, [])) x p e = subst P (ap (λ o. elim o [ None ↦ y | Some z ↦ z ]) e) p
end_says P (Some (y, b ∷ rest)) x p e = cc

-- ---- the parts of a body

module _ (n : ℕ) where
  number_gives : (count : ℕ) (bytes : List ℕ) → length bytes ≤ n → Gives n (λ k. Any k) (number_of count bytes)
  number_gives count bytes le =
      gives_either n (λ k. Any k) (ltb (length bytes) count) None _ tt (tt, omega (arith, length-drop count bytes))

  abbrev Fits : List ℕ → Type 0
  Fits t = length t ≤ n

  piece_gives : (count : ℕ) (bytes : List ℕ) → length bytes ≤ n → Gives n Fits (piece_of count bytes)
  piece_gives count bytes le =
      gives_either n Fits (ltb (length bytes) count) None _ tt (omega (arith, length-take count bytes), omega (arith, length-drop count bytes))

  text_gives : (bytes : List ℕ) → length bytes ≤ n → Gives n Fits (text_behind 4 bytes)
  text_gives bytes le = then_gives n (λ k. Any k) Fits piece_of (number_of 4 bytes) (number_gives 4 bytes le) (λ k rest le'. piece_gives k rest le')

  head_gives : (bytes : List ℕ) → length bytes ≤ n → Gives n (λ (head : Head). Any head) (head_in bytes)
  head_gives bytes le =
      then_gives n (λ k. Any k) (λ (head : Head). Any head) _ (number_of 8 bytes) (number_gives 8 bytes le) (λ number rest le'.
      then_gives n (λ k. Any k) (λ (head : Head). Any head) _ (number_of 4 rest) (number_gives 4 rest le') (λ log rest' le''.
      as_gives n (λ k. Any k) (λ (head : Head). Any head) (λ pos. record { number = number; log = log; pos = pos }) (number_of 4 rest') (number_gives 4 rest' le'') (λ k any. tt)))

  abbrev Is : Kind → AnyRecord → Type 0
  Is kind r = IsOf kind r × HasTextWithin n r

  module _ (kind : Kind) (bytes : List ℕ) (le : length bytes ≤ n) where
    behind_head : (more : Head → List ℕ → Read AnyRecord) → ((head : Head) (rest : List ℕ) → length rest ≤ n → Says (Is kind) (more head rest)) → Says (Is kind) (and_then more (head_in bytes))
    behind_head more says = then_says n (λ (head : Head). Any head) (Is kind) more (head_in bytes) (head_gives bytes le) says

    text_says : (make : Head → List ℕ → AnyRecord) → ((head : Head) (text : List ℕ) → length text ≤ n → Is kind (make head text)) → Says (Is kind) (and_then (with_text make) (head_in bytes))
    text_says make made = behind_head (with_text make) (λ head rest le'.
        as_says Fits (Is kind) (make head) (text_behind 4 rest) (says_given n Fits (text_behind 4 rest) (text_gives rest le')) (made head))

    changes_say : (make : Head → List Change → AnyRecord) → ((head : Head) (cs : List Change) → Is kind (make head cs)) → Says (Is kind) (and_then (with_changes make) (head_in bytes))
    changes_say make made = behind_head (with_changes make) (λ head rest le'.
        as_says (λ cs. Any cs) (Is kind) (make head) (changes_in rest) (says_any (λ cs. Any cs) (changes_in rest) (λ cs. tt)) (λ cs any. made head cs))

  record_says : (kind : Kind) (code : ℕ) (bytes : List ℕ) → length bytes ≤ n → Says (Is kind) (record_of_kind kind code bytes)
  record_says Source code bytes le =
      says_either (Is Source) (eqb code 1) (and_then (with_changes (λ head cs. Transaction head cs)) (head_in bytes)) _ (changes_say Source bytes le (λ head cs. Transaction head cs) (λ head cs. (tt, tt)))
      (says_either (Is Source) (eqb code 2) (and_then (with_text (λ head text. Definition head text)) (head_in bytes)) _ (text_says Source bytes le (λ head text. Definition head text) (λ head text short. (tt, short)))
      (says_either (Is Source) (eqb code 3) (and_then with_old_end (head_in bytes)) None (behind_head Source bytes le with_old_end (λ head rest le'.
      as_says (λ k. Any k) (Is Source) (λ at. LogStart head at) (number_of 4 rest) (says_any (λ k. Any k) (number_of 4 rest) (λ k. tt)) (λ k any. (tt, tt)))) tt))
  record_says Replica code bytes le =
      says_either (Is Replica) (eqb code 17) (and_then (with_changes (λ head cs. TransactionApplied head cs)) (head_in bytes)) _ (changes_say Replica bytes le (λ head cs. TransactionApplied head cs) (λ head cs. (tt, tt)))
      (says_either (Is Replica) (eqb code 18) (and_then (with_text (λ head text. DefinitionApplied head text)) (head_in bytes)) _ (text_says Replica bytes le (λ head text. DefinitionApplied head text) (λ head text short. (tt, short)))
      (says_either (Is Replica) (eqb code 19) (read_as (λ head. PlaceMoved head) (head_in bytes)) None
      (as_says (λ (head : Head). Any head) (Is Replica) (λ head. PlaceMoved head) (head_in bytes) (says_any (λ (head : Head). Any head) (head_in bytes) (λ head. tt)) (λ head any. (tt, tt))) tt))

  body_says : (kind : Kind) (body : List ℕ) (r : AnyRecord) → length body ≤ n → record_of kind body ≡ Some r → Is kind r
  unfolding record_of
  body_says kind body r le e =
      end_says (Is kind) (and_then (record_of_kind kind) (number_of 1 body)) r
      (then_says n (λ k. Any k) (Is kind) (record_of_kind kind) (number_of 1 body) (number_gives 1 body le) (λ code rest le'. record_says kind code rest le')) e

pub is_of : (kind : Kind) (body : List ℕ) (r : AnyRecord) → record_of kind body ≡ Some r → IsOf kind r
is_of kind body r e = (body_says (length body) kind body r (omega arith) e).0

pub text_within : (n : ℕ) (kind : Kind) (body : List ℕ) (r : AnyRecord) → length body ≤ n → record_of kind body ≡ Some r → HasTextWithin n r
text_within n kind body r le e = (body_says n kind body r le e).1
