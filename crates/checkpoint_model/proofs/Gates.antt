-- A snapshot's file, with its gate or what is behind it torn.
use Rattle.std.proofs.Common.{◌≡◌, inl, inr, ℕ, suc, ◌+◌, ◌<◌, ◌≤◌, ◌^◌, ◌%◌, Bool, true, false, cond, eqb, leb, List, [], ◌∷◌, ◌++◌, length, take, drop, Some, None, refl, sym, ap, subst, ◌∙◌, append_assoc, arith}
use Rattle.std.specs.Prelude.{not, ◌&&◌, ◌||◌, slice_index}
use Rattle.std.specs.Option.{option_and_then}
use Rattle.std.proofs.lemmas.Bool.{cond-true, eqb-true, le-leb, lt-leb, lt-ltb, eq-eqb, true≢false}
use Rattle.std.proofs.lemmas.List.{take_at, drop_at, length-append}
use Rattle.byte_fields.specs.Field.{number_at, number_bytes}
use Rattle.byte_fields.proofs.FieldLaws.{field_again, field_width}
use Rattle.disk_model.specs.Story.{overwritten}
use Rattle.disk_model.specs.Torn.{Torn}
use Rattle.store_model.specs.declared.record.Kind.{Kind}
use Rattle.store_model.specs.Held.{Held}
use Rattle.store_model.specs.Snapshots.{is_open, of_file, snapshot_in, snapshot_of}
use Rattle.checkpoint_model.specs.Pieces.{is_to_close, snapshot_framed}
use Rattle.checkpoint_model.specs.Moments.{HasBody, IsOlder, IsShut}

-- ---- a file of two bytes or more

open_is : (a b : ℕ) (xs : List ℕ) → is_open (a ∷ b ∷ xs) ≡ not (eqb a 0)
open_is a b xs = ap (λ z. z && not (eqb a 0)) (lt-ltb 1 (length (a ∷ b ∷ xs)) (omega arith))

pub close_is : (a b : ℕ) (xs : List ℕ) → is_to_close (a ∷ b ∷ xs) ≡ not (eqb a 0)
close_is a b xs = ap (λ z. z || is_open (a ∷ b ∷ xs)) (lt-leb (length (a ∷ b ∷ xs)) 1 (omega arith)) ∙ open_is a b xs

over_is : (at : ℕ) (piece file : List ℕ) → at ≤ length file → overwritten at piece file ≡ take at file ++ piece ++ drop (at + length piece) file
over_is at piece file within = cond-true (leb at (length file)) (take at file ++ piece ++ drop (at + length piece) file) file (le-leb at (length file) within)

-- ---- the gate is torn

-- what is read of a snapshot does not hang on the value of its gate
same_behind : (kind : Kind) (f a b : ℕ) (xs : List ℕ) → snapshot_in kind f (a ∷ xs) ≡ snapshot_in kind f (b ∷ xs)
unfolding number_at
same_behind kind f a b xs = refl

pub older_torn : (kind : Kind) (generation f : ℕ) (file file' : List ℕ) → IsOlder kind generation f file → is_to_close file ≡ true → Torn 0 1 file file' → IsOlder kind generation f file'
older_torn kind generation f file [] older close torn = inl refl
older_torn kind generation f file (b ∷ []) older close torn = inl refl
older_torn kind generation f [] (b ∷ c ∷ ys) older close torn = absurd (omega (arith, torn.no_longer))
older_torn kind generation f (a ∷ []) (b ∷ c ∷ ys) older close torn = absurd (omega (arith, torn.no_longer))
older_torn kind generation f (a ∷ d ∷ xs) (b ∷ c ∷ ys) (inl closed) close torn = absurd (true≢false (sym close ∙ close_is a d xs ∙ sym (open_is a d xs) ∙ closed))
older_torn kind generation f (a ∷ d ∷ xs) (b ∷ c ∷ ys) (inr (s, (is, lt))) close torn =
    inr (s, (ap (λ l. snapshot_in kind f (b ∷ l)) torn.after ∙ same_behind kind f b a (d ∷ xs) ∙ is, lt))

pub shut_is_closed : (file : List ℕ) → IsShut file → is_open file ≡ false
shut_is_closed [] shut = refl
shut_is_closed (a ∷ []) shut = refl
shut_is_closed (a ∷ b ∷ xs) shut = open_is a b xs ∙ ap (λ n. not (eqb n 0)) shut.gate

pub older_shut : (kind : Kind) (generation f : ℕ) (file : List ℕ) → IsShut file → IsOlder kind generation f file
older_shut kind generation f file shut = inl (shut_is_closed file shut)

-- what is not to be closed is shut
pub shut_already : (file : List ℕ) → is_to_close file ≡ false → IsShut file
shut_already [] e = cc
shut_already (a ∷ []) e = cc
shut_already (a ∷ b ∷ xs) e = record { some = omega arith; gate = by (eqb a 0) refl (sym (close_is a b xs) ∙ e) }
  where
    by : (z : Bool) → eqb a 0 ≡ z → not z ≡ false → a ≡ 0
    by true is e = eqb-true a 0 is
    by false is e = cc

-- ---- the gate is put

pub shut_put : (file : List ℕ) → IsShut (overwritten 0 (0 ∷ []) file)
shut_put file = subst IsShut (sym (over_is 0 (0 ∷ []) file (omega arith))) (record { some = omega arith; gate = refl })

pub gate_put : (n a : ℕ) (xs : List ℕ) → overwritten 0 (n ∷ []) (a ∷ xs) ≡ n ∷ xs
gate_put n a xs = over_is 0 (n ∷ []) (a ∷ xs) (omega arith)

-- ---- behind a closed gate

pub shut_torn : (n : ℕ) (file file' : List ℕ) → IsShut file → Torn 1 n file file' → IsShut file'
shut_torn n [] file' shut torn = absurd (omega (arith, shut.some))
shut_torn n (a ∷ xs) [] shut torn = absurd (omega (arith, torn.no_shorter))
shut_torn n (a ∷ xs) (b ∷ ys) shut torn = record { some = omega arith; gate = ap (λ l. slice_index l 0) torn.before ∙ shut.gate }

pub shut_over : (piece file : List ℕ) → IsShut file → IsShut (overwritten 1 piece file)
shut_over piece [] shut = absurd (omega (arith, shut.some))
shut_over piece (a ∷ xs) shut = subst IsShut (sym (over_is 1 piece (a ∷ xs) (omega arith))) (record { some = omega arith; gate = shut.gate })

pub body_put : (body file : List ℕ) → IsShut file → HasBody body (overwritten 1 (snapshot_framed body) file)
body_put body [] shut = absurd (omega (arith, shut.some))
body_put body (a ∷ xs) shut = record { gate = a; rest = drop (1 + length (snapshot_framed body)) (a ∷ xs); is = over_is 1 (snapshot_framed body) (a ∷ xs) (omega arith) }

-- ---- a body behind a gate that is opened

pub body_torn : (body file file' : List ℕ) → HasBody body file → Torn 0 1 file file' → HasBody body file'
body_torn body file [] has torn = absurd (omega (arith, torn.no_shorter, ap length has.is))
body_torn body file (b ∷ ys) has torn = record { gate = b; rest = has.rest; is = ap (λ l. b ∷ l) (torn.after ∙ ap (λ l. drop 1 l) has.is) }

module _ (kind : Kind) (f : ℕ) (body rest : List ℕ) (fits : length body < 2 ^ 64) where
  size_is : number_at 0 8 (snapshot_framed body ++ rest) ≡ length body
  size_is = ap (number_at 0 8) (append_assoc (number_bytes 8 (length body)) body rest) ∙ field_again 8 (length body) (body ++ rest) (omega (arith, fits))

  behind_size : drop 8 (snapshot_framed body ++ rest) ≡ body ++ rest
  behind_size =
      ap (drop 8) (append_assoc (number_bytes 8 (length body)) body rest)
      ∙ drop_at (number_bytes 8 (length body)) (body ++ rest) 8 (field_width 8 (length body))

  long_enough : leb (9 + length body) (suc (length (snapshot_framed body ++ rest))) ≡ true
  long_enough = le-leb _ _ (omega (arith, field_width 8 (length body), length-append (snapshot_framed body) rest, length-append (number_bytes 8 (length body)) body))

  read_whole : (gate : ℕ) → snapshot_in kind f (gate ∷ (snapshot_framed body ++ rest)) ≡ option_and_then (of_file f) (snapshot_of kind body)
  unfolding number_at
  read_whole gate =
      let l : List ℕ = snapshot_framed body ++ rest in
      ap (λ n. cond (leb (9 + n) (suc (length l))) (option_and_then (of_file f) (snapshot_of kind (take n (drop 8 l)))) None) size_is
      ∙ cond-true (leb (9 + length body) (suc (length l))) (option_and_then (of_file f) (snapshot_of kind (take (length body) (drop 8 l)))) None long_enough
      ∙ ap (λ b. option_and_then (of_file f) (snapshot_of kind (take (length body) b))) behind_size
      ∙ ap (λ b. option_and_then (of_file f) (snapshot_of kind b)) (take_at body rest (length body) refl)

pub opened_is_open : (body rest : List ℕ) → is_open (1 ∷ (snapshot_framed body ++ rest)) ≡ true
opened_is_open body rest =
    ap (λ z. z && true) (lt-ltb 1 (suc (length (snapshot_framed body ++ rest)))
    (omega (arith, length-append (snapshot_framed body) rest, length-append (number_bytes 8 (length body)) body, field_width 8 (length body))))

pub body_read : (kind : Kind) (generation : ℕ) (held : Held) (f : ℕ) (body file : List ℕ) → HasBody body file → length body < 2 ^ 64 → generation % 2 ≡ f → snapshot_of kind body ≡ Some (generation, held)
    → snapshot_in kind f file ≡ Some (generation, held)
body_read kind generation held f body file has fits parity is =
    ap (snapshot_in kind f) has.is
    ∙ read_whole kind f body has.rest fits has.gate
    ∙ ap (option_and_then (of_file f)) is
    ∙ cond-true (eqb (generation % 2) f) (Some (generation, held)) None (eq-eqb (generation % 2) f parity)
