-- What is written is read again.
use Rattle.std.proofs.Common.{◌≡◌, ℕ, suc, ◌^◌, ◌<◌, false, ltb, List, [], ◌∷◌, ◌++◌, length, Some, refl, sym, ap, ◌∙◌, append_assoc, arith}
use Rattle.std.specs.Prelude.{ℤ, flat_map}
use Rattle.std.specs.List.{AllByRecursion}
use Rattle.std.specs.Int.{w64, cast_signed, cast_unsigned}
use Rattle.std.proofs.lemmas.Bool.{le-ltb}
use Rattle.std.proofs.lemmas.Int.{to_z-of_z}
use Rattle.std.proofs.lemmas.List.{take_at, drop_at, length-append, append-nil}
use Rattle.std.proofs.Math.Facts.{Fits-of_z, Fits-lt-pow}
use Rattle.val_types.specs.declared.value.Value.{Value}
use Rattle.val_types.specs.declared.value.Value.TheVariants.{Null, Int, Text}
use Rattle.val_types.specs.declared.change.Change.{Change}
use Rattle.val_types.specs.declared.change.Change.TheVariants.{Insert, Update, Delete}
use Rattle.byte_fields.specs.Field.{number_bytes}
use Rattle.byte_fields.proofs.FieldLaws.{field_again, field_width}
use Rattle.binlog_sizes.specs.log_model.Images.{Read, and_then}
use Rattle.store_model.specs.declared.record.Kind.{Kind}
use Rattle.store_model.specs.declared.record.Kind.TheVariants.{Source, Replica}
use Rattle.store_model.specs.declared.record.Head.{Head}
use Rattle.store_model.specs.declared.record.Record.{Record}
use Rattle.store_model.specs.declared.record.Record.TheVariants.{Transaction, Definition, LogStart, TransactionApplied, DefinitionApplied, PlaceMoved}
use Rattle.store_model.specs.Reading.{read_as, to_the_end, number_of, piece_of, text_behind, so_many, all_behind, value_of_kind, value_in, row_in, change_of_kind, change_in}
use Rattle.store_model.specs.Bodies.{text_bytes, all_bytes, value_bytes, row_bytes, change_bytes, changes_bytes, head_bytes, body_of, head_in, changes_in, with_changes, with_text, with_old_end, record_of_kind, record_of, IsValue, IsRow, IsChange, AreChanges, IsHead, IsRecord}

-- ---- in general

pub number_again : (count n : ℕ) (rest : List ℕ) → n < 256 ^ count → number_of count (number_bytes count n ++ rest) ≡ Some (n, rest)
number_again count n rest fits =
    let len = field_width count n in
    let whole : ltb (length (number_bytes count n ++ rest)) count ≡ false = le-ltb _ _ (omega (arith, len, length-append (number_bytes count n) rest)) in
    rw (whole, field_again count n rest fits, drop_at (number_bytes count n) rest count len) refl

pub piece_again : (text rest : List ℕ) → piece_of (length text) (text ++ rest) ≡ Some (text, rest)
piece_again text rest =
    let whole : ltb (length (text ++ rest)) (length text) ≡ false = le-ltb _ _ (omega (arith, length-append text rest)) in
    rw (whole, take_at text rest (length text) refl, drop_at text rest (length text) refl) refl

pub text_again : (width : ℕ) (text rest : List ℕ) → length text < 256 ^ width → text_behind width (text_bytes width text ++ rest) ≡ Some (text, rest)
text_again width text rest fits =
    ap (text_behind width) (append_assoc (number_bytes width (length text)) text rest)
    ∙ ap (and_then piece_of) (number_again width (length text) (text ++ rest) fits)
    ∙ piece_again text rest

module _ {X : Type 0} (one : List ℕ → Read X) (put : X → List ℕ) (P : X → Type 0) (again : (x : X) (rest : List ℕ) → P x → one (put x ++ rest) ≡ Some (x, rest)) where
  many_again : (xs : List X) (rest : List ℕ) → AllByRecursion P xs → so_many one (length xs) (flat_map put xs ++ rest) ≡ Some (xs, rest)
  many_again [] rest all = refl
  many_again (x ∷ xs) rest all =
      ap (so_many one (suc (length xs))) (append_assoc (put x) (flat_map put xs) rest)
      ∙ ap (and_then (λ y left. read_as (λ ys. y ∷ ys) (so_many one (length xs) left))) (again x (flat_map put xs ++ rest) all.0)
      ∙ ap (read_as (λ ys. x ∷ ys)) (many_again xs rest all.1)

  pub all_again : (width : ℕ) (xs : List X) (rest : List ℕ) → length xs < 256 ^ width → AllByRecursion P xs → all_behind width one (all_bytes width put xs ++ rest) ≡ Some (xs, rest)
  all_again width xs rest fits all =
      ap (all_behind width one) (append_assoc (number_bytes width (length xs)) (flat_map put xs) rest)
      ∙ ap (and_then (so_many one)) (number_again width (length xs) (flat_map put xs ++ rest) fits)
      ∙ many_again xs rest all

-- ---- values, rows and changes

value_again : (v : Value) (rest : List ℕ) → IsValue v → value_in (value_bytes v ++ rest) ≡ Some (v, rest)
value_again Null rest is = ap (and_then value_of_kind) (number_again 1 0 rest (omega arith))
value_again (Int n) rest is =
    let low : cast_unsigned w64 n < 2 ^ 64 = Fits-lt-pow (Fits-of_z is) in
    ap value_in (append_assoc (number_bytes 1 1) (number_bytes 8 (cast_unsigned w64 n)) rest)
    ∙ ap (and_then value_of_kind) (number_again 1 1 (number_bytes 8 (cast_unsigned w64 n) ++ rest) (omega arith))
    ∙ ap (read_as (λ m. Int (cast_signed w64 m))) (number_again 8 (cast_unsigned w64 n) rest (omega arith))
    ∙ ap (λ (m : ℤ). Some (Int m, rest)) (to_z-of_z w64 n is)
value_again (Text t) rest is =
    ap value_in (append_assoc (number_bytes 1 2) (text_bytes 4 t) rest)
    ∙ ap (and_then value_of_kind) (number_again 1 2 (text_bytes 4 t ++ rest) (omega arith))
    ∙ ap (read_as (λ u. Text u)) (text_again 4 t rest (omega arith))

pub row_again : (row : List Value) (rest : List ℕ) → IsRow row → row_in (row_bytes row ++ rest) ≡ Some (row, rest)
unfolding row_in row_bytes
row_again row rest is = all_again value_in value_bytes IsValue value_again 1 row rest is.few is.values

behind_three : (a b c rest : List ℕ) → ((a ++ b) ++ c) ++ rest ≡ a ++ (b ++ (c ++ rest))
behind_three a b c rest = append_assoc (a ++ b) c rest ∙ append_assoc a b (c ++ rest)

-- a change's kind and the name of its table, before its rows
named_again : (kind : ℕ) (name rows : List ℕ) → kind < 256 → length name < 2 ^ 8
    → change_in (number_bytes 1 kind ++ (text_bytes 1 name ++ rows)) ≡ change_of_kind kind name rows
unfolding change_in
named_again kind name rows low fits =
    ap (and_then (λ k rest. and_then (change_of_kind k) (text_behind 1 rest))) (number_again 1 kind (text_bytes 1 name ++ rows) (omega arith))
    ∙ ap (and_then (change_of_kind kind)) (text_again 1 name rows (omega arith))

pub change_again : (c : Change) (rest : List ℕ) → IsChange c → change_in (change_bytes c ++ rest) ≡ Some (c, rest)
unfolding change_bytes
change_again (Insert name row) rest is =
    ap change_in (behind_three (number_bytes 1 1) (text_bytes 1 name) (row_bytes row) rest)
    ∙ named_again 1 name (row_bytes row ++ rest) (omega arith) is.0
    ∙ ap (read_as (λ row. Insert name row)) (row_again row rest is.1)
change_again (Update name before after) rest is =
    ap change_in (append_assoc (number_bytes 1 2 ++ text_bytes 1 name ++ row_bytes before) (row_bytes after) rest
    ∙ behind_three (number_bytes 1 2) (text_bytes 1 name) (row_bytes before) (row_bytes after ++ rest))
    ∙ named_again 2 name (row_bytes before ++ (row_bytes after ++ rest)) (omega arith) is.0
    ∙ ap (and_then (λ first left. read_as (λ second. Update name first second) (row_in left))) (row_again before (row_bytes after ++ rest) is.1.0)
    ∙ ap (read_as (λ second. Update name before second)) (row_again after rest is.1.1)
change_again (Delete name row) rest is =
    ap change_in (behind_three (number_bytes 1 3) (text_bytes 1 name) (row_bytes row) rest)
    ∙ named_again 3 name (row_bytes row ++ rest) (omega arith) is.0
    ∙ ap (read_as (λ row. Delete name row)) (row_again row rest is.1)

-- ---- bodies

changes_again : (cs : List Change) → AreChanges cs → changes_in (changes_bytes cs) ≡ Some (cs, [])
changes_again cs are =
    ap changes_in (sym (append-nil (changes_bytes cs)))
    ∙ all_again change_in change_bytes IsChange change_again 4 cs [] (omega (arith, are.few)) are.each

last_text : (text : List ℕ) → length text < 2 ^ 32 → text_behind 4 (text_bytes 4 text) ≡ Some (text, [])
last_text text fits = ap (text_behind 4) (sym (append-nil (text_bytes 4 text))) ∙ text_again 4 text [] (omega arith)

last_number : (n : ℕ) → n < 2 ^ 32 → number_of 4 (number_bytes 4 n) ≡ Some (n, [])
last_number n fits = ap (number_of 4) (sym (append-nil (number_bytes 4 n))) ∙ number_again 4 n [] (omega arith)

-- the fields of a head, before others
abbrev fields : Head → List ℕ → List ℕ
fields head more = number_bytes 8 head.number ++ (number_bytes 4 head.log ++ (number_bytes 4 head.pos ++ more))

head_first : (kind : ℕ) (head : Head) (more : List ℕ) → head_bytes kind head ++ more ≡ number_bytes 1 kind ++ fields head more
head_first kind head more =
    append_assoc (number_bytes 1 kind ++ number_bytes 8 head.number ++ number_bytes 4 head.log) (number_bytes 4 head.pos) more
    ∙ behind_three (number_bytes 1 kind) (number_bytes 8 head.number) (number_bytes 4 head.log) (number_bytes 4 head.pos ++ more)

head_again : (head : Head) (more : List ℕ) → IsHead head → head_in (fields head more) ≡ Some (head, more)
head_again head more is =
    ap (and_then (λ number rest. and_then (λ log rest'. read_as (λ pos. record { number = number; log = log; pos = pos }) (number_of 4 rest')) (number_of 4 rest)))
    (number_again 8 head.number (number_bytes 4 head.log ++ (number_bytes 4 head.pos ++ more)) (omega (arith, is.number)))
    ∙ ap (and_then (λ log rest'. read_as (λ pos. record { number = head.number; log = log; pos = pos }) (number_of 4 rest')))
    (number_again 4 head.log (number_bytes 4 head.pos ++ more) (omega (arith, is.log)))
    ∙ ap (read_as (λ pos. record { number = head.number; log = head.log; pos = pos })) (number_again 4 head.pos more (omega (arith, is.pos)))

-- behind its kind, a record is read from the fields of its head on
kind_again : (store : Kind) (kind : ℕ) (head : Head) (more : List ℕ) → kind < 256
    → record_of store (head_bytes kind head ++ more) ≡ to_the_end (record_of_kind store kind (fields head more))
unfolding record_of
kind_again store kind head more low =
    ap (λ body. to_the_end (and_then (record_of_kind store) (number_of 1 body))) (head_first kind head more)
    ∙ ap (λ r. to_the_end (and_then (record_of_kind store) r)) (number_again 1 kind (fields head more) (omega arith))

module _ (make : Head → List Change → Record) (head : Head) (cs : List Change) (is : IsHead head × AreChanges cs) where
  with_changes_again : to_the_end (and_then (with_changes make) (head_in (fields head (changes_bytes cs)))) ≡ Some (make head cs)
  with_changes_again =
      ap (λ r. to_the_end (and_then (with_changes make) r)) (head_again head (changes_bytes cs) is.0)
      ∙ ap (λ r. to_the_end (read_as (make head) r)) (changes_again cs is.1)

module _ (make : Head → List ℕ → Record) (head : Head) (text : List ℕ) (is : IsHead head × (length text < 2 ^ 32)) where
  with_text_again : to_the_end (and_then (with_text make) (head_in (fields head (text_bytes 4 text)))) ≡ Some (make head text)
  with_text_again =
      ap (λ r. to_the_end (and_then (with_text make) r)) (head_again head (text_bytes 4 text) is.0)
      ∙ ap (λ r. to_the_end (read_as (make head) r)) (last_text text is.1)

pub body_again : (kind : Kind) (r : Record) → IsRecord kind r → record_of kind (body_of r) ≡ Some r
unfolding body_of
body_again Source (Transaction head cs) is =
    kind_again Source 1 head (changes_bytes cs) (omega arith) ∙ with_changes_again (λ head cs. Transaction head cs) head cs is
body_again Source (Definition head text) is =
    kind_again Source 2 head (text_bytes 4 text) (omega arith) ∙ with_text_again (λ head text. Definition head text) head text is
body_again Source (LogStart head old_end) is =
    kind_again Source 3 head (number_bytes 4 old_end) (omega arith)
    ∙ ap (λ r. to_the_end (and_then with_old_end r)) (head_again head (number_bytes 4 old_end) is.0)
    ∙ ap (λ r. to_the_end (read_as (λ at. LogStart head at) r)) (last_number old_end is.1)
body_again Source (TransactionApplied head cs) is = absurd is
body_again Source (DefinitionApplied head text) is = absurd is
body_again Source (PlaceMoved head) is = absurd is
body_again Replica (Transaction head cs) is = absurd is
body_again Replica (Definition head text) is = absurd is
body_again Replica (LogStart head old_end) is = absurd is
body_again Replica (TransactionApplied head cs) is =
    kind_again Replica 17 head (changes_bytes cs) (omega arith) ∙ with_changes_again (λ head cs. TransactionApplied head cs) head cs is
body_again Replica (DefinitionApplied head text) is =
    kind_again Replica 18 head (text_bytes 4 text) (omega arith) ∙ with_text_again (λ head text. DefinitionApplied head text) head text is
body_again Replica (PlaceMoved head) is =
    ap (record_of Replica) (sym (append-nil (head_bytes 19 head)))
    ∙ kind_again Replica 19 head [] (omega arith)
    ∙ ap (λ r. to_the_end (read_as (λ head. PlaceMoved head) r)) (head_again head [] is)
