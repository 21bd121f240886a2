-- Bodies of statements, of what they need of their session, and of the log itself: each that is written is read again.
use Rattle.std.proofs.Common.{◌≡◌, ℕ, ◌+◌, ◌-◌, ◌*◌, ◌/◌, ◌%◌, ◌^◌, ◌<◌, ◌≤◌, true, false, eqb, leb, List, [], ◌∷◌, ◌++◌, length, Option, Some, None, Result, Ok, refl, sym, ap, ◌∙◌, append-nil, arith, length-append}
use Rattle.std.specs.Prelude.{ℤ, IfSome, codes}
use Rattle.std.specs.Int.{w64, cast_signed, cast_unsigned}
use Rattle.std.proofs.lemmas.Bool.{le-leb, ne_eqb}
use Rattle.std.proofs.lemmas.Int.{to_z-of_z}
use Rattle.std.proofs.Math.Facts.{Fits-of_z, Fits-lt-pow}
use Rattle.std.proofs.Math.Nat.{mod-eq_of_lt}
use Rattle.val_types.specs.declared.value.Value.{Value}
use Rattle.val_types.specs.declared.value.Value.TheVariants.{Null, Int, Text}
use Rattle.byte_fields.specs.Field.{number_at, number_bytes}
use Rattle.byte_fields.proofs.FieldLaws.{field_again, field_width}
use Rattle.event_codec.specs.declared.event.IntVarKind.{IntVarKind}
use Rattle.event_codec.specs.declared.event.IntVarKind.TheVariants.{LastInsertId, InsertId}
use Rattle.event_codec.specs.declared.event.Step.{Step}
use Rattle.event_codec.specs.declared.fault.Fault.{Fault}
use Rattle.event_codec.specs.LogName.{digit_value, decimal_from, log_number, last_digit, log_name}
use Rattle.event_codec.specs.Event.{query, rotate, int_var, rand, user_var, format_description, xid, Query}
use Rattle.event_codec.specs.Bodies.{step_at, status_of, query_body, rotate_body, int_var_body, rand_body, value_at, user_var_body, post_header_lengths, format_description_body, xid_body}
use Rattle.event_codec.specs.Laws.{FitsValue}
use Rattle.event_codec.specs.Writing.{step_bytes, query_bytes, rotate_bytes, int_var_code, typed_bytes, value_bytes, user_var_bytes, layout_bytes, format_description_bytes}
use Rattle.event_codec.proofs.PartLaws.{number_again, number_last, byte_is, byte_again, part_again}

-- ---- QUERY

step_again : (step : Step) → 1 ≤ step.increment → 1 ≤ step.offset → step.increment < 2 ^ 16 → step.offset < 2 ^ 16
    → step_at (number_bytes 2 step.increment ++ number_bytes 2 step.offset) ≡ Ok (Some step)
unfolding step_at
step_again step increment offset small-increment small-offset =
    let a : eqb step.increment 0 ≡ false = ne_eqb _ _ (λ e. omega arith) in
    let b : eqb step.offset 0 ≡ false = ne_eqb _ _ (λ e. omega arith) in
    rw (number_again 2 step.increment (number_bytes 2 step.offset) small-increment, number_last 2 step.offset small-offset, a, b) refl

status_again : (step : Option Step) → IfSome step (λ s. (1 ≤ s.increment) × (1 ≤ s.offset)) → IfSome step (λ s. (s.increment < 2 ^ 16) × (s.offset < 2 ^ 16))
    → status_of (step_bytes step) ≡ Ok step
status_again None form fits = refl
status_again (Some step) form fits = step_again step form.0 form.1 fits.0 fits.1

short_status : (step : Option Step) → length (step_bytes step) < 2 ^ 16
unfolding number_bytes
short_status None = omega arith
short_status (Some step) = omega arith

pub query_again : (q : Query) → q.thread < 2 ^ 32 → IfSome q.step (λ s. (1 ≤ s.increment) × (1 ≤ s.offset))
    → IfSome q.step (λ s. (s.increment < 2 ^ 16) × (s.offset < 2 ^ 16)) → query_body (query_bytes q) ≡ Ok (query q)
unfolding query_body query_bytes
query_again q thread form fits =
    let text : List ℕ = codes "db" ++ (0 ∷ q.text) in
    let status : List ℕ = step_bytes q.step ++ text in
    let lengths : List ℕ = number_bytes 2 (length (step_bytes q.step)) ++ status in
    rw (
      number_again 4 q.thread (number_bytes 4 0 ++ (2 ∷ (number_bytes 2 0 ++ lengths))) thread,
      number_again 4 0 (2 ∷ (number_bytes 2 0 ++ lengths)) (omega arith),
      byte_again 2 (number_bytes 2 0 ++ lengths),
      number_again 2 0 lengths (omega arith),
      number_again 2 (length (step_bytes q.step)) status (short_status q.step),
      part_again (step_bytes q.step) text (length (step_bytes q.step)) refl,
      status_again q.step form fits,
      part_again (codes "db") (0 ∷ q.text) 2 refl,
      byte_again 0 q.text,
    ) refl

-- ---- ROTATE

digit_again : (n : ℕ) → digit_value (last_digit n) ≡ Ok (n % 10)
digit_again n =
    let low : leb 0x30 (0x30 + n % 10) ≡ true = le-leb _ _ (omega arith) in
    let high : leb (0x30 + n % 10) 0x39 ≡ true = le-leb _ _ (omega arith) in
    let same : 0x30 + n % 10 - 0x30 ≡ n % 10 = omega arith in
    rw (low, high, same) refl

-- what the digits of six numbers say
six : ℕ → ℕ → ℕ → ℕ → ℕ → ℕ → ℕ
six a b d e f g = (((((0 * 10 + a % 10) * 10 + b % 10) * 10 + d % 10) * 10 + e % 10) * 10 + f % 10) * 10 + g % 10

six_digits : (a b d e f g : ℕ) → decimal_from 0 (last_digit a ∷ last_digit b ∷ last_digit d ∷ last_digit e ∷ last_digit f ∷ last_digit g ∷ []) ≡ Ok (six a b d e f g)
unfolding six
six_digits a b d e f g = rw (digit_again a, digit_again b, digit_again d, digit_again e, digit_again f, digit_again g) refl

six_is : (n : ℕ) → n < 1000000 → six (n / 100000) (n / 10000) (n / 1000) (n / 100) (n / 10) n ≡ n
unfolding six
six_is n low = omega arith

log_again : (n : ℕ) → n < 1000000 → log_number (log_name n) ≡ Ok n
unfolding log_number log_name
log_again n low =
    six_digits (n / 100000) (n / 10000) (n / 1000) (n / 100) (n / 10) n ∙ ap (λ (m : ℕ). counted m) (six_is n low)
  where
    counted : ℕ → Result ℕ Fault
    counted m = Ok m

pub rotate_again : (n : ℕ) → n < 1000000 → rotate_body (rotate_bytes n) ≡ Ok (rotate n)
unfolding rotate_body rotate_bytes
rotate_again n low = rw (number_again 8 4 (log_name n) (omega arith), log_again n low) refl

-- ---- INTVAR, RAND, XID

pub int_var_again : (kind : IntVarKind) (n : ℕ) → n ≤ 9223372036854775807 → int_var_body (int_var_code kind ∷ number_bytes 8 n) ≡ Ok (int_var kind n)
unfolding int_var_body
int_var_again LastInsertId n low =
    let small : leb n 9223372036854775807 ≡ true = le-leb _ _ low in
    rw (byte_again 1 (number_bytes 8 n), number_last 8 n (omega arith), small) refl
int_var_again InsertId n low =
    let small : leb n 9223372036854775807 ≡ true = le-leb _ _ low in
    rw (byte_again 2 (number_bytes 8 n), number_last 8 n (omega arith), small) refl

pub rand_again : (a b : ℕ) → a < 1073741823 → b < 1073741823 → rand_body (number_bytes 8 a ++ number_bytes 8 b) ≡ Ok (rand a b)
unfolding rand_body
rand_again a b low high =
    rw (number_again 8 a (number_bytes 8 b) (omega arith), number_last 8 b (omega arith), mod-eq_of_lt low, mod-eq_of_lt high) refl

pub xid_again : (n : ℕ) → n < 2 ^ 64 → xid_body (number_bytes 8 n) ≡ Ok (xid n)
unfolding xid_body
xid_again n fits = rw (number_last 8 n fits) refl

-- ---- USER_VAR

text_value : (bytes : List ℕ) → length bytes < 2 ^ 32 → value_at (typed_bytes 0 bytes) ≡ Ok (Text bytes)
unfolding value_at
text_value bytes short =
    rw (
      byte_again 0 (number_bytes 4 63 ++ (number_bytes 4 (length bytes) ++ (bytes ++ (0 ∷ [])))),
      number_again 4 63 (number_bytes 4 (length bytes) ++ (bytes ++ (0 ∷ []))) (omega arith),
      number_again 4 (length bytes) (bytes ++ (0 ∷ [])) short,
      part_again bytes (0 ∷ []) (length bytes) refl,
      byte_is 0 [],
    ) refl

-- an integer whose bits are a number
bits_value : (x : ℕ) (n : ℤ) → x < 2 ^ 64 → cast_signed w64 x ≡ n → value_at (typed_bytes 2 (number_bytes 8 x)) ≡ Ok (Int n)
unfolding value_at
bits_value x n fits is =
    let width = field_width 8 x in
    let read : number_at 0 8 (number_bytes 8 x) ≡ x = ap (number_at 0 8) (sym (append-nil (number_bytes 8 x))) ∙ field_again 8 x [] fits in
    rw (
      byte_again 2 (number_bytes 4 63 ++ (number_bytes 4 (length (number_bytes 8 x)) ++ (number_bytes 8 x ++ (0 ∷ [])))),
      number_again 4 63 (number_bytes 4 (length (number_bytes 8 x)) ++ (number_bytes 8 x ++ (0 ∷ []))) (omega arith),
      number_again 4 (length (number_bytes 8 x)) (number_bytes 8 x ++ (0 ∷ [])) (omega (arith, width)),
      part_again (number_bytes 8 x) (0 ∷ []) (length (number_bytes 8 x)) refl,
      byte_is 0 [],
      width,
      read,
      is,
    ) refl

-- a value is short enough for its length
abbrev pub ShortValue : Value → Type 0
ShortValue Null = Unit {0}
ShortValue (Int n) = Unit {0}
ShortValue (Text bytes) = length bytes < 2 ^ 32

content_again : (name : List ℕ) (content : Value) → length name < 2 ^ 32 → FitsValue content → ShortValue content
    → user_var_body (number_bytes 4 (length name) ++ (name ++ value_bytes content)) ≡ Ok (user_var name content)
unfolding user_var_body
content_again name Null small fits short =
    rw (number_again 4 (length name) (name ++ (1 ∷ [])) small, part_again name (1 ∷ []) (length name) refl, byte_is 1 []) refl
content_again name (Int n) small fits short =
    let x : ℕ = cast_unsigned w64 n in
    let value : List ℕ = typed_bytes 2 (number_bytes 8 x) in
    rw (
      number_again 4 (length name) (name ++ (0 ∷ value)) small,
      part_again name (0 ∷ value) (length name) refl,
      byte_again 0 value,
      bits_value x n (Fits-lt-pow (Fits-of_z fits)) (to_z-of_z w64 n fits),
    ) refl
content_again name (Text bytes) small fits short =
    let value : List ℕ = typed_bytes 0 bytes in
    rw (
      number_again 4 (length name) (name ++ (0 ∷ value)) small,
      part_again name (0 ∷ value) (length name) refl,
      byte_again 0 value,
      text_value bytes short,
    ) refl

-- a short body has a short name and a short value
short_parts : (name : List ℕ) (content : Value) → length (user_var_bytes name content) ≤ 1200000000 → (length name < 2 ^ 32) × ShortValue content
unfolding user_var_bytes number_bytes
short_parts name Null small = (omega (arith, length-append name (1 ∷ [])), tt)
short_parts name (Int n) small = (omega (arith, length-append name (value_bytes (Int n))), tt)
short_parts name (Text bytes) small =
    (omega (arith, length-append name (value_bytes (Text bytes))), omega (arith, length-append name (value_bytes (Text bytes)), length-append bytes (0 ∷ [])))

pub user_var_again : (name : List ℕ) (content : Value) → FitsValue content → length (user_var_bytes name content) ≤ 1200000000
    → user_var_body (user_var_bytes name content) ≡ Ok (user_var name content)
unfolding user_var_bytes
user_var_again name content fits small =
    let short = short_parts name content small in content_again name content short.0 fits short.1

-- ---- FORMAT_DESCRIPTION

pub format_description_again : (stamp : ℕ) (version : List ℕ) → stamp < 2 ^ 32 → length version ≡ 50
    → format_description_body (format_description_bytes stamp version) ≡ Ok (format_description version)
unfolding format_description_body format_description_bytes layout_bytes
format_description_again stamp version fits len =
    let checksum : List ℕ = 0 ∷ number_bytes 4 0 in
    let lengths : List ℕ = post_header_lengths ++ checksum in
    rw (
      number_again 2 4 (version ++ (number_bytes 4 stamp ++ (19 ∷ lengths))) (omega arith),
      part_again version (number_bytes 4 stamp ++ (19 ∷ lengths)) 50 len,
      number_again 4 stamp (19 ∷ lengths) fits,
      byte_again 19 lengths,
      part_again post_header_lengths checksum 38 refl,
      byte_again 0 (number_bytes 4 0),
      number_last 4 0 (omega arith),
    ) refl
