-- The texts of the script: no byte that could end a command, nothing at their ends that a command drops, and how long they are.
use Rattle.std.proofs.Common.{◌≡◌, ◌∙◌, ℕ, ◌+◌, ◌-◌, ◌%◌, ◌^◌, ◌<◌, ◌≤◌, ◌==◌, not, Bool, true, false, if◌then◌else◌, List, [], ◌∷◌, ◌++◌, codes, length, reverse, ap, refl, arith}
use Rattle.std.specs.List.{list_all}
use Rattle.std.specs.Fmt.{decimal}
use Rattle.std.proofs.lemmas.Bool.Decides.{nat_tests}
use Rattle.std.proofs.lemmas.List.{length-append, reverse-append}
use Rattle.std.proofs.lemmas.List.Folds.{list_all-append}
use Rattle.std.proofs.lemmas.Fmt.{decimal_by_steps, length-decimal-le}
use Rattle.script_read.specs.Bytes.{is_blank}
use Rattle.load_script.specs.Script.{change_text, create_text, delete_text, insert_text, pair_text, update_text}

-- a byte that is no slash
abbrev pub is_plain : ℕ → Bool
is_plain b = not (b == 0x2f)

-- ---- parts of texts

pub record IsPart (part : List ℕ) (most : ℕ) : Type 0 where
  pub plain : list_all is_plain part ≡ true
  pub short : length part ≤ most

pub join : (a b : List ℕ) (m n : ℕ) → IsPart a m → IsPart b n → IsPart (a ++ b) (m + n)
join a b m n first second = record {
  plain = rw (list_all-append is_plain a b, first.plain, second.plain) refl;
  short = omega (arith, length-append a b, first.short, second.short);
}

-- ---- numbers

record Numeral (ds : List ℕ) : Type 0 where
  plain : list_all is_plain ds ≡ true
  last : ℕ
  front : List ℕ
  ends : reverse ds ≡ last ∷ front
  low : 48 ≤ last
  high : last ≤ 57

one_digit : (n : ℕ) → n < 10 → Numeral ((48 + n) ∷ [])
one_digit n small =
    let other : (48 + n == 0x2f) ≡ false = grind (arith, nat_tests) in
    record { plain = rw other refl; last = 48 + n; front = []; ends = refl; low = omega arith; high = omega arith }

more_digits : (n : ℕ) (ds : List ℕ) → 10 ≤ n → Numeral ds → Numeral (ds ++ ((48 + n % 10) ∷ []))
more_digits n ds some front =
    let digit : n % 10 < 10 = omega arith in
    let other : (48 + n % 10 == 0x2f) ≡ false = grind (arith, nat_tests) in
    record {
      plain = rw (list_all-append is_plain ds ((48 + n % 10) ∷ []), front.plain, other) refl;
      last = 48 + n % 10;
      front = reverse ds;
      ends = reverse-append ds ((48 + n % 10) ∷ []);
      low = omega arith;
      high = omega arith;
    }

numeral : (n : ℕ) → n < 2 ^ 64 → Numeral (decimal n)
numeral n small = decimal_by_steps (λ m ds. Numeral ds) one_digit (λ m ds. more_digits m ds) n small

number : (n : ℕ) → n < 2 ^ 64 → IsPart (decimal n) 20
number n small = record { plain = (numeral n small).plain; short = length-decimal-le 20 n (omega arith) (omega arith) small }

digit_seen : (d : ℕ) → 48 ≤ d → d ≤ 57 → is_blank d ≡ false
digit_seen d low high =
    let space : (d == 0x20) ≡ false = grind (arith, nat_tests) in
    let tab : (d == 0x09) ≡ false = grind (arith, nat_tests) in
    let feed : (d == 0x0a) ≡ false = grind (arith, nat_tests) in
    let carriage : (d == 0x0d) ≡ false = grind (arith, nat_tests) in
    rw (space, tab, feed, carriage) refl

-- ---- texts

pub record IsText (text : List ℕ) : Type 0 where
  pub part : IsPart text 300
  pub first : ℕ
  pub rest : List ℕ
  pub begins : text ≡ first ∷ rest
  pub first_seen : is_blank first ≡ false
  pub last : ℕ
  pub front : List ℕ
  pub ends : reverse text ≡ last ∷ front
  pub last_seen : is_blank last ≡ false
  pub no_semicolon : (last == 0x3b) ≡ false

-- the parts that are written out
values_part : IsPart (codes "INSERT INTO g (k, v) VALUES (") 40
values_part = record { plain = refl; short = omega arith }

single_part : IsPart (codes ", 'a") 40
single_part = record { plain = refl; short = omega arith }

single_end : IsPart (codes "')") 40
single_end = record { plain = refl; short = omega arith }

delete_part : IsPart (codes "DELETE FROM g WHERE k = ") 40
delete_part = record { plain = refl; short = omega arith }

delete_end : IsPart (codes " LIMIT 1") 40
delete_end = record { plain = refl; short = omega arith }

pair_part : IsPart (codes ", 'b") 40
pair_part = record { plain = refl; short = omega arith }

pair_middle : IsPart (codes "'), (") 40
pair_middle = record { plain = refl; short = omega arith }

pair_end : IsPart (codes ", 'c')") 40
pair_end = record { plain = refl; short = omega arith }

update_part : IsPart (codes "UPDATE g SET v = CONCAT(v, 'x') WHERE k = ") 50
update_part = record { plain = refl; short = omega arith }

create_part : IsPart create_text 300
create_part = record { plain = refl; short = omega arith }

wider : (text : List ℕ) (n : ℕ) → n ≤ 300 → IsPart text n → IsPart text 300
wider text n within part = record { plain = part.plain; short = omega (arith, part.short) }

insert_is : (i : ℕ) → i ≤ 100000 → IsText (insert_text i)
insert_is i within =
    let digits = number i (omega arith) in
    let front = codes "INSERT INTO g (k, v) VALUES (" ++ decimal i ++ codes ", 'a" ++ decimal i in
    record {
      part = wider _ 160 (omega arith) (join _ _ _ _ (join _ _ _ _ (join _ _ _ _ (join _ _ _ _ values_part digits) single_part) digits) single_end);
      first = 73;
      rest = _;
      begins = refl;
      first_seen = refl;
      last = 41;
      front = 39 ∷ reverse front;
      ends = reverse-append front (codes "')");
      last_seen = refl;
      no_semicolon = refl;
    }

delete_is : (i : ℕ) → i ≤ 100000 → IsText (delete_text i)
delete_is i within =
    let digits = number (i - 1) (omega arith) in
    let front = codes "DELETE FROM g WHERE k = " ++ decimal (i - 1) in
    record {
      part = wider _ 100 (omega arith) (join _ _ _ _ (join _ _ _ _ delete_part digits) delete_end);
      first = 68;
      rest = _;
      begins = refl;
      first_seen = refl;
      last = 49;
      front = reverse (codes " LIMIT ") ++ reverse front;
      ends = reverse-append front (codes " LIMIT 1");
      last_seen = refl;
      no_semicolon = refl;
    }

pair_is : (i : ℕ) → i ≤ 100000 → IsText (pair_text i)
pair_is i within =
    let digits = number i (omega arith) in
    let more = number (i + 100000) (omega arith) in
    let front = codes "INSERT INTO g (k, v) VALUES (" ++ decimal i ++ codes ", 'b" ++ decimal i ++ codes "'), (" ++ decimal (i + 100000) in
    record {
      part = wider _ 220 (omega arith) (join _ _ _ _ (join _ _ _ _ (join _ _ _ _ (join _ _ _ _ (join _ _ _ _ (join _ _ _ _ values_part digits) pair_part) digits) pair_middle) more) pair_end);
      first = 73;
      rest = _;
      begins = refl;
      first_seen = refl;
      last = 41;
      front = reverse (codes ", 'c'") ++ reverse front;
      ends = reverse-append front (codes ", 'c')");
      last_seen = refl;
      no_semicolon = refl;
    }

update_is : (i : ℕ) → i ≤ 100000 → IsText (update_text i)
update_is i within =
    let digits = number (i - 1) (omega arith) in
    let ends = numeral (i - 1) (omega arith) in
    let front = codes "UPDATE g SET v = CONCAT(v, 'x') WHERE k = " in
    record {
      part = wider _ 70 (omega arith) (join _ _ _ _ update_part digits);
      first = 85;
      rest = _;
      begins = refl;
      first_seen = refl;
      last = ends.last;
      front = ends.front ++ reverse front;
      ends = reverse-append front (decimal (i - 1)) ∙ ap (λ t. t ++ reverse front) ends.ends;
      last_seen = digit_seen ends.last ends.low ends.high;
      no_semicolon = grind (arith, nat_tests, ends.low, ends.high);
    }

either : (b : Bool) (x y : List ℕ) → IsText x → IsText y → IsText (if b then x else y)
either true x y this other = this
either false x y this other = other

pub change_is : (i : ℕ) → i ≤ 100000 → IsText (change_text i)
change_is i within =
    either (i % 4 == 1) _ _ (insert_is i within) (either (i % 4 == 2) _ _ (delete_is i within) (either (i % 4 == 3) _ _ (pair_is i within) (update_is i within)))

pub create_is : IsText create_text
create_is = record {
  part = create_part;
  first = 67;
  rest = _;
  begins = refl;
  first_seen = refl;
  last = 41;
  front = _;
  ends = refl;
  last_seen = refl;
  no_semicolon = refl;
}
