-- White space, words and numbers in bytes.
use Rattle.std.specs.Prelude.{ℕ, ◌+◌, ◌-◌, ◌*◌, Bool, false, ◌&&◌, ◌||◌, nat_le, ◌==◌, if◌then◌else◌, List, [], ◌∷◌, length, drop, map, reverse, Option, Some, None}
use Rattle.std.specs.List.{list_all, take_while}
use Rattle.std.specs.Char.{to_ascii_lowercase, is_ascii_digit}
use Rattle.std.specs.Str.{bytes_eq}

-- ---- white space

-- tab, line feed, carriage return, space
abbrev pub is_blank : ℕ → Bool
is_blank b = b == 0x09 || b == 0x0a || b == 0x0d || b == 0x20

-- the bytes from the first one that is no white space
abbrev pub trim_front : List ℕ → List ℕ
trim_front [] = []
trim_front (b ∷ bs) = if is_blank b then trim_front bs else b ∷ bs

-- the bytes without the white space at both ends
abbrev pub trim : List ℕ → List ℕ
trim bs = reverse (trim_front (reverse (trim_front bs)))

-- ---- words

-- whether some bytes are a word, in any case of its letters
abbrev pub is_word : List ℕ → List ℕ → Bool
is_word word bs = bytes_eq (map to_ascii_lowercase bs) (map to_ascii_lowercase word)

-- a letter, a digit, `_` or `$`
abbrev pub is_word_byte : ℕ → Bool
is_word_byte b =
    nat_le 0x41 b && nat_le b 0x5a || nat_le 0x61 b && nat_le b 0x7a || nat_le 0x30 b && nat_le b 0x39 || b == 0x5f || b == 0x24

-- the first word of a text, which may be empty
abbrev pub first_word : List ℕ → List ℕ
first_word = take_while is_word_byte

-- what stands behind the first word
abbrev pub behind_word : List ℕ → List ℕ
behind_word text = drop (length (first_word text)) text

-- ---- numbers

-- the number that digits behind a number go on with
abbrev pub read_on : ℕ → List ℕ → ℕ
read_on n [] = n
read_on n (d ∷ ds) = read_on (10 * n + (d - 0x30)) ds

-- digits without a leading zero, at least one
abbrev pub is_numeral : List ℕ → Bool
is_numeral [] = false
is_numeral (d ∷ ds) = nat_le 0x31 d && nat_le d 0x39 && list_all is_ascii_digit ds

-- the number that some bytes are in decimal, without sign or leading zero, from 1 to a limit
abbrev pub number_to : ℕ → List ℕ → Option ℕ
number_to limit digits = if is_numeral digits && nat_le (read_on 0 digits) limit then Some (read_on 0 digits) else None
