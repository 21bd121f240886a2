-- A log's name: `binlog.` and six decimal digits.
use Rattle.std.specs.Prelude.{ℕ, ◌+◌, ◌-◌, ◌*◌, ◌/◌, ◌%◌, ◌==◌, ◌&&◌, nat_le, List, [], ◌∷◌, ◌++◌, length, take, drop, codes, Result, Ok}
use Rattle.std.specs.Str.{bytes_eq}
use Rattle.event_codec.specs.declared.fault.Fault.{Fault}
use Rattle.event_codec.specs.Parts.{◌>>=◌, known}

-- a digit's number
abbrev pub digit_value : ℕ → Result ℕ Fault
digit_value b = known (nat_le 0x30 b && nat_le b 0x39) (Ok (b - 0x30))

-- the number whose digits stand behind those of another
abbrev pub decimal_from : ℕ → List ℕ → Result ℕ Fault
decimal_from n [] = Ok n
decimal_from n (b ∷ bs) = digit_value b >>= λ d. decimal_from (n * 10 + d) bs

-- the number in a name
unfoldable pub log_number : List ℕ → Result ℕ Fault
log_number name = known (length name == 13 && bytes_eq (take 7 name) (codes "binlog.")) (decimal_from 0 (drop 7 name))

-- the last digit of a number
abbrev pub last_digit : ℕ → ℕ
last_digit n = 0x30 + n % 10

-- the last six digits
abbrev pub digits : ℕ → List ℕ
digits n =
    last_digit (n / 100000) ∷ last_digit (n / 10000) ∷ last_digit (n / 1000) ∷ last_digit (n / 100) ∷ last_digit (n / 10)
    ∷ last_digit n ∷ []

-- the name with a number
unfoldable pub log_name : ℕ → List ℕ
log_name n = codes "binlog." ++ digits n
