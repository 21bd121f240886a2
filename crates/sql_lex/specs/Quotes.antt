-- What stands in quotes: strings, and names in backquotes.
use Rattle.std.specs.Prelude.{ℕ, ◌+◌, Bool, false, not, ◌||◌, ◌&&◌, ◌==◌, nat_le, if◌then◌else◌, List, [], ◌∷◌, ◌++◌, length, Option, Some, None}
use Rattle.std.specs.List.{list_all}
use Rattle.std.specs.Option.{option_map}

-- whether a text begins with the byte
abbrev pub begins : ℕ → List ℕ → Bool
begins b [] = false
begins b (c ∷ bs) = c == b

-- this many bytes more
abbrev pub further : ℕ → Option ℕ → Option ℕ
further n = option_map (λ k. n + k)

-- Whether the byte behind this one belongs to it: a quote inside is doubled, and in a string a backslash escapes.
-- `held`: this byte itself belongs to the one before it.
abbrev pub leads : ℕ → Bool → ℕ → Bool
leads quote held b = not held && (b == quote || b == 92 && not (quote == 96))

-- whether this byte is the closing quote
abbrev pub closes : ℕ → Bool → ℕ → List ℕ → Bool
closes quote held b bs = not held && b == quote && not (begins quote bs)

abbrev pub closing_from : ℕ → Bool → List ℕ → Option ℕ
closing_from quote held [] = None
closing_from quote held (b ∷ bs) =
    if closes quote held b bs then Some 1 else further 1 (closing_from quote (leads quote held b) bs)

-- how many bytes there are from behind an opening quote up to and with the closing one
abbrev pub closing : ℕ → List ℕ → Option ℕ
closing quote bs = closing_from quote false bs

-- the byte that an escaped letter stands for
abbrev pub escaped_byte : ℕ → ℕ
escaped_byte b =
    if b == 48 then 0
    else if b == 98 then 8
    else if b == 110 then 10
    else if b == 114 then 13
    else if b == 116 then 9
    else if b == 90 then 26
    else b

-- what an escaped byte stands for: before % and _ the backslash stays
abbrev pub escaped : ℕ → List ℕ
escaped b = if b == 37 || b == 95 then 92 ∷ b ∷ [] else escaped_byte b ∷ []

-- What a byte between quotes stands for: nothing by itself where it leads the next one.
abbrev pub stands_for : ℕ → Bool → ℕ → List ℕ
stands_for quote held b =
    if leads quote held b then []
    else if held && not (quote == 96) then escaped b
    else b ∷ []

abbrev pub meant_from : ℕ → Bool → List ℕ → List ℕ
meant_from quote held [] = []
meant_from quote held (b ∷ bs) = stands_for quote held b ++ meant_from quote (leads quote held b) bs

-- what the bytes between two quotes stand for
abbrev pub meant : ℕ → List ℕ → List ℕ
meant quote bs = meant_from quote false bs

-- a byte that a name in backquotes may have
abbrev pub is_printable : ℕ → Bool
is_printable b = nat_le 32 b && nat_le b 126

-- one to 64 bytes
abbrev pub is_name : List ℕ → Bool
is_name name = nat_le 1 (length name) && nat_le (length name) 64 && list_all is_printable name
