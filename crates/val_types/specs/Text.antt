-- Values and rows as the text that answers and printed logs show.
use Rattle.std.specs.Prelude.{ℕ, Bool, ◌&&◌, not, nat_le, ◌==◌, if◌then◌else◌, List, [], ◌∷◌, ◌++◌, codes}
use Rattle.std.specs.List.{list_all}
use Rattle.std.specs.Fmt.{signed_decimal}
use Rattle.hex.specs.Hex.{encode_upper}
use Rattle.val_types.specs.declared.value.Value.{Value}
use Rattle.val_types.specs.declared.value.Value.TheVariants.{Null, Int, Text}

-- a byte from 20 to 7E in hexadecimal that is neither a quote nor a backslash
abbrev pub is_plain : ℕ → Bool
is_plain b = nat_le 0x20 b && nat_le b 0x7e && not (b == 0x27) && not (b == 0x5c)

-- a text between quotes where all its bytes are plain, else in hexadecimal
abbrev pub quoted_of : List ℕ → List ℕ
quoted_of bytes =
    if list_all is_plain bytes then codes "'" ++ bytes ++ codes "'"
    else codes "X'" ++ encode_upper bytes ++ codes "'"

-- a value as text
abbrev pub text_of : Value → List ℕ
text_of Null = codes "NULL"
text_of (Int n) = signed_decimal n
text_of (Text bytes) = quoted_of bytes

-- the values behind the first one, each after a comma and a space
abbrev pub more_text_of : List Value → List ℕ
more_text_of [] = []
more_text_of (v ∷ vs) = codes ", " ++ text_of v ++ more_text_of vs

-- the values of a row with a comma and a space between two
abbrev pub row_text_of : List Value → List ℕ
row_text_of [] = []
row_text_of (v ∷ vs) = text_of v ++ more_text_of vs
