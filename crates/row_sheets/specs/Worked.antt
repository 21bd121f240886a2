-- A transaction on a small table, of which worked examples are made.
use Rattle.std.specs.Prelude.{codes, pos, ℕ, List, [], ◌∷◌, Some, None}
use Rattle.val_types.specs.declared.value.Value.{Value}
use Rattle.val_types.specs.declared.value.Value.TheVariants.{Null, Int, Text}
use Rattle.val_types.specs.declared.definitions.KeyDef.{KeyDef}
use Rattle.table_rules.specs.Worked.{red, blue}
use Rattle.row_sheets.specs.Claims.{Claim}
use Rattle.row_sheets.specs.Sheets.{Entry}

-- the committed pens, red with the number 0 and blue with 1
abbrev pub committed : List (List Value)
committed = red ∷ blue ∷ []

-- the unique key of a pen's text
abbrev pub by_text : KeyDef
by_text = record { name = codes "u"; columns = 1 ∷ [] }

-- the values of that key that a text is
abbrev pub text : List ℕ → List Value
text bytes = Text bytes ∷ []

-- a third pen, which has the text of the red one
abbrev pub third : List Value
third = Int (pos 3) ∷ Text (codes "red") ∷ Int (pos 5) ∷ Int (pos 8) ∷ []

-- the red pen with another text
abbrev pub pink : List Value
pink = Int (pos 1) ∷ Text (codes "pink") ∷ Int (pos 5) ∷ Null ∷ []

-- DELETE of the red pen, then INSERT of the third
abbrev pub red_for_third : List Entry
red_for_third = record { bearer = red; of = Some 0; present = None } ∷ record { bearer = third; of = None; present = Some third } ∷ []

-- the third one has the text that it put where it was not
abbrev pub third_has_red : List Claim
third_has_red = record { values = text (codes "red"); holder = Some (Int (pos 3) ∷ []) } ∷ []

-- UPDATE of the red pen
abbrev pub red_made_pink : List Entry
red_made_pink = record { bearer = red; of = Some 0; present = Some pink } ∷ []

abbrev pub red_has_pink : List Claim
red_has_pink = record { values = text (codes "pink"); holder = Some (Int (pos 1) ∷ []) } ∷ []
