-- Changes of rows by themselves: the table that one is made to, and the one that takes it back.
use Rattle.std.specs.Prelude.{ℕ, List}
use Rattle.val_types.specs.declared.change.Change.{Change}
use Rattle.val_types.specs.declared.change.Change.TheVariants.{Insert, Update, Delete}

-- the name of the table that a change is made to
abbrev pub table_of : Change → List ℕ
table_of (Insert name row) = name
table_of (Update name before after) = name
table_of (Delete name row) = name

-- the change that takes another one back
abbrev pub inverse : Change → Change
inverse (Insert name row) = Delete name row
inverse (Update name before after) = Update name after before
inverse (Delete name row) = Insert name row
