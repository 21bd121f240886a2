-- A table of two numbers, a row that is put in, changed and taken out, and a text that needs much.
use Rattle.std.specs.Prelude.{ℤ, pos, neg_ℤ, true, false, List, [], ◌∷◌, codes, Some, None}
use Rattle.val_types.specs.declared.change.Change.{Change}
use Rattle.val_types.specs.declared.change.Change.TheVariants.{Insert, Update, Delete}
use Rattle.val_types.specs.declared.value.Value.{Value}
use Rattle.val_types.specs.declared.value.Value.TheVariants.{Int, Null, Text}
use Rattle.val_types.specs.declared.definitions.TableDef.{TableDef}
use Rattle.log_entries.specs.declared.carried.Carried.{Carried}
use Rattle.log_entries.specs.declared.entries.Item.{Item}
use Rattle.log_model.specs.Worked.{table_named}

abbrev pub row : ℤ → ℤ → List Value
row a b = Int a ∷ Int b ∷ []

abbrev pub small_tables : List TableDef
small_tables = table_named (codes "t") (codes "v") true ∷ []

abbrev pub small_changes : List Change
small_changes = Insert (codes "t") (row (pos 1) (pos 1)) ∷ Update (codes "t") (row (pos 1) (pos 1)) (row (pos 1) (pos 2)) ∷ Delete (codes "t") (row (pos 1) (pos 2)) ∷ []

-- what a text carries that needs all that there is
abbrev pub needing : Carried
needing = record {
  stamp = 1700000001;
  connection = 2;
  inc = 10;
  off = 20;
  last_id = Some (pos 5);
  first = Some (pos 2);
  seeds = Some (1, 2);
  vars = (codes "x", Null) ∷ (codes "y", Int (neg_ℤ (pos 2))) ∷ (codes "z", Text (codes "a")) ∷ [];
}

abbrev pub text_item : Item
text_item = record { text = codes "DO 1"; carried = needing; rows = false; defs = []; changes = [] }

abbrev pub rows_item : Item
rows_item = record {
  text = [];
  carried = record { stamp = 1700000002; connection = 1; inc = 1; off = 1; last_id = None; first = None; seeds = None; vars = [] };
  rows = true;
  defs = small_tables;
  changes = small_changes;
}
