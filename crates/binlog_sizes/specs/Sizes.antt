-- How many bytes a transaction has: its items as events of a log, and its changes where they are kept.
--
-- A change is kept as its kind 1, the length of its table's name 1, the name, and each of its rows as a count 1 and its values. NULL has
-- 1 byte, a number 9, a text 5 and its bytes.
use Rattle.std.specs.Prelude.{ℕ, ◌+◌, ◌^◌, ◌||◌, nat_lt, Bool, List, [], ◌∷◌, length}
use Rattle.val_types.specs.declared.change.Change.{Change}
use Rattle.val_types.specs.declared.change.Change.TheVariants.{Insert, Update, Delete}
use Rattle.val_types.specs.declared.value.Value.{Value}
use Rattle.val_types.specs.declared.value.Value.TheVariants.{Null, Int, Text}
use Rattle.row_events.specs.log_entries.declared.entries.Item.{Item}
use Rattle.row_events.specs.log_model.Items.{item_size}

-- ---- changes

abbrev pub value_size : Value → ℕ
value_size Null = 1
value_size (Int n) = 9
value_size (Text t) = 5 + length t

abbrev pub values_size : List Value → ℕ
values_size [] = 0
values_size (v ∷ vs) = value_size v + values_size vs

abbrev pub row_size : List Value → ℕ
row_size row = 1 + values_size row

abbrev pub change_size : Change → ℕ
change_size (Insert name row) = 2 + length name + row_size row
change_size (Update name before after) = 2 + length name + row_size before + row_size after
change_size (Delete name row) = 2 + length name + row_size row

abbrev pub changes_size : List Change → ℕ
changes_size [] = 0
changes_size (c ∷ cs) = change_size c + changes_size cs

-- ---- items

-- how many bytes the events of items have
abbrev pub all_sizes : List Item → ℕ
all_sizes [] = 0
all_sizes (i ∷ is) = item_size i + all_sizes is

-- how many the changes of items have
abbrev pub all_changes_size : List Item → ℕ
all_changes_size [] = 0
all_changes_size (i ∷ is) = changes_size i.changes + all_changes_size is

-- ---- the limits

-- the greatest length of a text, as of a command: 1 MiB
abbrev pub most_text : ℕ
most_text = 2 ^ 20

-- the greatest sum of each: 64 MiB
abbrev pub most_bytes : ℕ
most_bytes = 67108864

-- whether the items of a transaction have too many bytes, as events or as changes
abbrev pub are_too_large : List Item → Bool
are_too_large is = nat_lt most_bytes (all_sizes is) || nat_lt most_bytes (all_changes_size is)
