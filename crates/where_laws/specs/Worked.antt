-- A table, what is round a WHERE over it, and conditions, of which worked examples are made: `t` (id, v) with the key id, and `s`
-- (id, k, w) with the key id, w as a text.
use Rattle.std.specs.Prelude.{ℕ, pos, List, [], ◌∷◌, Option, Some}
use Rattle.val_types.specs.declared.value.Value.{Value}
use Rattle.val_types.specs.declared.value.Value.TheVariants.{Int}
use Rattle.val_types.specs.declared.definitions.ColType.TheVariants as types
use Rattle.val_types.specs.declared.ops.BinOp.TheVariants as ops
use Rattle.sql_tree.specs.Tree.{Tree, binary, part}
use Rattle.sql_meaning.specs.Frames.{World, Frame, only_locals}
use Rattle.sql_meaning.specs.Running.{world_of}
use Rattle.sql_meaning.specs.Worked.{setting_of, t_alone, t_def, a_def}
use Rattle.where_laws.specs.Facts.{equal, Fact}
use Rattle.where_laws.specs.Known.{facts_of}
use Rattle.where_laws.specs.Keys.{key_named}

-- a world without programs, and with nothing running
abbrev pub world : World
world = world_of (setting_of t_alone) 16 []

-- nothing in scope; a local of a name and a value; a row of `a` (id, k) in view outside
abbrev pub plain : Frame
plain = only_locals []

abbrev pub with_local : List ℕ → Value → Frame
with_local x v = only_locals (record { name = x; kind = types.Int; value = v } ∷ [])

abbrev pub inside_a : List Value → Frame
inside_a row = record (only_locals []) { views = record { definition = a_def; row = row } ∷ [] }

-- in a trigger of `a` with a new row
abbrev pub with_new : List Value → Frame
with_new row = record (only_locals []) { new_row = Some (record { definition = a_def; row = row }) }

-- what a WHERE over `t` names of its primary key
abbrev pub key_of_t : Frame → Tree → Option (List Value)
key_of_t frame condition = key_named (facts_of world frame t_def (part condition)) t_def.primary

-- that a column of `t` is a number
abbrev pub is_number : ℕ → ℕ → Fact
is_number place k = record { place = place; way = equal; value = Int (pos k) }

abbrev pub equals : Tree → Tree → Tree
equals a b = binary ops.Equal a b

abbrev pub and_also : Tree → Tree → Tree
and_also a b = binary ops.And a b
