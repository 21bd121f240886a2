-- Small groups, of which worked examples are made. The table `t` has two numbers, `id` and `v`, of which the first is its key; the
-- table `a` has the same columns, and `id` counts by AUTO_INCREMENT.
use Rattle.std.specs.Prelude.{ℕ, ◌+◌, List, [], ◌∷◌, codes, replicate, Some, None, Result, Ok, Err, true, false, pos}
use Rattle.val_types.specs.declared.definitions.ColType.TheVariants.{Int as IntType}
use Rattle.val_types.specs.declared.definitions.ColumnDef.{ColumnDef}
use Rattle.val_types.specs.declared.definitions.TableDef.{TableDef}
use Rattle.val_types.specs.declared.value.Value.{Value}
use Rattle.val_types.specs.declared.value.Value.TheVariants.{Int}
use Rattle.auto_inc.specs.declared.counters.Counter.{Counter}
use Rattle.event_codec.specs.declared.event.RowsKind.{RowsKind}
use Rattle.event_codec.specs.Event.{Body, query, rows, Map}
use Rattle.port_traits.specs.declared.identity.Identity.{Identity}
use Rattle.port_traits.specs.declared.identity.Draw.{Draw}
use Rattle.session_ctx.specs.catalog_rules.Bases.{Base}
use Rattle.session_ctx.specs.catalog_rules.Objects.{table}
use Rattle.binlog_sizes.specs.log_model.Events.{Placed}
use Rattle.binlog_sizes.specs.log_model.Groups.{Group, txn}
use Rattle.apply_model.specs.Stops.{Differs}
use Rattle.apply_model.specs.Groups.{Applied, group_carried}

abbrev pub column : List ℕ → ColumnDef
column name = record { name = name; kind = IntType; nullable = false; preset = None }

abbrev pub t_definition : TableDef
t_definition = record {
  name = codes "t";
  columns = column (codes "id") ∷ column (codes "v") ∷ [];
  primary = 0 ∷ [];
  uniques = [];
  auto = None;
}

abbrev pub pair : ℕ → ℕ → List Value
pair a b = Int (pos a) ∷ Int (pos b) ∷ []

-- the table with some rows
abbrev pub t_with : List (List Value) → Base
t_with rs = record { catalog = table t_definition ∷ []; tables = record { definition = t_definition; rows = rs } ∷ [] }

-- the table that counts, with some rows, and its counter
abbrev pub a_definition : TableDef
a_definition = record t_definition { name = codes "a"; auto = Some 0 }

abbrev pub a_with : List (List Value) → Base
a_with rs = record { catalog = table a_definition ∷ []; tables = record { definition = a_definition; rows = rs } ∷ [] }

abbrev pub a_counter : ℕ → List Counter
a_counter next = record { table = codes "a"; value = next } ∷ []

abbrev pub replica : Identity
replica = record { server_id = 2; user = codes "rep@localhost" }

abbrev pub no_draw : Draw
no_draw = record { now = 0; sys = 0; seed1 = 0; seed2 = 0; uuid = replicate 16 0 }

-- the map of the table with the id 1, and of one with other columns
abbrev pub t_map : Map
t_map = record { id = 1; name = codes "t"; kinds = 3 ∷ 3 ∷ []; metadata = []; nulls = 0 ∷ [] }

abbrev pub wide_map : Map
wide_map = record { id = 1; name = codes "t"; kinds = 3 ∷ 8 ∷ []; metadata = []; nulls = 0 ∷ [] }

-- a row of two small numbers in bytes
abbrev pub pair_bytes : ℕ → ℕ → List ℕ
pair_bytes a b = 0 ∷ a ∷ 0 ∷ 0 ∷ 0 ∷ b ∷ 0 ∷ 0 ∷ 0 ∷ []

-- rows of the map with the id 1, which end their item
abbrev pub rows_of : RowsKind → List ℕ → Body
rows_of kind bytes = rows (record { kind = kind; id = 1; ends = true; columns = 2; rows = bytes })

-- events of 40 bytes each, from a place on
abbrev pub placed_from : ℕ → List Body → List Placed
placed_from place [] = []
placed_from place (b ∷ bs) = record { pos = place; event = record { stamp = 7; size = 40; body = b } } ∷ placed_from (place + 40) bs

-- a transaction at 206, whose items begin at 246
abbrev pub transaction_of : List Body → Group
transaction_of bs = record {
  form = txn (record { stamp = 7; size = 40; query = record { thread = 1; step = None; text = codes "BEGIN" } }) (placed_from 246 bs) 2;
  begin = 206;
  end = 400;
}

-- a text of the first session
abbrev pub text_of : List ℕ → Body
text_of text = query (record { thread = 1; step = None; text = text })

abbrev pub carried_on : List (List Value) → List Body → Result Applied Differs
carried_on rs bs = group_carried replica no_draw (t_with rs) [] (transaction_of bs)

abbrev pub leaves : List (List Value) → Result Applied Differs
leaves rs = Ok (record { base = t_with rs; counters = [] })

abbrev pub stops : ℕ → ℕ → List ℕ → List Value → Result Applied Differs
stops place code name key = Err (record { place = place; code = code; table = name; key = key })

-- the same over the table that counts
abbrev pub counted_on : ℕ → List Body → Result Applied Differs
counted_on next bs = group_carried replica no_draw (a_with []) (a_counter next) (transaction_of bs)

abbrev pub counts : List (List Value) → ℕ → Result Applied Differs
counts rs next = Ok (record { base = a_with rs; counters = a_counter next })
