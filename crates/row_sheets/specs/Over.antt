-- Slots over slots: those of a transaction's entries before those of the committed rows of their keys.
use Rattle.std.specs.Prelude.{◌≡◌, false, List, [], ◌∷◌, Option, Some, None}
use Rattle.std.specs.declared.cmp.Ordering.{Ordering}
use Rattle.std.specs.declared.cmp.Ordering.TheVariants.{Less, Equal, Greater}
use Rattle.val_types.specs.declared.value.Value.{Value}
use Rattle.std.specs.List.{AllByRecursion}
use Rattle.val_types.specs.Order.{key_order}
use Rattle.val_types.specs.Keys.{same_values}
use Rattle.row_sheets.specs.Slots.{Slot, held, drop_slot}

-- one of three, by an order
abbrev pub by_order : {A : Type 0} → Ordering → A → A → A → A
by_order Less a b c = a
by_order Equal a b c = b
by_order Greater a b c = c

-- one slot, and what comes behind it, over others
abbrev pub over_step : Slot → (List Slot → List Slot) → List Slot → List Slot
over_step e on [] = e ∷ on []
over_step e on (c ∷ cs) = by_order (key_order e.key c.key) (e ∷ on (c ∷ cs)) (e ∷ on cs) (c ∷ over_step e on cs)

-- slots over others, both in the order of their keys: of each key that of the first ones, else that of the others
abbrev pub over : List Slot → List Slot → List Slot
over [] cs = cs
over (e ∷ es) cs = over_step e (over es) cs

-- the committed slots once an entry is settled: its row put in, or the row of its key taken out
abbrev pub settled_by : List Value → Option (List Value) → List Slot → List Slot
settled_by key None cs = drop_slot key cs
settled_by key (Some row) cs = over (record { key = key; row = Some row } ∷ []) cs

-- the committed slots once entries are settled one after the other, in whatever order they stand
abbrev pub settled : List Slot → List Slot → List Slot
settled [] cs = cs
settled (e ∷ es) cs = settled es (settled_by e.key e.row cs)

-- entries are just those of some slots, in an order of their own
abbrev pub AreJust : List Slot → List Slot → Type 0
AreJust [] es = es ≡ []
AreJust (t ∷ ts) es = (held t.key es ≡ Some t.row) × AreJust ts (drop_slot t.key es)

-- no two slots have the same key
abbrev pub AreOfOneEach : List Slot → Type 0
AreOfOneEach [] = Unit {0}
AreOfOneEach (t ∷ ts) = AllByRecursion (λ later. same_values later.key t.key ≡ false) ts × AreOfOneEach ts
