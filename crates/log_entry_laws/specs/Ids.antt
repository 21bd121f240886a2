-- The ids that a log can say of the items that it has by their texts.
use Rattle.std.specs.Prelude.{◌-◌, ◌^◌, Bool, true, false, List, [], ◌∷◌, ℤ, pos, ◌≤ℤ◌, IfSome}
use Rattle.log_model.specs.log_entries.declared.carried.Carried.{Carried}
use Rattle.log_model.specs.log_entries.declared.entries.Item.{Item}

-- An id that a log can say: it is written by its 64 bits and read as a natural number, so it is one below 2^63.
pub record IsId (id : ℤ) : Type 0 where
  pub least : pos 0 ≤ℤ id
  pub most : id ≤ℤ pos (2 ^ 63 - 1)

-- the last insert id and the first generated value, where they are carried
pub record HasIds (c : Carried) : Type 0 where
  pub last_id : IfSome c.last_id IsId
  pub first : IfSome c.first IsId

-- a text needs them of its log, rows do not
abbrev pub SaysIds : (rows : Bool) → Item → Type 0
SaysIds true i = Unit {0}
SaysIds false i = HasIds i.carried

abbrev pub AllSayIds : List Item → Type 0
AllSayIds [] = Unit {0}
AllSayIds (i ∷ is) = SaysIds i.rows i × AllSayIds is
