-- What may be known of a row before a condition is evaluated: how values in its columns compare with others.
use Rattle.std.specs.Prelude.{ℕ, Bool, true, ◌&&◌, List, [], ◌∷◌, Option, Some, None, slice_index_or}
use Rattle.std.specs.declared.cmp.Ordering.{Ordering}
use Rattle.std.specs.Ordering.{is_eq, is_ne, is_lt, is_le, is_gt, is_ge}
use Rattle.val_types.specs.declared.value.Value.{Value}
use Rattle.val_types.specs.declared.value.Value.TheVariants.{Null}
use Rattle.val_types.specs.declared.ops.BinOp.{BinOp}
use Rattle.val_types.specs.declared.ops.BinOp.TheVariants.{Equal, NullSafeEqual, NotEqual, Less, LessOrEqual, Greater, GreaterOrEqual}
use Rattle.val_types.specs.Order.{value_order}

-- how a value stands to another
pub data Way : Type 0 where
  equal : Way
  unequal : Way
  below : Way
  at_most : Way
  above : Way
  at_least : Way

-- whether it stands so, by their order
abbrev pub stands_so : Way → Ordering → Bool
stands_so equal order = is_eq order
stands_so unequal order = is_ne order
stands_so below order = is_lt order
stands_so at_most order = is_le order
stands_so above order = is_gt order
stands_so at_least order = is_ge order

-- how the other stands to it
abbrev pub turned : Way → Way
turned equal = equal
turned unequal = unequal
turned below = above
turned at_most = at_least
turned above = below
turned at_least = at_most

-- what a comparison asks of its operands, None for an operator that is none
abbrev pub way_of : BinOp → Option Way
way_of Equal = Some equal
way_of NullSafeEqual = Some equal
way_of NotEqual = Some unequal
way_of Less = Some below
way_of LessOrEqual = Some at_most
way_of Greater = Some above
way_of GreaterOrEqual = Some at_least
way_of op = None

-- that the value in a column stands so to another
pub record Fact : Type 0 where
  pub place : ℕ
  pub way : Way
  pub value : Value

-- whether it is so of a row
abbrev pub is_so : Fact → List Value → Bool
is_so fact row = stands_so fact.way (value_order (slice_index_or row fact.place Null) fact.value)

-- whether some facts are all so of a row
abbrev pub agrees : List Fact → List Value → Bool
agrees [] row = true
agrees (fact ∷ facts) row = is_so fact row && agrees facts row
