-- The order of values and of keys.
use Rattle.std.specs.Prelude.{List}
use Rattle.std.specs.declared.cmp.Ordering.{Ordering}
use Rattle.std.specs.declared.cmp.Ordering.TheVariants.{Less, Equal, Greater}
use Rattle.std.specs.Ordering.{nat_cmp, int_cmp}
use Rattle.std.specs.Cmp.Lexicographic.{slice_cmp}
use Rattle.val_types.specs.declared.value.Value.{Value}
use Rattle.val_types.specs.declared.value.Value.TheVariants.{Null, Int, Text}

-- NULL first, then numbers by size, then texts byte by byte
abbrev pub value_order : Value → Value → Ordering
value_order Null Null = Equal
value_order Null (Int n) = Less
value_order Null (Text t) = Less
value_order (Int m) Null = Greater
value_order (Int m) (Int n) = int_cmp m n
value_order (Int m) (Text t) = Less
value_order (Text s) Null = Greater
value_order (Text s) (Int n) = Greater
value_order (Text s) (Text t) = slice_cmp nat_cmp s t

-- keys by their first values that differ; the front of a key comes before it
abbrev pub key_order : List Value → List Value → Ordering
key_order = slice_cmp value_order
