-- Rows and changes have as many bytes as is counted of them.
use Rattle.std.proofs.Common.{◌≡◌, ℕ, ◌+◌, List, [], ◌∷◌, ◌++◌, length, refl, arith}
use Rattle.std.specs.Prelude.{flat_map}
use Rattle.std.specs.Int.{w64, cast_unsigned}
use Rattle.std.proofs.lemmas.List.{length-append}
use Rattle.val_types.specs.declared.value.Value.{Value}
use Rattle.val_types.specs.declared.value.Value.TheVariants.{Null, Int, Text}
use Rattle.val_types.specs.declared.change.Change.{Change}
use Rattle.val_types.specs.declared.change.Change.TheVariants.{Insert, Update, Delete}
use Rattle.byte_fields.specs.Field.{number_bytes}
use Rattle.byte_fields.proofs.FieldLaws.{field_width}
use Rattle.binlog_sizes.specs.Sizes.{value_size, values_size, row_size, change_size, changes_size}
use Rattle.store_model.specs.Bodies.{text_bytes, value_bytes, row_bytes, change_bytes, changes_bytes}

text_size : (width : ℕ) (text : List ℕ) → length (text_bytes width text) ≡ width + length text
text_size width text = omega (arith, length-append (number_bytes width (length text)) text, field_width width (length text))

value_has : (v : Value) → length (value_bytes v) ≡ value_size v
value_has Null = field_width 1 0
value_has (Int n) =
    omega (arith, length-append (number_bytes 1 1) (number_bytes 8 (cast_unsigned w64 n)), field_width 1 1, field_width 8 (cast_unsigned w64 n))
value_has (Text t) = omega (arith, length-append (number_bytes 1 2) (text_bytes 4 t), field_width 1 2, text_size 4 t)

values_have : (vs : List Value) → length (flat_map value_bytes vs) ≡ values_size vs
values_have [] = refl
values_have (v ∷ vs) = omega (arith, length-append (value_bytes v) (flat_map value_bytes vs), value_has v, values_have vs)

pub row_has : (row : List Value) → length (row_bytes row) ≡ row_size row
unfolding row_bytes
row_has row = omega (arith, length-append (number_bytes 1 (length row)) (flat_map value_bytes row), field_width 1 (length row), values_have row)

-- behind its kind and the name of its table
named_has : (kind : ℕ) (name : List ℕ) → length (number_bytes 1 kind ++ text_bytes 1 name) ≡ 2 + length name
named_has kind name = omega (arith, length-append (number_bytes 1 kind) (text_bytes 1 name), field_width 1 kind, text_size 1 name)

change_has : (c : Change) → length (change_bytes c) ≡ change_size c
unfolding change_bytes
change_has (Insert name row) = omega (arith, length-append (number_bytes 1 1 ++ text_bytes 1 name) (row_bytes row), named_has 1 name, row_has row)
change_has (Update name before after) =
    omega (
      arith,
      length-append (number_bytes 1 2 ++ text_bytes 1 name ++ row_bytes before) (row_bytes after),
      length-append (number_bytes 1 2 ++ text_bytes 1 name) (row_bytes before),
      named_has 2 name,
      row_has before,
      row_has after,
    )
change_has (Delete name row) = omega (arith, length-append (number_bytes 1 3 ++ text_bytes 1 name) (row_bytes row), named_has 3 name, row_has row)

all_have : (cs : List Change) → length (flat_map change_bytes cs) ≡ changes_size cs
all_have [] = refl
all_have (c ∷ cs) = omega (arith, length-append (change_bytes c) (flat_map change_bytes cs), change_has c, all_have cs)

pub changes_have : (cs : List Change) → length (changes_bytes cs) ≡ 4 + changes_size cs
changes_have cs = omega (arith, length-append (number_bytes 4 (length cs)) (flat_map change_bytes cs), field_width 4 (length cs), all_have cs)
