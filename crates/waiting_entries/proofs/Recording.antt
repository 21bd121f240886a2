-- The records of transactions and definitions have bodies.
use Rattle.std.proofs.Common.{◌≡◌, ◌<◌, ◌≤◌, ◌^◌, ℕ, ◌+◌, ◌||◌, Bool, true, false, List, [], ◌∷◌, ◌++◌, length, Result, Ok, Err, IfOk, refl, ap, arith}
use Rattle.std.specs.Prelude.{nat_lt}
use Rattle.std.specs.List.{AllByRecursion}
use Rattle.std.proofs.lemmas.Bool.{ltb-false}
use Rattle.std.proofs.lemmas.List.{length-append}
use Rattle.val_types.specs.declared.change.Change.{Change}
use Rattle.val_types.specs.declared.change.Change.TheVariants.{Insert, Update, Delete}
use Rattle.byte_fields.specs.Field.{number_bytes}
use Rattle.byte_fields.proofs.FieldLaws.{field_width}
use Rattle.binlog_items.specs.binlog_cache.Sums.{changes_in}
use Rattle.binlog_items.specs.binlog_cache.binlog_sizes.Sizes.{all_changes_size, all_sizes, are_too_large, change_size, changes_size, most_bytes}
use Rattle.commit_store.specs.store_model.log_entries.declared.entries.Item.{Item}
use Rattle.commit_store.specs.store_model.declared.record.Head.{Head}
use Rattle.commit_store.specs.store_model.declared.record.Record.TheVariants as records
use Rattle.commit_store.specs.store_model.Bodies.{IsChange, IsHead, body_of, changes_bytes, head_bytes, text_bytes}
use Rattle.commit_store.specs.store_model.Laws.{ChangesAreCounted}
use Rattle.waiting_entries.specs.Waiting.{HasBody}

-- what holds anyway holds at Ok
pub ok_of : {A E X : Type 0} (r : Result A E) → X → IfOk r (λ _. X)
ok_of (Ok a) x = x
ok_of (Err e) x = tt

-- ---- how many bytes changes have

sizes_add : (cs ds : List Change) → changes_size (cs ++ ds) ≡ changes_size cs + changes_size ds
sizes_add [] ds = omega arith
sizes_add (c ∷ cs) ds = omega (arith, sizes_add cs ds)

pub sizes_are : (is : List Item) → changes_size (changes_in is) ≡ all_changes_size is
sizes_are [] = refl
sizes_are (i ∷ is) = omega (arith, sizes_add i.changes (changes_in is), sizes_are is)

small_by : (b c : Bool) → b || c ≡ false → c ≡ false
small_by true c e = cc
small_by false c e = e

pub small : (is : List Item) (cs : List Change) → are_too_large is ≡ false → cs ≡ changes_in is → changes_size cs ≤ most_bytes
small is cs none same =
    let few : all_changes_size is ≤ most_bytes =
    ltb-false most_bytes (all_changes_size is) (small_by (nat_lt most_bytes (all_sizes is)) (nat_lt most_bytes (all_changes_size is)) none) in
    omega (arith, few, ap changes_size same, sizes_are is)

-- there are no more of them than bytes
some_size : (c : Change) → 1 ≤ change_size c
some_size (Insert name row) = omega arith
some_size (Update name before after) = omega arith
some_size (Delete name row) = omega arith

few_changes : (cs : List Change) → length cs ≤ changes_size cs
few_changes [] = omega arith
few_changes (c ∷ cs) = omega (arith, some_size c, few_changes cs)

head_size : (kind : ℕ) (head : Head) → length (head_bytes kind head) ≡ 17
head_size kind head =
    omega (
      arith,
      length-append (number_bytes 1 kind ++ number_bytes 8 head.number ++ number_bytes 4 head.log) (number_bytes 4 head.pos),
      length-append (number_bytes 1 kind ++ number_bytes 8 head.number) (number_bytes 4 head.log),
      length-append (number_bytes 1 kind) (number_bytes 8 head.number),
      field_width 1 kind,
      field_width 8 head.number,
      field_width 4 head.log,
      field_width 4 head.pos,
    )

pub transaction_body : (head : Head) (cs : List Change) → IsHead head → ChangesAreCounted → AllByRecursion IsChange cs → changes_size cs ≤ most_bytes → HasBody (records.Transaction head cs)
unfolding body_of
transaction_body head cs is counted each few = record {
  form = (is, record { few = omega (arith, few, few_changes cs); each = each });
  fits = omega (arith, length-append (head_bytes 1 head) (changes_bytes cs), head_size 1 head, counted cs, few);
}

pub definition_body : (head : Head) (text : List ℕ) → IsHead head → length text < 2 ^ 31 → HasBody (records.Definition head text)
unfolding body_of
definition_body head text is few = record {
  form = (is, omega (arith, few));
  fits = omega (arith, length-append (head_bytes 2 head) (text_bytes 4 text), head_size 2 head, length-append (number_bytes 4 (length text)) text, field_width 4 (length text), few);
}
