-- The records of what a replica does have bodies.
use Rattle.std.proofs.Common.{◌≡◌, ◌<◌, ◌≤◌, ◌^◌, ℕ, ◌+◌, ◌-◌, List, [], ◌∷◌, ◌++◌, length, Result, Ok, Err, IfOk, ap, ◌∙◌, arith}
use Rattle.std.specs.Prelude.{min}
use Rattle.std.specs.List.{AllByRecursion}
use Rattle.std.proofs.lemmas.List.{length-append}
use Rattle.val_types.specs.declared.change.Change.{Change}
use Rattle.val_types.specs.declared.change.Change.TheVariants.{Insert, Update, Delete}
use Rattle.byte_fields.specs.Field.{number_bytes}
use Rattle.byte_fields.proofs.FieldLaws.{field_width}
use Rattle.commit_store.specs.Next.{prepared_of}
use Rattle.commit_store.specs.declared.prepared.Prepared.{Prepared}
use Rattle.commit_store.specs.store_model.declared.record.Head.{Head}
use Rattle.commit_store.specs.store_model.declared.record.Kind.TheVariants as kind
use Rattle.commit_store.specs.store_model.declared.record.Record.{Record}
use Rattle.commit_store.specs.store_model.declared.record.Record.TheVariants.{TransactionApplied, DefinitionApplied, PlaceMoved}
use Rattle.commit_store.specs.store_model.Bodies.{IsChange, IsHead, IsRecord, body_of, changes_bytes, head_bytes, text_bytes}
use Rattle.commit_store.specs.store_model.Laws.{ChangesAreCounted}
use Rattle.replica_model.specs.apply_model.binlog_sizes.Sizes.{change_size, changes_size, most_bytes}
use Rattle.replica_node.specs.Records.{IsMadeOf}

-- a replica's record that has a body, whose length four bytes say
pub record HasBody (r : Record) : Type 0 where
  pub form : IsRecord kind.Replica r
  pub fits : length (body_of r) < 2 ^ 32

-- it was made of one that is the same
pub made_of : {E : Type 0} (result : Result Prepared E) (r now : Record) → IfOk result (λ p. p ≡ prepared_of r) → r ≡ now → HasBody now → IfOk result (λ p. IsMadeOf p now)
made_of (Ok p) r now made same body = record { made = made ∙ ap prepared_of same; form = body.form; fits = body.fits }
made_of (Err e) r now made same body = tt

-- ---- changes

pub not_bounded : (n : ℕ) → min n (2 ^ 64 - 1) ≤ 67108864 → n ≤ 67108864
not_bounded n few = omega (arith, few)

-- there are no more of them than bytes
some_size : (c : Change) → 1 ≤ change_size c
some_size (Insert name row) = omega arith
some_size (Update name before after) = omega arith
some_size (Delete name row) = omega arith

few_changes : (cs : List Change) → length cs ≤ changes_size cs
few_changes [] = omega arith
few_changes (c ∷ cs) = omega (arith, some_size c, few_changes cs)

head_size : (n : ℕ) (head : Head) → length (head_bytes n head) ≡ 17
head_size n head =
    omega (
      arith,
      length-append (number_bytes 1 n ++ number_bytes 8 head.number ++ number_bytes 4 head.log) (number_bytes 4 head.pos),
      length-append (number_bytes 1 n ++ number_bytes 8 head.number) (number_bytes 4 head.log),
      length-append (number_bytes 1 n) (number_bytes 8 head.number),
      field_width 1 n,
      field_width 8 head.number,
      field_width 4 head.log,
      field_width 4 head.pos,
    )

pub transaction_body : (head : Head) (cs : List Change) → IsHead head → ChangesAreCounted → AllByRecursion IsChange cs → changes_size cs ≤ most_bytes → HasBody (TransactionApplied head cs)
unfolding body_of
transaction_body head cs is counted each few = record {
  form = (is, record { few = omega (arith, few, few_changes cs); each = each });
  fits = omega (arith, length-append (head_bytes 17 head) (changes_bytes cs), head_size 17 head, counted cs, few);
}

-- ---- a text, and a place

pub definition_body : (head : Head) (text : List ℕ) → IsHead head → length text < 2147483648 → HasBody (DefinitionApplied head text)
unfolding body_of
definition_body head text is few = record {
  form = (is, omega (arith, few));
  fits = omega (arith, length-append (head_bytes 18 head) (text_bytes 4 text), head_size 18 head, length-append (number_bytes 4 (length text)) text, field_width 4 (length text), few);
}

pub place_body : (head : Head) → IsHead head → HasBody (PlaceMoved head)
unfolding body_of
place_body head is = record { form = is; fits = omega (arith, head_size 19 head) }
