-- What holds of all that is worked on, and stays where changes are taken back and committed.
use Rattle.std.proofs.Common.{◌≡◌, ℕ, true, List, [], ◌∷◌, drop, take, Option, Some, None, refl, sym, ap, ◌∙◌}
use Rattle.std.specs.Prelude.{is_some, unwrap_or}
use Rattle.std.specs.Option.{option_and_then}
use Rattle.std.proofs.lemmas.Bool.{and_parts}
use Rattle.std.proofs.lemmas.List.{take-append-drop}
use Rattle.val_types.specs.declared.change.Change.{Change}
use Rattle.val_types.specs.declared.change.Change.TheVariants.{Insert, Update, Delete}
use Rattle.val_types.specs.Changes.{inverse}
use Rattle.auto_inc.specs.declared.counters.Counter.{Counter}
use Rattle.table_rules.specs.Tables.{Table}
use Rattle.table_rules.specs.Changes.{applied}
use Rattle.table_rules.specs.Stored.{all_applied, all_inverse}
use Rattle.table_rules.specs.Stores.{Store, definitions_of, can_take_back, keeps_inverses, IsWhole, Still}
use Rattle.table_rules.proofs.Equations.{applied_none, applied_front, all_applied_behind}
use Rattle.table_rules.proofs.Storing.{some_same, all_inverse_front, definitions_kept, turn_back}
use Rattle.table_rules.proofs.Leading.{all_inverse_both, none_taken_back, last_taken_back}
use Rattle.catalog.specs.catalog_objects.declared.object.Object.{Object}
use Rattle.exec_state.specs.dml_rows.Noted.{StaysReversible}
use Rattle.prog_work.specs.Contents.{IsTogether, without_changes}
use Rattle.prog_work.specs.Together.{AreTogether}

-- ---- changes one after the other

then_some : {A B : Type 0} (f : A → Option B) (o : Option A) (y : B) → option_and_then f o ≡ Some y → (z : A) × (o ≡ Some z) × (f z ≡ Some y)
then_some f (Some z) y e = (z, refl, e)
then_some f None y e = cc

is_its_value : {A : Type 0} (o : Option A) (d : A) → is_some o ≡ true → o ≡ Some (unwrap_or o d)
is_its_value None d e = cc
is_its_value (Some a) d e = refl

pub all_definitions : (xs : List Change) (ts after : List Table) → all_applied xs ts ≡ Some after → definitions_of after ≡ definitions_of ts
all_definitions [] ts after e = ap definitions_of (sym (some_same ts after (sym (applied_none ts) ∙ e)))
all_definitions (x ∷ xs) ts after e =
    let mid = then_some (all_applied xs) (applied x ts) after (sym (applied_front x xs ts) ∙ e) in
    all_definitions xs mid.0 after mid.2 ∙ definitions_kept x ts mid.0 mid.1

inverse_twice : (x : Change) → inverse (inverse x) ≡ x
inverse_twice (Insert name row) = refl
inverse_twice (Update name before after) = refl
inverse_twice (Delete name row) = refl

all_inverse_twice : (xs : List Change) → all_inverse (all_inverse xs) ≡ xs
all_inverse_twice [] = refl
all_inverse_twice (x ∷ xs) =
    ap all_inverse (all_inverse_front x xs)
    ∙ all_inverse_both (all_inverse xs) (inverse x ∷ [])
    ∙ ap (λ (c : Change). c ∷ all_inverse (all_inverse xs)) (inverse_twice x)
    ∙ ap (λ (cs : List Change). x ∷ cs) (all_inverse_twice xs)

-- ---- what can be taken back

pub can_be : (store : Store) (xs : List Change) → can_take_back store xs ≡ true → is_some (all_applied (all_inverse xs) store.tables) ≡ true
unfolding can_take_back
can_be store xs can = (and_parts (is_some (all_applied (all_inverse xs) store.tables)) (keeps_inverses store xs) can).0

without_is : (store : Store) (xs : List Change) → can_take_back store xs ≡ true → all_applied (all_inverse xs) store.tables ≡ Some (without_changes xs store.tables)
without_is store xs can = is_its_value (all_applied (all_inverse xs) store.tables) store.tables (can_be store xs can)

-- what taking all changes back leads to, with the last of them taken back before
older_back : (store : Store) (xs : List Change) (mark : ℕ) (tables : List Table) → all_applied (all_inverse (drop mark xs)) store.tables ≡ Some tables
    → all_applied (all_inverse xs) store.tables ≡ all_applied (all_inverse (take mark xs)) tables
older_back store xs mark tables gone =
    ap (λ (cs : List Change). all_applied (all_inverse cs) store.tables) (sym (take-append-drop mark xs))
    ∙ ap (λ (cs : List Change). all_applied cs store.tables) (all_inverse_both (take mark xs) (drop mark xs))
    ∙ all_applied_behind (all_inverse (drop mark xs)) (all_inverse (take mark xs)) store.tables
    ∙ ap (option_and_then (all_applied (all_inverse (take mark xs)))) gone

-- what is committed stays what it is where some changes are taken back
pub value_is : {A : Type 0} (o p : Option A) (d e : A) → o ≡ p → is_some o ≡ true → unwrap_or p e ≡ unwrap_or o d
value_is None p d e same some = cc
value_is (Some a) p d e same some = ap (λ (o : Option _). unwrap_or o e) (sym same)

pub still_committed : (store : Store) (xs : List Change) (mark : ℕ) (tables : List Table) → can_take_back store xs ≡ true
    → all_applied (all_inverse (drop mark xs)) store.tables ≡ Some tables → without_changes (take mark xs) tables ≡ without_changes xs store.tables
still_committed store xs mark tables can gone =
    value_is (all_applied (all_inverse xs) store.tables) (all_applied (all_inverse (take mark xs)) tables) store.tables tables
    (older_back store xs mark tables gone) (can_be store xs can)

-- ---- rows that are there to stay

pub committed_is : (objects : List Object) (store : Store) (changes : List Change) (counters : List Counter) → AreTogether objects store changes counters
    → without_changes changes store.tables ≡ store.committed
committed_is objects store changes counters h = ap (λ (o : Option (List Table)). unwrap_or o store.tables) h.apart

-- where no change is open, the rows that stand are there to stay
pub stands_committed : (store : Store) → all_applied (all_inverse []) store.tables ≡ Some store.committed → store.committed ≡ store.tables
stands_committed store apart = some_same store.committed store.tables (sym apart ∙ applied_none store.tables)

pub none_apart : (store : Store) → store.committed ≡ store.tables → all_applied (all_inverse []) store.tables ≡ Some store.committed
none_apart store same = applied_none store.tables ∙ ap (λ (ts : List Table). Some ts) (sym same)

-- the same was done to both
pub both_apart : (f : List Table → List Table) (store new : Store) → all_applied (all_inverse []) store.tables ≡ Some store.committed
    → new.tables ≡ f store.tables → new.committed ≡ f store.committed → all_applied (all_inverse []) new.tables ≡ Some new.committed
both_apart f store new apart tables committed = none_apart new (committed ∙ ap f (stands_committed store apart) ∙ sym tables)

-- ---- what holds of all

pub may_take_back : (objects : List Object) (store : Store) (changes : List Change) (counters : List Counter) (mark : ℕ)
    → AreTogether objects store changes counters → can_take_back store (drop mark changes) ≡ true
may_take_back objects store changes counters mark h = last_taken_back store changes mark h.reversible

pub together_back : (objects : List Object) (old new : Store) (changes now : List Change) (counters : List Counter) (mark : ℕ)
    → AreTogether objects old changes counters → all_applied (all_inverse (drop mark changes)) old.tables ≡ Some new.tables
    → now ≡ take mark changes → StaysReversible old changes new now → Still old new → AreTogether objects new now counters
together_back objects old new changes now counters mark h gone left stays still = record {
  reversible = stays 0 h.reversible;
  apart = ap (λ (cs : List Change). all_applied (all_inverse cs) new.tables) left ∙ sym (older_back old changes mark new.tables gone) ∙ h.apart
      ∙ ap (λ (ts : List Table). Some ts) (sym still.committed);
  theirs = all_definitions (all_inverse (drop mark changes)) old.tables new.tables gone ∙ h.theirs;
  counted = h.counted;
}

pub together_committed : (objects : List Object) (old new : Store) (changes : List Change) (counters : List Counter)
    → AreTogether objects old changes counters → new.tables ≡ old.tables → new.committed ≡ new.tables → AreTogether objects new [] counters
together_committed objects old new changes counters h tables committed = record {
  reversible = none_taken_back new;
  apart = none_apart new committed;
  theirs = ap definitions_of tables ∙ h.theirs;
  counted = h.counted;
}

pub together_nothing : AreTogether [] (record { tables = []; kept = []; committed = []; room = [] }) [] []
together_nothing = record { reversible = none_taken_back _; apart = applied_none []; theirs = refl; counted = refl }

pub are_together : (objects : List Object) (store : Store) (changes : List Change) (counters : List Counter) → AreTogether objects store changes counters → IsWhole store
    → IsTogether (record { objects = objects; tables = store.tables; changes = changes; counters = counters })
are_together objects store changes counters h whole =
    let back = without_is store changes h.reversible in
    let turned = turn_back (all_inverse changes) store.tables (without_changes changes store.tables) whole.rows back in
    record {
      back = back;
      made = ap (λ (cs : List Change). all_applied cs (without_changes changes store.tables)) (sym (all_inverse_twice changes)) ∙ turned.0;
      kept = whole.rows;
      committed = turned.1;
      theirs = h.theirs;
      counted = h.counted;
    }
