-- What had room among objects has room among fewer of them.
use Rattle.std.proofs.Common.{◌≡◌, ℕ, ◌≤◌, Bool, true, false, cond, List, [], ◌∷◌, length, Option, Some, None, refl, sym, ap, ◌∙◌, arith}
use Rattle.std.specs.Prelude.{◌&&◌, not, nat_eq, filter, is_none, nat_le}
use Rattle.std.specs.Cmp.Lexicographic.{pointwise}
use Rattle.std.proofs.lemmas.Bool.{leb-false, lt-leb, eqb-true}
use Rattle.val_types.specs.declared.definitions.TableDef.{TableDef}
use Rattle.sql_tree.specs.Statement.{trigger}
use Rattle.catalog_show_create.specs.catalog_rules.Names.{same_name, first_made}
use Rattle.catalog_show_create.specs.catalog_rules.Objects.{Object, table, function, procedure, reaction, name_of, as_table, as_function, as_procedure, as_trigger, as_trigger_for, table_in, is_table, is_program, trigger_table}
use Rattle.catalog_show_create.specs.catalog_rules.Creating.{goes_with_table, is_function_named, is_procedure_named, is_trigger_named}
use Rattle.catalog_show_create.specs.Stated.{HasRoom}

-- which objects stay
abbrev pub Keep : Type 0
Keep = Object → Bool

-- the first of two that is there
abbrev first_or : {A : Type 0} → Option A → Option A → Option A
first_or x rest = elim x [ None ↦ rest | Some a ↦ Some a ]

none_behind : {A : Type 0} (f : Object → Option A) (keep : Keep) (os : List Object) → first_made f os ≡ None → first_made f (filter keep os) ≡ None
none_behind f keep [] none = refl
none_behind {A = A} f keep (o ∷ os) none = by (f o) (keep o) refl none (λ rest. none_behind f keep os rest)
  where
    by : (x : Option A) (k : Bool) → f o ≡ x → first_or x (first_made f os) ≡ None → (first_made f os ≡ None → first_made f (filter keep os) ≡ None)
        → first_made f (cond k (o ∷ filter keep os) (filter keep os)) ≡ None
    by None true is none behind = rw is (behind none)
    by None false is none behind = behind none
    by (Some a) k is none behind = cc

fewer : (test : Object → Bool) (keep : Keep) (os : List Object) → length (filter test (filter keep os)) ≤ length (filter test os)
fewer test keep [] = omega arith
fewer test keep (o ∷ os) = by (test o) (keep o) refl (fewer test keep os)
  where
    by : (t k : Bool) → test o ≡ t → length (filter test (filter keep os)) ≤ length (filter test os)
        → length (filter test (cond k (o ∷ filter keep os) (filter keep os))) ≤ length (cond t (o ∷ filter test os) (filter test os))
    by true true is low = rw is (omega arith)
    by true false is low = omega arith
    by false true is low = rw is low
    by false false is low = low

few_still : (m n : ℕ) → m ≤ n → nat_le 1000 n ≡ false → nat_le 1000 m ≡ false
few_still m n low few = lt-leb 1000 m (omega (arith, leb-false 1000 n few))

-- the objects that stay leave a table there
module _ (keep : Keep) (on : List ℕ) (stays : (d : TableDef) → same_name on d.name ≡ true → keep (table d) ≡ true) where
  skip : (o : Object) (os : List Object) (k : Bool) → as_table on o ≡ None → is_none (table_in os on) ≡ false → is_none (table_in (cond k (o ∷ os) os) on) ≡ false
  skip o os true none there = ap (λ x. is_none (first_or x (table_in os on))) none ∙ there
  skip o os false none there = there

  there_still : (os : List Object) → is_none (table_in os on) ≡ false → is_none (table_in (filter keep os) on) ≡ false
  there_still [] there = cc
  there_still (table d ∷ os) there = by (same_name on d.name) refl there (λ rest. there_still os rest)
    where
      by : (b : Bool) → same_name on d.name ≡ b → is_none (first_or (cond b (Some d) None) (table_in os on)) ≡ false
          → (is_none (table_in os on) ≡ false → is_none (table_in (filter keep os) on) ≡ false)
          → is_none (table_in (cond (keep (table d)) (table d ∷ filter keep os) (filter keep os)) on) ≡ false
      by true is there behind = rw (stays d is) (ap (λ b. is_none (first_or (cond b (Some d) None) (table_in (filter keep os) on))) is)
      by false is there behind = skip (table d) (filter keep os) (keep (table d)) (ap (λ b. cond b (Some d) None) is) (behind there)
  there_still (function p ∷ os) there = skip (function p) (filter keep os) (keep (function p)) refl (there_still os there)
  there_still (procedure p ∷ os) there = skip (procedure p) (filter keep os) (keep (procedure p)) refl (there_still os there)
  there_still (reaction t ∷ os) there = skip (reaction t) (filter keep os) (keep (reaction t)) refl (there_still os there)

-- where a trigger stays, its table does
abbrev pub KeepsFor : Keep → Object → Type 0
KeepsFor keep (table d) = Unit {0}
KeepsFor keep (function p) = Unit {0}
KeepsFor keep (procedure p) = Unit {0}
KeepsFor keep (reaction t) = (d : TableDef) → same_name (trigger_table t) d.name ≡ true → keep (table d) ≡ true

pub room_still : (keep : Keep) (os : List Object) (o : Object) → KeepsFor keep o → HasRoom os o → HasRoom (filter keep os) o
room_still keep os (table d) stays room = (none_behind (as_table d.name) keep os room.0, few_still _ _ (fewer is_table keep os) room.1)
room_still keep os (function p) stays room = (none_behind (as_function (name_of p)) keep os room.0, few_still _ _ (fewer is_program keep os) room.1)
room_still keep os (procedure p) stays room = (none_behind (as_procedure (name_of p)) keep os room.0, few_still _ _ (fewer is_program keep os) room.1)
room_still keep os (reaction (trigger name time event on body)) stays room = (
  ((there_still keep on stays os room.0.0.0, none_behind (as_trigger name) keep os room.0.0.1), none_behind (as_trigger_for on time event) keep os room.0.1),
  few_still _ _ (fewer is_program keep os) room.1,
)

-- ---- what DROP takes out

same_step : (t : Bool) (x y : ℕ) (xs ys : List ℕ) → nat_eq x y ≡ t → (t && pointwise nat_eq xs ys) ≡ true → (pointwise nat_eq xs ys ≡ true → xs ≡ ys) → x ∷ xs ≡ y ∷ ys
same_step true x y xs ys one more behind = ap (λ n. n ∷ xs) (eqb-true x y one) ∙ ap (λ ns. y ∷ ns) (behind more)
same_step false x y xs ys one more behind = cc

same_is : (a b : List ℕ) → same_name a b ≡ true → a ≡ b
same_is [] [] e = refl
same_is [] (y ∷ ys) e = cc
same_is (x ∷ xs) [] e = cc
same_is (x ∷ xs) (y ∷ ys) e = same_step (nat_eq x y) x y xs ys refl e (same_is xs ys)

not_true : (b : Bool) → not b ≡ true → b ≡ false
not_true true e = cc
not_true false e = refl

-- a trigger that stays behind DROP TABLE is of another table
pub table_goes : (name : List ℕ) (o : Object) → not (goes_with_table name o) ≡ true → KeepsFor (λ p. not (goes_with_table name p)) o
table_goes name (table d) stays = tt
table_goes name (function p) stays = tt
table_goes name (procedure p) stays = tt
table_goes name (reaction t) stays = λ d same.
    ap not (ap (same_name name) (sym (same_is (trigger_table t) d.name same)) ∙ not_true (same_name name (trigger_table t)) stays)

pub function_goes : (name : List ℕ) (o : Object) → not (is_function_named name o) ≡ true → KeepsFor (λ p. not (is_function_named name p)) o
function_goes name (table d) stays = tt
function_goes name (function p) stays = tt
function_goes name (procedure p) stays = tt
function_goes name (reaction t) stays = λ d same. refl

pub procedure_goes : (name : List ℕ) (o : Object) → not (is_procedure_named name o) ≡ true → KeepsFor (λ p. not (is_procedure_named name p)) o
procedure_goes name (table d) stays = tt
procedure_goes name (function p) stays = tt
procedure_goes name (procedure p) stays = tt
procedure_goes name (reaction t) stays = λ d same. refl

pub trigger_goes : (name : List ℕ) (o : Object) → not (is_trigger_named name o) ≡ true → KeepsFor (λ p. not (is_trigger_named name p)) o
trigger_goes name (table d) stays = tt
trigger_goes name (function p) stays = tt
trigger_goes name (procedure p) stays = tt
trigger_goes name (reaction t) stays = λ d same. refl
