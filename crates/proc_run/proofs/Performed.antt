-- Changes, SELECT and DO, and other statements.
use Rattle.std.proofs.Common.{◌≡◌, ℕ, true, false, List, None, Result, Err, refl}
use Rattle.sql_tree.specs.Statement.{Statement, create_table, create_function, create_procedure, create_trigger, drop_table, drop_function, drop_procedure, drop_trigger, truncate, insert_into, replace_into, update_rows, delete_rows, select, evaluate, set_all, call_procedure, begin, commit, rollback, savepoint, rollback_to, release_savepoint, block, if_steps, while_steps, return_value}
use Rattle.sql_locals.specs.declared.locals.Local.{Local}
use Rattle.proc_parts.specs.proc_model.Talk.{Rules}
use Rattle.proc_parts.specs.proc_model.Procedures.{Held, fail, is_plain}
use Rattle.proc_parts.specs.declared.runner.RunRefusal.{RunRefusal}
use Rattle.proc_parts.specs.declared.runner.RunRefusal.TheVariants.{Sql}
use Rattle.proc_parts.specs.declared.world.World.{World}
use Rattle.proc_parts.specs.Calls.{EndsBy}
use Rattle.proc_parts.specs.Parts.{plain_at, step_at}
use Rattle.proc_run.specs.Steps.{has_form, is_leaf}

module _ (w : World) (locals : List Local) (held : Held) where
  plain_is : (s : Statement) → is_plain s ≡ true → step_at w locals s held ≡ plain_at w locals s held
  unfolding step_at plain_at
  plain_is (create_table t) is = cc
  plain_is (create_function p) is = cc
  plain_is (create_procedure p) is = cc
  plain_is (create_trigger t) is = cc
  plain_is (drop_table n) is = cc
  plain_is (drop_function n) is = cc
  plain_is (drop_procedure n) is = cc
  plain_is (drop_trigger n) is = cc
  plain_is (truncate n) is = cc
  plain_is (insert_into ignore t cs from us) is = refl
  plain_is (replace_into t cs from) is = refl
  plain_is (update_rows t ss w' os l) is = refl
  plain_is (delete_rows t w' os l) is = refl
  plain_is (select q) is = refl
  plain_is (evaluate ts) is = refl
  plain_is (set_all as') is = cc
  plain_is (call_procedure n ts) is = cc
  plain_is begin is = cc
  plain_is commit is = cc
  plain_is rollback is = cc
  plain_is (savepoint n) is = cc
  plain_is (rollback_to n) is = cc
  plain_is (release_savepoint n) is = cc
  plain_is (block ds ss) is = cc
  plain_is (if_steps bs o) is = cc
  plain_is (while_steps c ss) is = cc
  plain_is (return_value e) is = cc

  other_is : (s : Statement) → has_form s ≡ false → step_at w locals s held ≡ fail {A = List Local} 30005 held
  unfolding step_at
  other_is (create_table t) is = refl
  other_is (create_function p) is = refl
  other_is (create_procedure p) is = refl
  other_is (create_trigger t) is = refl
  other_is (drop_table n) is = refl
  other_is (drop_function n) is = refl
  other_is (drop_procedure n) is = refl
  other_is (drop_trigger n) is = refl
  other_is (truncate n) is = refl
  other_is (insert_into ignore t cs from us) is = cc
  other_is (replace_into t cs from) is = cc
  other_is (update_rows t ss w' os l) is = cc
  other_is (delete_rows t w' os l) is = cc
  other_is (select q) is = cc
  other_is (evaluate ts) is = cc
  other_is (set_all as') is = cc
  other_is (call_procedure n ts) is = cc
  other_is begin is = refl
  other_is commit is = refl
  other_is rollback is = refl
  other_is (savepoint n) is = refl
  other_is (rollback_to n) is = refl
  other_is (release_savepoint n) is = refl
  other_is (block ds ss) is = cc
  other_is (if_steps bs o) is = cc
  other_is (while_steps c ss) is = cc
  other_is (return_value e) is = refl

-- ---- which function a statement is handed to

-- a change, a SELECT or a DO holds no other statement
pub plain_leaf : (s : Statement) → is_plain s ≡ true → is_leaf s ≡ true
plain_leaf (create_table t) is = refl
plain_leaf (create_function p) is = refl
plain_leaf (create_procedure p) is = refl
plain_leaf (create_trigger t) is = refl
plain_leaf (drop_table n) is = refl
plain_leaf (drop_function n) is = refl
plain_leaf (drop_procedure n) is = refl
plain_leaf (drop_trigger n) is = refl
plain_leaf (truncate n) is = refl
plain_leaf (insert_into ignore t cs from us) is = refl
plain_leaf (replace_into t cs from) is = refl
plain_leaf (update_rows t ss w os l) is = refl
plain_leaf (delete_rows t w os l) is = refl
plain_leaf (select q) is = refl
plain_leaf (evaluate ts) is = refl
plain_leaf (set_all as') is = refl
plain_leaf (call_procedure n ts) is = refl
plain_leaf begin is = refl
plain_leaf commit is = refl
plain_leaf rollback is = refl
plain_leaf (savepoint n) is = refl
plain_leaf (rollback_to n) is = refl
plain_leaf (release_savepoint n) is = refl
plain_leaf (block ds ss) is = cc
plain_leaf (if_steps bs o) is = cc
plain_leaf (while_steps c ss) is = cc
plain_leaf (return_value e) is = refl

module _ {S : Type 0} (rules : Rules S) (faults : S → ℕ) (w : World) (locals : List Local) where
  pub step_plain : {A : Type 0} (view' : A → List Local) (s : Statement) (r : Result A RunRefusal) (held held' : Held) (before after : S) → is_plain s ≡ true
      → EndsBy rules faults view' r held' before (plain_at w locals s held) after → EndsBy rules faults view' r held' before (step_at w locals s held) after
  step_plain view' s r held held' before after is h = rw (plain_is w locals held s is) h

  pub step_none : {A : Type 0} (view' : A → List Local) (s : Statement) (held : Held) (here : S) → has_form s ≡ false
      → EndsBy rules faults view' (Err (Sql 30005 None)) held here (step_at w locals s held) here
  step_none view' s held here is = rw (other_is w locals held s is) (refl, refl)
