-- The statements of a procedure, one at a time.
use Rattle.std.proofs.Common.{◌≡◌, ◌≤◌, ◌<◌, ◌+◌, ◌-◌, ℕ, zero, suc, Bool, true, false, List, length, get_or, drop, take, Option, None, Result, Ok, Err, refl, sym, ap, ◌∙◌, rules, arith, cond}
use Rattle.std.proofs.lemmas.List.{drop_all}
use Rattle.val_types.specs.declared.list.List.{List as Items}
use Rattle.sql_tree.specs.Tree.{Tree}
use Rattle.sql_tree.specs.Statement.{Declared, Statement, Statements, Branches, branch, Otherwise, no_else, else_steps, Program, Trigger, block, if_steps, while_steps}
use Rattle.sql_tree.specs.View.{view_tree}
use Rattle.sql_tree.specs.StatementView.{view, view_branch, view_branches, view_otherwise, view_statements, statement_step, branch_step, program_step, trigger_step}
use Rattle.sql_tree.specs.declared.statements.Branch.{Branch, out-Branch}
use Rattle.sql_tree.specs.declared.statements.Stmt.{Stmt, If, the_lemmas}
use Rattle.sql_tree.specs.declared.statements.Stmt.TheFolds.{fold_out-Branch}
use Rattle.sql_locals.specs.declared.locals.Local.{Local}
use Rattle.proc_parts.specs.sql_meaning.Within.{do_one}
use Rattle.proc_parts.proofs.of_sql_evaluation.Branching.{rest_is}
use Rattle.proc_parts.specs.proc_model.Talk.{Rules, Led, Talk, ends}
use Rattle.proc_parts.specs.proc_model.Procedures.{Held, Ending, done, failed, Action, ◌>>=◌, pure, fail, turn_spent, spend_turn, steps}
use Rattle.proc_parts.specs.declared.runner.RunRefusal.{RunRefusal}
use Rattle.proc_parts.specs.declared.runner.RunRefusal.TheVariants.{Sql}
use Rattle.proc_parts.specs.declared.world.World.{World}
use Rattle.proc_parts.specs.Calls.{EndsBy, always, plainly, refusal_of, world_of}
use Rattle.proc_parts.specs.Parts.{values_at, value_at, holds_at, all_declared_at, step_at}
use Rattle.proc_run.specs.Steps.{steps_at, otherwise_at, branches_at, turns_at}
use Rattle.proc_parts.proofs.Behind.{Onto, onto_start, onto_on, onto_ends, onto_done, failed_ends}

-- ---- views

pub if_view : (arms : Items Branch) (otherwise : Option (Items Stmt)) → view (If arms otherwise) ≡ if_steps (view_branches arms) (view_otherwise otherwise)
if_view arms otherwise = search (rules, the_lemmas)

-- ---- statements, one after the other

module _ {S : Type 0} (rules : Rules S) (faults : S → ℕ) (w : World) where
  steps_next : (locals : List Local) (xs : List Stmt) (i : ℕ) (x : Stmt) (held : Held) → i < length xs → x ≡ get_or xs i x
      → steps_at w locals (view_statements (drop i xs)) held ≡ (step_at w locals (view x) >>= λ next. steps_at w next (view_statements (drop (i + 1) xs))) held
  unfolding steps_at step_at
  steps_next locals xs i x held within is = ap (λ (ys : List Stmt). steps (world_of w) locals (view_statements ys) held) (rest_is xs i x within is)

  pub steps_more : (locals locals' : List Local) (xs : List Stmt) (i : ℕ) (x : Stmt) (u : Unit {0}) (held held' : Held) (start before after : S) (whole : Talk (Ending (List Local)))
      → i < length xs → x ≡ get_or xs i x → EndsBy rules faults (always locals') (Ok u) held' before (step_at w locals (view x) held) after → faults before ≤ faults after
      → Onto rules faults (steps_at w locals (view_statements (drop i xs)) held) before whole start
      → Onto rules faults (steps_at w locals' (view_statements (drop (i + 1) xs)) held') after whole start
  steps_more locals locals' xs i x u held held' start before after whole within is h later so_far =
      onto_on rules faults _ (steps_at w locals (view_statements (drop i xs)) held) whole after before start
      (rw (steps_next locals xs i x held within is) (onto_done rules faults (step_at w locals (view x)) (λ next. steps_at w next (view_statements (drop (i + 1) xs))) locals' held held' before after later h)) so_far

  pub steps_fail : {B : Type 0} (locals locals' : List Local) (other : B → List Local) (xs : List Stmt) (i : ℕ) (x : Stmt) (e : RunRefusal) (held held' : Held) (start before after : S) (whole : Talk (Ending (List Local)))
      → i < length xs → x ≡ get_or xs i x → EndsBy {A = Unit {0}} rules faults (always locals') (Err e) held' before (step_at w locals (view x) held) after
      → Onto rules faults (steps_at w locals (view_statements (drop i xs)) held) before whole start
      → EndsBy rules faults other (Err e) held' start whole after
  steps_fail locals locals' other xs i x e held held' start before after whole within is h so_far =
      onto_ends rules faults other (Err e) held' (steps_at w locals (view_statements (drop i xs)) held) whole before start after so_far
      (rw (steps_next locals xs i x held within is) (failed_ends rules faults (step_at w locals (view x)) (λ next. steps_at w next (view_statements (drop (i + 1) xs))) (always locals') other e held held' before after h))

  pub steps_end : (locals : List Local) (xs : List Stmt) (i : ℕ) (u : Unit {0}) (held : Held) (start here : S) (whole : Talk (Ending (List Local))) → length xs ≤ i
      → Onto rules faults (steps_at w locals (view_statements (drop i xs)) held) here whole start → EndsBy rules faults (always locals) (Ok u) held start whole here
  unfolding steps_at
  steps_end locals xs i u held start here whole past so_far = so_far.on (done locals held) here (rw (drop_all i xs past) (refl, refl))

  pub steps_start : (locals : List Local) (xs : List Stmt) (held : Held) (here : S)
      → Onto rules faults (steps_at w locals (view_statements xs) held) here (steps_at w locals (view_statements xs) held) here
  steps_start locals xs held here = onto_start rules faults _ here

  -- ---- a block

  block_behind : List Local → Statements → List Local → Action (List Local)
  block_behind locals ss inner = steps_at w inner ss >>= λ after. pure (take (length locals) after)

  block_is : (locals : List Local) (ds : List Declared) (ss : Statements) (held : Held)
      → step_at w locals (block ds ss) held ≡ (all_declared_at w locals ds >>= block_behind locals ss) held
  unfolding step_at steps_at all_declared_at block_behind
  block_is locals ds ss held = refl

  block_is_behind : (locals inner : List Local) (ss : Statements) (held : Held) → block_behind locals ss inner held ≡ (steps_at w inner ss >>= λ after. pure (take (length locals) after)) held
  unfolding block_behind
  block_is_behind locals inner ss held = refl

  pub block_undeclared : {B : Type 0} (other : B → List Local) (locals inner : List Local) (ds : List Declared) (ss : Statements) (e : RunRefusal) (held held' : Held) (before after : S)
      → EndsBy {A = Unit {0}} rules faults (always inner) (Err e) held' before (all_declared_at w locals ds held) after → EndsBy rules faults other (Err e) held' before (step_at w locals (block ds ss) held) after
  block_undeclared other locals inner ds ss e held held' before after h =
      rw (block_is locals ds ss held) (failed_ends rules faults (all_declared_at w locals ds) (block_behind locals ss) (always inner) other e held held' before after h)

  block_onto : (locals inner : List Local) (ds : List Declared) (ss : Statements) (held held' : Held) (before mid : S)
      → Led rules (all_declared_at w locals ds held) before (done inner held') mid → faults before ≤ faults mid
      → Onto rules faults ((steps_at w inner ss >>= λ after. pure (take (length locals) after)) held') mid (step_at w locals (block ds ss) held) before
  block_onto locals inner ds ss held held' before mid h later =
      rw (block_is locals ds ss held, sym (block_is_behind locals inner ss held')) (onto_done rules faults (all_declared_at w locals ds) (block_behind locals ss) inner held held' before mid later h)

  pub block_fails : {B : Type 0} (other : B → List Local) (locals inner last : List Local) (ds : List Declared) (ss : Statements) (u : Unit {0}) (e : RunRefusal) (held held' held'' : Held) (before mid after : S)
      → EndsBy rules faults (always inner) (Ok u) held' before (all_declared_at w locals ds held) mid → faults before ≤ faults mid
      → EndsBy {A = Unit {0}} rules faults (always last) (Err e) held'' mid (steps_at w inner ss held') after → EndsBy rules faults other (Err e) held'' before (step_at w locals (block ds ss) held) after
  block_fails other locals inner last ds ss u e held held' held'' before mid after h later k =
      onto_ends rules faults other (Err e) held'' ((steps_at w inner ss >>= λ after. pure (take (length locals) after)) held') (step_at w locals (block ds ss) held) mid before after
      (block_onto locals inner ds ss held held' before mid h later)
      (failed_ends rules faults (steps_at w inner ss) (λ after. pure (take (length locals) after)) (always last) other e held' held'' mid after k)

  pub block_done : (locals inner last cut : List Local) (ds : List Declared) (ss : Statements) (u v x : Unit {0}) (n : ℕ) (held held' held'' : Held) (before mid after : S)
      → EndsBy rules faults (always inner) (Ok u) held' before (all_declared_at w locals ds held) mid → faults before ≤ faults mid
      → EndsBy rules faults (always last) (Ok v) held'' mid (steps_at w inner ss held') after → faults mid ≤ faults after
      → n ≡ length locals → cut ≡ take n last
      → EndsBy rules faults (always cut) (Ok x) held'' before (step_at w locals (block ds ss) held) after
  block_done locals inner last cut ds ss u v x n held held' held'' before mid after h later k later' count is =
      (block_onto locals inner ds ss held held' before mid h later).on (done cut held'') after
      ((onto_done rules faults (steps_at w inner ss) (λ after. pure (take (length locals) after)) last held' held'' mid after later' k).on (done cut held'') after
      (rw (is, count) (refl, refl)))

  -- ---- IF

  pub else_absent : (locals : List Local) (u : Unit {0}) (held : Held) (here : S) → EndsBy rules faults (always locals) (Ok u) held here (otherwise_at w locals no_else held) here
  unfolding otherwise_at
  else_absent locals u held here = (refl, refl)

  pub else_there : (locals locals' : List Local) (ss : Statements) (r : Result (Unit {0}) RunRefusal) (held held' : Held) (before after : S)
      → EndsBy rules faults (always locals') r held' before (steps_at w locals ss held) after → EndsBy rules faults (always locals') r held' before (otherwise_at w locals (else_steps ss) held) after
  unfolding otherwise_at steps_at
  else_there locals locals' ss r held held' before after h = h

  pub if_start : (locals : List Local) (bs : Branches) (o : Otherwise) (held : Held) (here : S) → Onto rules faults (branches_at w locals bs o held) here (step_at w locals (if_steps bs o) held) here
  unfolding branches_at step_at
  if_start locals bs o held here = onto_start rules faults _ here

  branch_of_out : (x : Branch) → view_branch x ≡ (view_tree (out-Branch x).condition, view_statements (out-Branch x).steps)
  branch_of_out x = fold_out-Branch Statement (Tree × Statements) Program Trigger statement_step branch_step program_step trigger_step x

  branch_behind : List Local → Statements → Branches → Otherwise → Bool → Action (List Local)
  branch_behind locals ss bs o goes = cond goes (steps_at w locals ss) (branches_at w locals bs o)

  branch_first : (locals : List Local) (c : Tree) (ss : Statements) (bs : Branches) (o : Otherwise) (held : Held)
      → branches_at w locals (branch c ss bs) o held ≡ (holds_at w locals (do_one c) >>= branch_behind locals ss bs o) held
  unfolding branches_at holds_at value_at values_at steps_at branch_behind
  branch_first locals c ss bs o held = refl

  branches_next : (locals : List Local) (xs : List Branch) (o : Otherwise) (i : ℕ) (x : Branch) (q : Statement) (held : Held) → i < length xs → x ≡ get_or xs i x
      → q ≡ do_one (view_tree (out-Branch x).condition)
      → branches_at w locals (view_branches (drop i xs)) o held
      ≡ (holds_at w locals q >>= branch_behind locals (view_statements (out-Branch x).steps) (view_branches (drop (i + 1) xs)) o) held
  branches_next locals xs o i x q held within is asked =
      ap (λ (ys : List Branch). branches_at w locals (view_branches ys) o held) (rest_is xs i x within is)
      ∙ ap (λ (y : Tree × Statements). branches_at w locals (branch y.0 y.1 (view_branches (drop (i + 1) xs))) o held) (branch_of_out x)
      ∙ branch_first locals (view_tree (out-Branch x).condition) (view_statements (out-Branch x).steps) (view_branches (drop (i + 1) xs)) o held
      ∙ ap (λ (s : Statement). (holds_at w locals s >>= branch_behind locals (view_statements (out-Branch x).steps) (view_branches (drop (i + 1) xs)) o) held) (sym asked)

  -- a condition does not hold
  pub branches_skip : (locals : List Local) (xs : List Branch) (o : Otherwise) (i : ℕ) (x : Branch) (q : Statement) (held held' : Held) (start before after : S) (whole : Talk (Ending (List Local)))
      → i < length xs → x ≡ get_or xs i x → q ≡ do_one (view_tree (out-Branch x).condition) → EndsBy rules faults plainly (Ok false) held' before (holds_at w locals q held) after → faults before ≤ faults after
      → Onto rules faults (branches_at w locals (view_branches (drop i xs)) o held) before whole start
      → Onto rules faults (branches_at w locals (view_branches (drop (i + 1) xs)) o held') after whole start
  unfolding branch_behind
  branches_skip locals xs o i x q held held' start before after whole within is asked h later so_far =
      onto_on rules faults _ (branches_at w locals (view_branches (drop i xs)) o held) whole after before start
      (rw (branches_next locals xs o i x q held within is asked) (onto_done rules faults (holds_at w locals q) (branch_behind locals (view_statements (out-Branch x).steps) (view_branches (drop (i + 1) xs)) o) false held held' before after later h)) so_far

  -- a condition fails
  pub branches_fail : {B : Type 0} (other : B → List Local) (locals : List Local) (xs : List Branch) (o : Otherwise) (i : ℕ) (x : Branch) (q : Statement) (e : RunRefusal) (held held' : Held) (start before after : S) (whole : Talk (Ending (List Local)))
      → i < length xs → x ≡ get_or xs i x → q ≡ do_one (view_tree (out-Branch x).condition) → EndsBy {A = Bool} rules faults plainly (Err e) held' before (holds_at w locals q held) after
      → Onto rules faults (branches_at w locals (view_branches (drop i xs)) o held) before whole start → EndsBy rules faults other (Err e) held' start whole after
  branches_fail other locals xs o i x q e held held' start before after whole within is asked h so_far =
      onto_ends rules faults other (Err e) held' (branches_at w locals (view_branches (drop i xs)) o held) whole before start after so_far
      (rw (branches_next locals xs o i x q held within is asked) (failed_ends rules faults (holds_at w locals q) (branch_behind locals (view_statements (out-Branch x).steps) (view_branches (drop (i + 1) xs)) o) plainly other e held held' before after h))

  -- a condition holds
  pub branches_here : (locals locals' : List Local) (xs : List Branch) (o : Otherwise) (i : ℕ) (x : Branch) (q : Statement) (r : Result (Unit {0}) RunRefusal) (held held' held'' : Held) (start before mid after : S) (whole : Talk (Ending (List Local)))
      → i < length xs → x ≡ get_or xs i x → q ≡ do_one (view_tree (out-Branch x).condition) → EndsBy rules faults plainly (Ok true) held' before (holds_at w locals q held) mid → faults before ≤ faults mid
      → EndsBy rules faults (always locals') r held'' mid (steps_at w locals (view_statements (out-Branch x).steps) held') after
      → Onto rules faults (branches_at w locals (view_branches (drop i xs)) o held) before whole start → EndsBy rules faults (always locals') r held'' start whole after
  unfolding branch_behind
  branches_here locals locals' xs o i x q r held held' held'' start before mid after whole within is asked h later k so_far =
      onto_ends rules faults (always locals') r held'' (steps_at w locals (view_statements (out-Branch x).steps) held') whole mid start after
      (onto_on rules faults _ (branches_at w locals (view_branches (drop i xs)) o held) whole mid before start
      (rw (branches_next locals xs o i x q held within is asked) (onto_done rules faults (holds_at w locals q) (branch_behind locals (view_statements (out-Branch x).steps) (view_branches (drop (i + 1) xs)) o) true held held' before mid later h)) so_far) k

  -- no condition held
  pub branches_end : (locals locals' : List Local) (xs : List Branch) (o : Otherwise) (i : ℕ) (r : Result (Unit {0}) RunRefusal) (held held' : Held) (start before after : S) (whole : Talk (Ending (List Local))) → length xs ≤ i
      → Onto rules faults (branches_at w locals (view_branches (drop i xs)) o held) before whole start
      → EndsBy rules faults (always locals') r held' before (otherwise_at w locals o held) after → EndsBy rules faults (always locals') r held' start whole after
  unfolding branches_at otherwise_at
  branches_end locals locals' xs o i r held held' start before after whole past so_far h =
      onto_ends rules faults (always locals') r held' (branches_at w locals (view_branches (drop i xs)) o held) whole before start after so_far (rw (drop_all i xs past) h)

  -- ---- WHILE

  turn_behind : ℕ → Statement → Statements → List Local → Bool → Action (List Local)
  turn_behind n q ss locals goes = cond goes (spend_turn >>= λ _. steps_at w locals ss >>= turns_at n w q ss) (pure locals)

  last_behind : List Local → Bool → Action (List Local)
  last_behind locals goes = cond goes (fail 30004) (pure locals)

  turn_next : (n : ℕ) (q : Statement) (ss : Statements) (locals : List Local) (held : Held) → turns_at (suc n) w q ss locals held ≡ (holds_at w locals q >>= turn_behind n q ss locals) held
  unfolding turns_at turn_behind
  turn_next n q ss locals held = refl

  turn_last : (q : Statement) (ss : Statements) (locals : List Local) (held : Held) → turns_at zero w q ss locals held ≡ (holds_at w locals q >>= last_behind locals) held
  unfolding turns_at last_behind
  turn_last q ss locals held = refl

  -- What the turns to come do from here, where there is some bound on them.
  pub record TurnsTo (q : Statement) (ss : Statements) (locals : List Local) (held : Held) (here : S) (whole : Talk (Ending (List Local))) (start : S) : Type 0 where
    pub bound : ℕ
    pub enough : held.turns ≤ bound
    pub onto : Onto rules faults (turns_at bound w q ss locals held) here whole start

  turns_are : (c : Tree) (ss : Statements) (locals : List Local) (held : Held) → step_at w locals (while_steps c ss) held ≡ turns_at held.turns w (do_one c) ss locals held
  unfolding turns_at step_at steps_at holds_at value_at values_at
  turns_are c ss locals held = refl

  pub turns_start : (c : Tree) (q : Statement) (ss : Statements) (locals : List Local) (held : Held) (here : S) → q ≡ do_one c → TurnsTo q ss locals held here (step_at w locals (while_steps c ss) held) here
  turns_start c q ss locals held here is = record {
    bound = held.turns;
    enough = omega arith;
    onto = rw (turns_are c ss locals held, is) (onto_start rules faults _ here);
  }

  past_by : (n : ℕ) (q : Statement) (ss : Statements) (locals : List Local) (held held' : Held) (before after : S)
      → Led rules (holds_at w locals q held) before (done false held') after → faults before ≤ faults after
      → Led rules (turns_at n w q ss locals held) before (done locals held') after
  unfolding turn_behind last_behind
  past_by zero q ss locals held held' before after h later =
      rw (turn_last q ss locals held) ((onto_done rules faults (holds_at w locals q) (last_behind locals) false held held' before after later h).on (done locals held') after (refl, refl))
  past_by (suc n) q ss locals held held' before after h later =
      rw (turn_next n q ss locals held) ((onto_done rules faults (holds_at w locals q) (turn_behind n q ss locals) false held held' before after later h).on (done locals held') after (refl, refl))

  pub turns_past : (q : Statement) (ss : Statements) (locals : List Local) (u : Unit {0}) (held held' : Held) (before after start : S) (whole : Talk (Ending (List Local)))
      → TurnsTo q ss locals held before whole start → EndsBy rules faults plainly (Ok false) held' before (holds_at w locals q held) after → faults before ≤ faults after
      → EndsBy rules faults (always locals) (Ok u) held' start whole after
  turns_past q ss locals u held held' before after start whole to h later =
      to.onto.on (done locals held') after (past_by to.bound q ss locals held held' before after h later)

  untested_by : {B : Type 0} (other : B → List Local) (n : ℕ) (q : Statement) (ss : Statements) (locals : List Local) (e : RunRefusal) (held held' : Held) (before after : S)
      → EndsBy {A = Bool} rules faults plainly (Err e) held' before (holds_at w locals q held) after → EndsBy rules faults other (Err e) held' before (turns_at n w q ss locals held) after
  untested_by other zero q ss locals e held held' before after h =
      rw (turn_last q ss locals held) (failed_ends rules faults (holds_at w locals q) (last_behind locals) plainly other e held held' before after h)
  untested_by other (suc n) q ss locals e held held' before after h =
      rw (turn_next n q ss locals held) (failed_ends rules faults (holds_at w locals q) (turn_behind n q ss locals) plainly other e held held' before after h)

  pub turns_untested : {B : Type 0} (other : B → List Local) (q : Statement) (ss : Statements) (locals : List Local) (e : RunRefusal) (held held' : Held) (before after start : S) (whole : Talk (Ending (List Local)))
      → TurnsTo q ss locals held before whole start → EndsBy {A = Bool} rules faults plainly (Err e) held' before (holds_at w locals q held) after
      → EndsBy rules faults other (Err e) held' start whole after
  turns_untested other q ss locals e held held' before after start whole to h =
      onto_ends rules faults other (Err e) held' (turns_at to.bound w q ss locals held) whole before start after to.onto (untested_by other to.bound q ss locals e held held' before after h)

  -- no turn is left
  unspent_by : (n : ℕ) (q : Statement) (ss : Statements) (locals : List Local) (held held' : Held) (before after : S)
      → Led rules (holds_at w locals q held) before (done true held') after → faults before ≤ faults after → held'.turns ≡ 0
      → Led rules (turns_at n w q ss locals held) before (failed (refusal_of 30004 None) held') after
  unfolding turn_behind last_behind
  unspent_by zero q ss locals held held' before after h later none =
      rw (turn_last q ss locals held) ((onto_done rules faults (holds_at w locals q) (last_behind locals) true held held' before after later h).on (failed (refusal_of 30004 None) held') after (refl, refl))
  unspent_by (suc n) q ss locals held held' before after h later none =
      rw (turn_next n q ss locals held) ((onto_done rules faults (holds_at w locals q) (turn_behind n q ss locals) true held held' before after later h).on (failed (refusal_of 30004 None) held') after (rw none (refl, refl)))

  pub turns_unspent : {B : Type 0} (other : B → List Local) (q : Statement) (ss : Statements) (locals : List Local) (held held' : Held) (before after start : S) (whole : Talk (Ending (List Local)))
      → TurnsTo q ss locals held before whole start → EndsBy rules faults plainly (Ok true) held' before (holds_at w locals q held) after → faults before ≤ faults after → held'.turns ≡ 0
      → EndsBy rules faults other (Err (Sql 30004 None)) held' start whole after
  turns_unspent other q ss locals held held' before after start whole to h later none =
      to.onto.on (failed (refusal_of 30004 None) held') after (unspent_by to.bound q ss locals held held' before after h later none)

  -- a turn is spent
  abbrev spent : Held → ℕ → Held
  spent held n = record held { turns = n }

  spend_one : (n m : ℕ) (held : Held) → 0 < n → m ≡ n - 1 → turn_spent n held ≡ ends (done tt (spent held m))
  spend_one zero m held some is = absurd (omega arith)
  spend_one (suc n) m held some is = let same : m ≡ n = omega (arith, is) in rw same refl

  spent_onto : (n m : ℕ) (q : Statement) (ss : Statements) (locals : List Local) (held held' : Held) (before after : S)
      → Led rules (holds_at w locals q held) before (done true held') after → faults before ≤ faults after → 0 < held'.turns → m ≡ held'.turns - 1
      → Onto rules faults ((steps_at w locals ss >>= turns_at n w q ss) (spent held' m)) after (turns_at (suc n) w q ss locals held) before
  unfolding turn_behind
  spent_onto n m q ss locals held held' before after h later some is =
      onto_on rules faults _ (turn_behind n q ss locals true held') (turns_at (suc n) w q ss locals held) after after before
      (rw (spend_one held'.turns m held' some is) (onto_start rules faults _ after))
      (rw (turn_next n q ss locals held) (onto_done rules faults (holds_at w locals q) (turn_behind n q ss locals) true held held' before after later h))

  -- so a bound was one more than another
  record OneMore (n : ℕ) : Type 0 where
    less : ℕ
    is : n ≡ suc less

  one_less : (n q : ℕ) → 0 < q → q ≤ n → OneMore n
  one_less zero q some low = absurd (omega (arith, some, low))
  one_less (suc n) q some low = record { less = n; is = refl }

  spent_by : (n : ℕ) (more : OneMore n) (m : ℕ) (q : Statement) (ss : Statements) (locals : List Local) (held held' : Held) (before after : S)
      → Led rules (holds_at w locals q held) before (done true held') after → faults before ≤ faults after → 0 < held'.turns → m ≡ held'.turns - 1
      → Onto rules faults ((steps_at w locals ss >>= turns_at more.less w q ss) (spent held' m)) after (turns_at n w q ss locals held) before
  spent_by n more m q ss locals held held' before after h later some is = rw (more.is) (spent_onto more.less m q ss locals held held' before after h later some is)

  pub turns_fail : {B : Type 0} (other : B → List Local) (q : Statement) (ss : Statements) (locals last : List Local) (m : ℕ) (e : RunRefusal) (held held' held'' : Held) (before mid after start : S) (whole : Talk (Ending (List Local)))
      → TurnsTo q ss locals held before whole start → held'.turns ≤ held.turns → EndsBy rules faults plainly (Ok true) held' before (holds_at w locals q held) mid → faults before ≤ faults mid → 0 < held'.turns → m ≡ held'.turns - 1
      → EndsBy {A = Unit {0}} rules faults (always last) (Err e) held'' mid (steps_at w locals ss (spent held' m)) after
      → EndsBy rules faults other (Err e) held'' start whole after
  turns_fail other q ss locals last m e held held' held'' before mid after start whole to low h later some is k =
      let enough = to.enough in
      let within : held'.turns ≤ to.bound = omega (arith, low, enough) in
      let more : OneMore to.bound = one_less to.bound held'.turns some within in
      onto_ends rules faults other (Err e) held'' ((steps_at w locals ss >>= turns_at more.less w q ss) (spent held' m)) whole mid start after
      (onto_on rules faults _ (turns_at to.bound w q ss locals held) whole mid before start (spent_by to.bound more m q ss locals held held' before mid h later some is) to.onto)
      (failed_ends rules faults (steps_at w locals ss) (turns_at more.less w q ss) (always last) other e (spent held' m) held'' mid after k)

  pub turns_more : (q : Statement) (ss : Statements) (locals last : List Local) (m : ℕ) (u : Unit {0}) (held held' held'' : Held) (before mid after start : S) (whole : Talk (Ending (List Local)))
      → TurnsTo q ss locals held before whole start → held'.turns ≤ held.turns → EndsBy rules faults plainly (Ok true) held' before (holds_at w locals q held) mid → faults before ≤ faults mid → 0 < held'.turns → m ≡ held'.turns - 1
      → EndsBy rules faults (always last) (Ok u) held'' mid (steps_at w locals ss (spent held' m)) after → faults mid ≤ faults after → held''.turns ≤ m
      → TurnsTo q ss last held'' after whole start
  turns_more q ss locals last m u held held' held'' before mid after start whole to low h later some is k later' fewer =
      let enough = to.enough in
      let within : held'.turns ≤ to.bound = omega (arith, low, enough) in
      let more : OneMore to.bound = one_less to.bound held'.turns some within in
      let one : to.bound ≡ suc more.less = more.is in
      record {
        bound = more.less;
        enough = omega (arith, fewer, within, one, is, some);
        onto =
            onto_on rules faults _ ((steps_at w locals ss >>= turns_at more.less w q ss) (spent held' m)) whole after mid start
            (onto_done rules faults (steps_at w locals ss) (turns_at more.less w q ss) last (spent held' m) held'' mid after later' k)
            (onto_on rules faults _ (turns_at to.bound w q ss locals held) whole mid before start (spent_by to.bound more m q ss locals held held' before mid h later some is) to.onto);
      }
