-- The value of an expression of a body, behind its checks.
use Rattle.std.proofs.Common.{◌≡◌, ℕ, List, ◌++◌, Bool, refl, sym, ap, ◌∙◌, rules, Result, Ok, Err, Option}
use Rattle.std.specs.Borrow.{Bor}
use Rattle.val_types.specs.declared.value.Value.{Value}
use Rattle.val_types.specs.declared.value.Value.TheVariants.{Null}
use Rattle.val_types.specs.declared.refusal.SqlRefusal.{SqlRefusal}
use Rattle.val_types.specs.declared.refusal.SqlRefusal.TheVariants.{Sql, NoMemory}
use Rattle.value_rules.specs.Operators.{truth_of, with_value}
use Rattle.value_rules.specs.Functions.{is_known_true}
use Rattle.sql_tree.specs.Tree.{Tree, part, no_part}
use Rattle.sql_tree.specs.View.{view_tree}
use Rattle.sql_tree.specs.StatementView.{view}
use Rattle.sql_tree.specs.declared.expressions.Expr.{Expr}
use Rattle.sql_tree.specs.declared.statements.Stmt.{Stmt}
use Rattle.sql_statements.specs.catalog_rules.Checks.{expression_refusal}
use Rattle.sql_statements.specs.catalog_rules.Nodes.{Node, no_sight, nodes_of, nodes_of_tree}
use Rattle.sql_statements.specs.sql_meaning.Scenes.{Scene, Ending, Action, done, failed, then_do, answered, pure}
use Rattle.sql_statements.specs.sql_meaning.Frames.{Running, World}
use Rattle.sql_statements.specs.sql_meaning.Values.{value, holds}
use Rattle.sql_statements.specs.sql_meaning.Running.{Body, also_running, checked, frame_of, scope_of, tables_named}
use Rattle.exec_state.specs.Stage.{EndsAs}
use Rattle.exec_state.specs.declared.running.Running.{Running as Chain, Statement, Expression, the_lemmas}
use Rattle.exec_state.specs.UnderWay.{under_way}
use Rattle.sql_evaluation.specs.declared.world.Around.{Around}
use Rattle.sql_evaluation.specs.Seen.{Anywhere, running_of, setting_of, world_of}
use Rattle.stored_programs.specs.Bodies.{world_with}
use Rattle.stored_programs.specs.Steps.{value_in_body, holds_in_body, preset_in_body}
use Rattle.stored_programs.proofs.Acting.{behind, refused, ends_so}

-- ---- what is under way

pub also_expression : (e : Bor Expr) (outer : Bor Chain)
    → under_way (Expression e outer) ≡ record { tables = tables_named (nodes_of_tree (view_tree e.now) no_sight) ++ (under_way outer.now).tables; functions = (under_way outer.now).functions }
also_expression e outer = search (rules, the_lemmas)

pub also_statement : (s : Bor Stmt) (outer : Bor Chain)
    → under_way (Statement s outer) ≡ record { tables = tables_named (nodes_of (view s.now)) ++ (under_way outer.now).tables; functions = (under_way outer.now).functions }
also_statement s outer = search (rules, the_lemmas)

-- what is under way with the tables of some nodes
abbrev pub also : List Node → Running → Running
also nodes running = record { tables = tables_named nodes ++ running.tables; functions = running.functions }

pub world_also : (a : Around) (g : Chain) (nodes : List Node) → running_of g ≡ also nodes (running_of a.running.now) → world_with a g ≡ also_running nodes (world_of a)
unfolding world_of
world_also a g nodes is = ap (λ (r : Running). record (world_of a) { running = r }) is

-- ---- a value

-- the checks of an expression
abbrev pub checks : Around → Body → Tree → Action (Unit {0})
checks a b t = checked (expression_refusal (setting_of a).catalog (scope_of b) t) b.locals (nodes_of_tree t no_sight)

value_behind : (a : Around) (b : Body) (t : Tree) (scene : Scene)
    → value_in_body a b t scene ≡ then_do (checks a b t scene) (λ _. value (also_running (nodes_of_tree t no_sight) (world_of a)) (frame_of b) t)
unfolding value_in_body world_of
value_behind a b t scene = refl

pub evaluated_so : (a : Around) (g : Chain) (b : Body) (t : Tree) (known : Unit {0}) (r : Result Value SqlRefusal) (before after : Scene)
    → Anywhere (Ok known) (checks a b t) → running_of g ≡ also (nodes_of_tree t no_sight) (running_of a.running.now)
    → EndsAs r after (value (world_with a g) (frame_of b) t before) → EndsAs r after (value_in_body a b t before)
evaluated_so a g b t known r before after let_through is h =
    ends_so r after _ _
    (value_behind a b t before
    ∙ behind (checks a b t) known (λ _. value (also_running (nodes_of_tree t no_sight) (world_of a)) (frame_of b) t) before let_through
    ∙ ap (λ (w : World). value w (frame_of b) t before) (sym (world_also a g (nodes_of_tree t no_sight) is))) h

pub not_evaluated : (a : Around) (b : Body) (t : Tree) (code : ℕ) (scene : Scene) → Anywhere {A = Unit {0}} (Err (Sql code)) (checks a b t) → value_in_body a b t scene ≡ failed code scene
not_evaluated a b t code scene h =
    value_behind a b t scene ∙ refused (checks a b t) code (λ _. value (also_running (nodes_of_tree t no_sight) (world_of a)) (frame_of b) t) scene h

pub evaluation_refused : (a : Around) (b : Body) (t : Tree) (e : SqlRefusal) (scene : Scene) → Anywhere {A = Unit {0}} (Err e) (checks a b t)
    → EndsAs {A = Value} (Err e) scene (value_in_body a b t scene)
evaluation_refused a b t (Sql code) scene h = not_evaluated a b t code scene h
evaluation_refused a b t NoMemory scene h = tt

pub ruleset evaluating = (evaluated_so)

-- ---- a condition

true_is : (v : Value) (b : Bool) (scene : Scene) → Ok b ≡ with_value is_known_true (truth_of v) → holds v scene ≡ done b scene
true_is v b scene h = of_truth (truth_of v) h
  where
    of_truth : (r : Result (Option Bool) ℕ) → Ok b ≡ with_value is_known_true r → then_do (answered r scene) (λ t. pure (is_known_true t)) ≡ done b scene
    of_truth (Ok t) e = let same : is_known_true t ≡ b = cc in rw same refl
    of_truth (Err code) e = cc

true_fails : (v : Value) (code : ℕ) (scene : Scene) → Err code ≡ with_value is_known_true (truth_of v) → holds v scene ≡ failed code scene
true_fails v code scene h = of_truth (truth_of v) h
  where
    of_truth : (r : Result (Option Bool) ℕ) → Err code ≡ with_value is_known_true r → then_do (answered r scene) (λ t. pure (is_known_true t)) ≡ failed code scene
    of_truth (Ok t) e = cc
    of_truth (Err c) e = let same : c ≡ code = cc in rw same refl

condition_is : (a : Around) (b : Body) (t : Tree) (scene : Scene) → holds_in_body a b t scene ≡ then_do (value_in_body a b t scene) holds
unfolding holds_in_body value_in_body
condition_is a b t scene = refl

pub holds_so : (a : Around) (b : Body) (t : Tree) (v : Value) (goes : Bool) (scene next : Scene)
    → value_in_body a b t scene ≡ done v next → Ok goes ≡ with_value is_known_true (truth_of v) → holds_in_body a b t scene ≡ done goes next
holds_so a b t v goes scene next h e = condition_is a b t scene ∙ ap (λ (x : Ending Value). then_do x holds) h ∙ true_is v goes next e

pub holds_not : (a : Around) (b : Body) (t : Tree) (v : Value) (code : ℕ) (scene next : Scene)
    → value_in_body a b t scene ≡ done v next → Err code ≡ with_value is_known_true (truth_of v) → holds_in_body a b t scene ≡ failed code next
holds_not a b t v code scene next h e = condition_is a b t scene ∙ ap (λ (x : Ending Value). then_do x holds) h ∙ true_fails v code next e

pub holds_unknown : (a : Around) (b : Body) (t : Tree) (code : ℕ) (scene next : Scene) → value_in_body a b t scene ≡ failed code next → holds_in_body a b t scene ≡ failed code next
holds_unknown a b t code scene next h = condition_is a b t scene ∙ ap (λ (x : Ending Value). then_do x holds) h

pub ruleset conditions = (holds_so, holds_not, holds_unknown)

-- ---- a DEFAULT

pub preset_none : (a : Around) (b : Body) (scene : Scene) → preset_in_body a b no_part scene ≡ done Null scene
unfolding preset_in_body
preset_none a b scene = refl

pub preset_some : (a : Around) (b : Body) (t : Tree) (r : Result Value SqlRefusal) (before after : Scene)
    → EndsAs r after (value_in_body a b t before) → EndsAs r after (preset_in_body a b (part t) before)
unfolding preset_in_body value_in_body
preset_some a b t r before after h = h

pub ruleset presets = (preset_none, preset_some)
