-- A change or DO, behind its checks.
use Rattle.std.proofs.Common.{◌≡◌, ℕ, None, Option, sym, ap, ◌∙◌, Ok, Err}
use Rattle.val_types.specs.declared.value.Value.{Value}
use Rattle.val_types.specs.declared.refusal.SqlRefusal.{SqlRefusal}
use Rattle.val_types.specs.declared.refusal.SqlRefusal.TheVariants.{Sql, NoMemory}
use Rattle.sql_tree.specs.Statement.{Statement}
use Rattle.sql_statements.specs.catalog_rules.Nodes.{nodes_of}
use Rattle.sql_statements.specs.sql_meaning.Scenes.{Scene, Ending, done, failed, then_do, pure, ◌>>=◌}
use Rattle.sql_statements.specs.sql_meaning.Frames.{World}
use Rattle.sql_statements.specs.sql_meaning.Changing.{Did}
use Rattle.sql_statements.specs.sql_meaning.Running.{Body, also_running, body_checked, body_perform, frame_of, goes_on, perform}
use Rattle.exec_state.specs.declared.running.Running.{Running as Chain}
use Rattle.exec_state.specs.Stage.{EndsAsBy}
use Rattle.sql_statements.specs.declared.did.Did.{Did as Done}
use Rattle.sql_statements.specs.Did.{did_of}
use Rattle.sql_evaluation.specs.declared.world.Around.{Around}
use Rattle.sql_evaluation.specs.Seen.{Anywhere, running_of, world_of}
use Rattle.stored_programs.specs.Bodies.{ended_at, world_with}
use Rattle.stored_programs.proofs.Acting.{behind, refused}
use Rattle.stored_programs.proofs.Evaluated.{also, world_also}

performed_behind : (a : Around) (g : Chain) (b : Body) (s : Statement) (known : Unit {0}) (scene : Scene)
    → Anywhere (Ok known) (body_checked (world_of a) b s) → running_of g ≡ also (nodes_of s) (running_of a.running.now)
    → body_perform (world_of a) b s scene ≡ then_do (perform (world_with a g) (frame_of b) None s scene) (λ _. pure (goes_on b))
performed_behind a g b s known scene let_through is =
    behind (body_checked (world_of a) b s) known (λ _. perform (also_running (nodes_of s) (world_of a)) (frame_of b) None s >>= λ _. pure (goes_on b)) scene let_through
    ∙ ap (λ (w : World). then_do (perform w (frame_of b) None s scene) (λ _. pure (goes_on b))) (sym (world_also a g (nodes_of s) is))

pub performed_so : (a : Around) (g : Chain) (b : Body) (s : Statement) (known : Unit {0}) (did : Did) (scene next : Scene)
    → Anywhere (Ok known) (body_checked (world_of a) b s) → running_of g ≡ also (nodes_of s) (running_of a.running.now)
    → perform (world_with a g) (frame_of b) None s scene ≡ done did next → body_perform (world_of a) b s scene ≡ done (ended_at b None) next
performed_so a g b s known did scene next let_through is h =
    performed_behind a g b s known scene let_through is ∙ ap (λ (x : Ending Did). then_do x (λ _. pure (goes_on b))) h

pub performed_not : (a : Around) (g : Chain) (b : Body) (s : Statement) (known : Unit {0}) (e : SqlRefusal) (scene next : Scene)
    → Anywhere (Ok known) (body_checked (world_of a) b s) → running_of g ≡ also (nodes_of s) (running_of a.running.now)
    → EndsAsBy {A = Done} did_of (Err e) next (perform (world_with a g) (frame_of b) None s scene) → EndsAsBy {A = Option Value} (ended_at b) (Err e) next (body_perform (world_of a) b s scene)
performed_not a g b s known NoMemory scene next let_through is h = tt
performed_not a g b s known (Sql code) scene next let_through is h =
    performed_behind a g b s known scene let_through is ∙ ap (λ (x : Ending Did). then_do x (λ _. pure (goes_on b))) h

pub perform_refused : (a : Around) (b : Body) (s : Statement) (code : ℕ) (scene : Scene) → Anywhere {A = Unit {0}} (Err (Sql code)) (body_checked (world_of a) b s)
    → body_perform (world_of a) b s scene ≡ failed code scene
perform_refused a b s code scene h =
    refused (body_checked (world_of a) b s) code (λ _. perform (also_running (nodes_of s) (world_of a)) (frame_of b) None s >>= λ _. pure (goes_on b)) scene h

pub ruleset performing = (perform_refused)
