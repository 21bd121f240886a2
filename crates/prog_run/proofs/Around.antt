-- Whole statements in what is round them.
use Rattle.std.proofs.Common.{refl, ◌≡◌, [], Option, None, ℤ}
use Rattle.sql_tree.specs.Tree.{Trees}
use Rattle.sql_tree.specs.Statement.{Statement}
use Rattle.statement_names.specs.catalog_rules.Nodes.{nodes_of, nodes_of_trees, no_sight}
use Rattle.statement_names.specs.sql_meaning.Scenes.{Scene, undone}
use Rattle.statement_names.specs.sql_meaning.Running.{perform, tables_named, forced_for, effect, evaluation}
use Rattle.stored_programs.specs.sql_evaluation.declared.world.Around.{Around}
use Rattle.stored_programs.specs.sql_evaluation.Seen.{setting_of, world_of, frame_of, running_of, values_in}

-- ---- whole statements

-- what a statement does that runs by itself
pub effect_around : (a : Around) (s : Statement) (forced : Option ℤ) (scene : Scene)
    → running_of a.running.now ≡ record { tables = tables_named (nodes_of s); functions = [] } → a.new_row ≡ None → a.old_row ≡ None → a.inserted ≡ None
    → forced ≡ forced_for a.context.now s
    → effect (setting_of a) a.nesting a.locals.now s scene ≡ undone (perform (world_of a) (frame_of a []) forced s) scene
unfolding world_of frame_of effect
effect_around a s forced scene named new old inserted e = rw (named, new, old, inserted, e) refl

pub evaluation_around : (a : Around) (ts : Trees) (scene : Scene)
    → running_of a.running.now ≡ record { tables = tables_named (nodes_of_trees ts no_sight); functions = [] } → a.new_row ≡ None → a.old_row ≡ None → a.inserted ≡ None
    → evaluation (setting_of a) a.nesting a.locals.now ts scene ≡ undone (values_in a [] ts) scene
unfolding world_of frame_of evaluation
evaluation_around a ts scene named new old inserted = rw (named, new, old, inserted) refl
