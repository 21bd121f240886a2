-- Statements on a stage, by what is round them.
use Rattle.std.proofs.Common.{◌≡◌, ℕ, List, [], Option, None, ℤ, Result, sym, subst, ap, ◌∙◌}
use Rattle.val_types.specs.declared.value.Value.{Value}
use Rattle.val_types.specs.declared.refusal.SqlRefusal.{SqlRefusal}
use Rattle.sql_tree.specs.Tree.{Trees}
use Rattle.sql_tree.specs.Statement.{Statement}
use Rattle.sql_locals.specs.declared.locals.Local.{Local}
use Rattle.statement_names.specs.catalog_rules.Nodes.{nodes_of, nodes_of_trees, no_sight}
use Rattle.statement_names.specs.sql_meaning.Scenes.{Scene, Ending, undone}
use Rattle.statement_names.specs.sql_meaning.Frames.{Setting}
use Rattle.statement_names.specs.sql_meaning.Changing.{Did}
use Rattle.statement_names.specs.sql_meaning.Running.{perform, tables_named, forced_for, effect, evaluation}
use Rattle.exec_state.specs.Stage.{EndsAs, EndsAsBy}
use Rattle.stored_programs.specs.sql_evaluation.declared.world.Around.{Around}
use Rattle.stored_programs.specs.sql_evaluation.Seen.{setting_of, running_of, world_of, frame_of, values_in}
use Rattle.stored_programs.specs.sql_statements.declared.did.Did.{Did as Done}
use Rattle.stored_programs.specs.sql_statements.Did.{did_of}
use Rattle.prog_run.proofs.Around.{effect_around, evaluation_around}

pub effect_ends : (a : Around) (setting : Setting) (nesting : ℕ) (s : Statement) (forced : Option ℤ) (r : Result Done SqlRefusal) (before after : Scene)
    → running_of a.running.now ≡ record { tables = tables_named (nodes_of s); functions = [] } → setting_of a ≡ setting → a.nesting ≡ nesting → a.locals.now ≡ [] → a.new_row ≡ None → a.old_row ≡ None → a.inserted ≡ None
    → forced ≡ forced_for setting.context s → EndsAsBy did_of r after (undone (perform (world_of a) (frame_of a []) forced s) before)
    → EndsAsBy did_of r after (effect setting nesting [] s before)
effect_ends a setting nesting s forced r before after named is levels locals new old inserted e h =
    subst (λ (o : Ending Did). EndsAsBy did_of r after o)
    (sym (effect_around a s forced before named new old inserted (e ∙ ap (λ (t : Setting). forced_for t.context s) (sym is)))
    ∙ ap (λ (t : Setting). effect t a.nesting a.locals.now s before) is
    ∙ ap (λ (n : ℕ). effect setting n a.locals.now s before) levels
    ∙ ap (λ (ls : List Local). effect setting nesting ls s before) locals)
    h

pub evaluation_ends : (a : Around) (setting : Setting) (nesting : ℕ) (locals : List Local) (ts : Trees) (r : Result (List Value) SqlRefusal) (before after : Scene)
    → running_of a.running.now ≡ record { tables = tables_named (nodes_of_trees ts no_sight); functions = [] } → setting_of a ≡ setting → a.nesting ≡ nesting → a.locals.now ≡ locals → a.new_row ≡ None → a.old_row ≡ None → a.inserted ≡ None
    → EndsAs r after (undone (values_in a [] ts) before) → EndsAs r after (evaluation setting nesting locals ts before)
evaluation_ends a setting nesting locals ts r before after named is levels same new old inserted h =
    subst (λ (o : Ending (List Value)). EndsAs r after o)
    (sym (evaluation_around a ts before named new old inserted)
    ∙ ap (λ (t : Setting). evaluation t a.nesting a.locals.now ts before) is
    ∙ ap (λ (n : ℕ). evaluation setting n a.locals.now ts before) levels
    ∙ ap (λ (ls : List Local). evaluation setting nesting ls ts before) same)
    h
