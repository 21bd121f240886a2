-- What stands already, and answers that are the same in any scene.
use Rattle.std.proofs.Common.{◌≡◌, ℕ, List, Option, Some, None, true, false, refl, Ok, Err}
use Rattle.std.specs.Option.{option_copied}
use Rattle.std.specs.Borrow.{Bor}
use Rattle.val_types.specs.declared.value.Value.{Value}
use Rattle.val_types.specs.declared.value.Value.TheVariants.{Null, Int, Text}
use Rattle.val_types.specs.declared.refusal.SqlRefusal.TheVariants.{Sql, NoMemory}
use Rattle.sql_tree.specs.Tree.{Tree, literal, name, column, new_column, old_column, user_variable, system_variable, unary, binary, is_in, choice, subquery, exists, call, values_of, name_const, floor_rand, built_in}
use Rattle.key_order.specs.where_candidates.session_ctx.sql_meaning.Scenes.{Scene, Action, done, failed, needed}
use Rattle.key_order.specs.where_candidates.session_ctx.sql_meaning.Frames.{capped}
use Rattle.sql_evaluation.specs.declared.world.View.{View as Shown}
use Rattle.sql_evaluation.specs.declared.world.Around.{Around}
use Rattle.sql_evaluation.specs.Seen.{Stands, StandsIf, meant, Anywhere, is_capped}

needed_some : (code : ℕ) (o : Option Value) (v : Value) (scene : Scene) → Some v ≡ o → needed code o scene ≡ done v scene
needed_some code o v scene h = rw (← h) refl

capped_is : (v : Value) (scene : Scene) → is_capped v ≡ true → capped v scene ≡ done v scene
capped_is Null scene h = refl
capped_is (Int n) scene h = refl
capped_is (Text t) scene h = rw h refl

capped_is_not : (v : Value) (scene : Scene) → is_capped v ≡ false → capped v scene ≡ failed 1153 scene
capped_is_not Null scene h = cc
capped_is_not (Int n) scene h = cc
capped_is_not (Text t) scene h = rw h refl

pub capped_stands : (a : Around) (vs : List Shown) (v : Value) → is_capped v ≡ true → Stands a vs (literal v) v
capped_stands a vs v h = record { stands = λ scene. capped_is v scene h }

-- what a name means stands already
pub meant_stands : (a : Around) (vs : List Shown) (t : Tree) (r : Option (Bor Value)) → option_copied r ≡ meant a vs t → StandsIf a vs t r
meant_stands a vs t None h = tt
meant_stands a vs (literal v) (Some x) h = cc
meant_stands a vs (name n) (Some x) h = record { stands = λ scene. needed_some 1054 (meant a vs (name n)) x.now scene h }
meant_stands a vs (column t c) (Some x) h = record { stands = λ scene. needed_some 1054 (meant a vs (column t c)) x.now scene h }
meant_stands a vs (new_column c) (Some x) h = record { stands = λ scene. needed_some 1054 (meant a vs (new_column c)) x.now scene h }
meant_stands a vs (old_column c) (Some x) h = record { stands = λ scene. needed_some 1054 (meant a vs (old_column c)) x.now scene h }
meant_stands a vs (user_variable n) (Some x) h = cc
meant_stands a vs (system_variable n) (Some x) h = cc
meant_stands a vs (unary op b) (Some x) h = cc
meant_stands a vs (binary op b c) (Some x) h = cc
meant_stands a vs (is_in negated b ts) (Some x) h = cc
meant_stands a vs (choice arms o) (Some x) h = cc
meant_stands a vs (subquery q) (Some x) h = cc
meant_stands a vs (exists q) (Some x) h = cc
meant_stands a vs (call n ts) (Some x) h = cc
meant_stands a vs (values_of c) (Some x) h = record { stands = λ scene. needed_some 1054 (meant a vs (values_of c)) x.now scene h }
meant_stands a vs (name_const n v) (Some x) h = cc
meant_stands a vs (floor_rand b) (Some x) h = cc
meant_stands a vs (built_in f ts) (Some x) h = cc

-- ---- answers in any scene

pub anywhere_needed : (code : ℕ) (o : Option Value) (v : Value) → Some v ≡ o → Anywhere (Ok v) (needed code o)
anywhere_needed code o v h = record { ends = λ scene. needed_some code o v scene h }

pub anywhere_missing : (code : ℕ) (o : Option Value) → None ≡ o → Anywhere (Err (Sql code)) (needed code o)
anywhere_missing code o h = record { ends = λ scene. rw (← h) refl }

pub anywhere_capped : (v : Value) → is_capped v ≡ true → Anywhere (Ok v) (capped v)
anywhere_capped v h = record { ends = λ scene. capped_is v scene h }

pub anywhere_too_long : (v : Value) → is_capped v ≡ false → Anywhere (Err (Sql 1153)) (capped v)
anywhere_too_long v h = record { ends = λ scene. capped_is_not v scene h }

pub anywhere_short : (m : Action Value) → Anywhere (Err NoMemory) m
anywhere_short m = record { ends = λ scene. tt }

pub anywhere_done : (v : Value) (m : Action Value) → ((scene : Scene) → m scene ≡ done v scene) → Anywhere (Ok v) m
anywhere_done v m h = record { ends = h }

pub ruleset meanings = (capped_stands, meant_stands, anywhere_needed, anywhere_missing, anywhere_short)

pub ruleset answers = (anywhere_needed, anywhere_missing, anywhere_capped, anywhere_too_long, anywhere_short, anywhere_done)
