-- Built-in functions by their number of arguments: what their values are where all arguments are evaluated.
use Rattle.std.proofs.Common.{◌≡◌, List, refl, ◌∙◌, Result, Ok, Err}
use Rattle.std.specs.Prelude.{ℕ}
use Rattle.val_types.specs.declared.value.Value.{Value}
use Rattle.val_types.specs.declared.ops.Func.{Func}
use Rattle.val_types.specs.declared.ops.Func0.{Func0}
use Rattle.val_types.specs.declared.ops.Func1.{Func1}
use Rattle.val_types.specs.declared.ops.Func3.{Func3}
use Rattle.val_types.specs.declared.ops.FuncN.{FuncN}
use Rattle.val_types.specs.declared.refusal.SqlRefusal.{SqlRefusal}
use Rattle.value_rules.specs.Functions.{value_of_one, value_of_three, value_of_many}
use Rattle.sql_tree.specs.Tree.{Tree, Trees}
use Rattle.sql_tree.specs.BuiltIns.{all_arguments, about, on_none, on_one, on_three, on_many}
use Rattle.key_order.specs.where_candidates.session_ctx.sql_meaning.Scenes.{Scene, done, failed, answered}
use Rattle.key_order.specs.where_candidates.session_ctx.sql_meaning.Values.{session_value, values}
use Rattle.exec_state.specs.Stage.{EndsAs}
use Rattle.sql_evaluation.specs.declared.world.View.{View as Shown}
use Rattle.sql_evaluation.specs.declared.world.Around.{Around}
use Rattle.sql_evaluation.specs.Seen.{value_in, world_of, frame_of}

-- ---- who evaluates all arguments

none_manner : (f : Func0) → (about (Func.Zero f)).manner ≡ all_arguments
none_manner Func0.Now = refl
none_manner Func0.UnixTimestamp = refl
none_manner Func0.SysDate = refl
none_manner Func0.User = refl
none_manner Func0.Uuid = refl
none_manner Func0.ConnectionId = refl
none_manner Func0.LastInsertId = refl
none_manner Func0.RowCount = refl

one_manner : (f : Func1) → (about (Func.One f)).manner ≡ all_arguments
one_manner Func1.Abs = refl
one_manner Func1.Length = refl

-- ---- no arguments

none_is : (a : Around) (vs : List Shown) (f : Func0) (scene : Scene) → value_in a vs (on_none f) scene ≡ session_value (world_of a) f scene
none_is a vs f scene = rw (none_manner f) refl

pub none_as : (r : Result Value SqlRefusal) (after : Scene) (a : Around) (vs : List Shown) (f : Func0) (scene : Scene)
    → EndsAs r after (session_value (world_of a) f scene) → EndsAs r after (value_in a vs (on_none f) scene)
none_as r after a vs f scene h = rw (none_is a vs f scene) h

-- ---- one argument

one_is : (a : Around) (vs : List Shown) (f : Func1) (t : Tree) (v : Value) (scene next : Scene)
    → value_in a vs t scene ≡ done v next → value_in a vs (on_one f t) scene ≡ answered (value_of_one f v) next
one_is a vs f t v scene next h = rw (one_manner f, h) refl

pub one_given : (a : Around) (vs : List Shown) (f : Func1) (t : Tree) (v w : Value) (scene next : Scene)
    → value_in a vs t scene ≡ done v next → value_of_one f v ≡ Ok w → value_in a vs (on_one f t) scene ≡ done w next
one_given a vs f t v w scene next h e = one_is a vs f t v scene next h ∙ (rw e refl)

pub one_refused : (a : Around) (vs : List Shown) (f : Func1) (t : Tree) (v : Value) (code : ℕ) (scene next : Scene)
    → value_in a vs t scene ≡ done v next → value_of_one f v ≡ Err code → value_in a vs (on_one f t) scene ≡ failed code next
one_refused a vs f t v code scene next h e = one_is a vs f t v scene next h ∙ (rw e refl)

pub one_fails : (a : Around) (vs : List Shown) (f : Func1) (t : Tree) (code : ℕ) (scene next : Scene)
    → value_in a vs t scene ≡ failed code next → value_in a vs (on_one f t) scene ≡ failed code next
one_fails a vs f t code scene next h = rw (one_manner f, h) refl

pub ruleset one = (one_given, one_refused, one_fails)

-- ---- three arguments

pub three_given : (r : Result Value SqlRefusal) (a : Around) (vs : List Shown) (f : Func3) (t u v : Tree) (x y z : Value) (scene first second last : Scene)
    → (about (Func.Three f)).manner ≡ all_arguments
    → value_in a vs t scene ≡ done x first → value_in a vs u first ≡ done y second → value_in a vs v second ≡ done z last
    → EndsAs r last (answered (value_of_three f x y z) last) → EndsAs r last (value_in a vs (on_three f t u v) scene)
three_given r a vs f t u v x y z scene first second last all h1 h2 h3 given = rw (all, h1, h2, h3) given

pub three_fails : (a : Around) (vs : List Shown) (f : Func3) (t u v : Tree) (code : ℕ) (scene next : Scene)
    → (about (Func.Three f)).manner ≡ all_arguments
    → value_in a vs t scene ≡ failed code next → value_in a vs (on_three f t u v) scene ≡ failed code next
three_fails a vs f t u v code scene next all h = rw (all, h) refl

pub three_fails_second : (a : Around) (vs : List Shown) (f : Func3) (t u v : Tree) (x : Value) (code : ℕ) (scene first next : Scene)
    → (about (Func.Three f)).manner ≡ all_arguments
    → value_in a vs t scene ≡ done x first → value_in a vs u first ≡ failed code next → value_in a vs (on_three f t u v) scene ≡ failed code next
three_fails_second a vs f t u v x code scene first next all h1 h2 = rw (all, h1, h2) refl

pub three_fails_third : (a : Around) (vs : List Shown) (f : Func3) (t u v : Tree) (x y : Value) (code : ℕ) (scene first second next : Scene)
    → (about (Func.Three f)).manner ≡ all_arguments
    → value_in a vs t scene ≡ done x first → value_in a vs u first ≡ done y second → value_in a vs v second ≡ failed code next
    → value_in a vs (on_three f t u v) scene ≡ failed code next
three_fails_third a vs f t u v x y code scene first second next all h1 h2 h3 = rw (all, h1, h2, h3) refl

pub ruleset three = (three_given, three_fails, three_fails_second, three_fails_third)

-- ---- one argument or more

pub many_given : (r : Result Value SqlRefusal) (a : Around) (vs : List Shown) (f : FuncN) (ts : Trees) (xs : List Value) (scene last : Scene)
    → (about (Func.Many f)).manner ≡ all_arguments
    → values (world_of a) (frame_of a vs) ts scene ≡ done xs last
    → EndsAs r last (answered (value_of_many f xs) last) → EndsAs r last (value_in a vs (on_many f ts) scene)
many_given r a vs f ts xs scene last all h given = rw (all, h) given

pub many_fails : (a : Around) (vs : List Shown) (f : FuncN) (ts : Trees) (code : ℕ) (scene next : Scene)
    → (about (Func.Many f)).manner ≡ all_arguments
    → values (world_of a) (frame_of a vs) ts scene ≡ failed code next → value_in a vs (on_many f ts) scene ≡ failed code next
many_fails a vs f ts code scene next all h = rw (all, h) refl

pub ruleset many = (many_given, many_fails)
