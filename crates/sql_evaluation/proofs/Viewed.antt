-- Trees of expressions whose parts stand in boxes.
use Rattle.std.proofs.Common.{rules, ◌≡◌}
use Rattle.val_types.specs.declared.ops.Func1.{Func1}
use Rattle.val_types.specs.declared.ops.Func2.{Func2}
use Rattle.val_types.specs.declared.ops.Func3.{Func3}
use Rattle.sql_tree.specs.BuiltIns.{on_one, on_two, on_three}
use Rattle.sql_tree.specs.View.{view_tree}
use Rattle.sql_tree.specs.declared.expressions.Expr.{Expr, the_lemmas}
use Rattle.sql_tree.specs.declared.expressions.Expr.{Func1 as one, Func2 as two, Func3 as three}

pub view_one : (f : Func1) (a : Expr) → view_tree (one f a) ≡ on_one f (view_tree a)
view_one f a = search (rules, the_lemmas)

pub view_two : (f : Func2) (a b : Expr) → view_tree (two f a b) ≡ on_two f (view_tree a) (view_tree b)
view_two f a b = search (rules, the_lemmas)

pub view_three : (f : Func3) (a b c : Expr) → view_tree (three f a b c) ≡ on_three f (view_tree a) (view_tree b) (view_tree c)
view_three f a b c = search (rules, the_lemmas)
