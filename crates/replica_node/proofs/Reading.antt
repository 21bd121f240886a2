-- What a reader may run.
use Rattle.std.proofs.Common.{◌≡◌, Bool, true, false, ◌||◌, List, refl, sym, ◌∙◌}
use Rattle.std.specs.List.{list_any}
use Rattle.sql_tree.specs.Statement.{Statement}
use Rattle.unsafe_rules.specs.catalog_rules.Nodes.{nodes_of}
use Rattle.unsafe_rules.specs.catalog_rules.Objects.{Object}
use Rattle.unsafe_rules.specs.sql_reach.Reach.{is_change, is_definition, is_writing_function, reached_programs, writes}

middle : (a b c : Bool) → (a || b || c) ≡ false → b ≡ false
middle true b c e = cc
middle false true c e = cc
middle false false c e = refl

pub no_definition : (catalog : List Object) (s : Statement) (written : Bool) → written ≡ writes catalog s → written ≡ false → is_definition s ≡ false
unfolding writes
no_definition catalog s written e isnt = middle (is_change s) (is_definition s) (list_any is_writing_function (reached_programs catalog (nodes_of s))) (sym e ∙ isnt)
