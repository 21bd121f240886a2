-- Expressions one after the other are read, from the readings of each.
use Rattle.std.proofs.Common.{◌≡◌, true, List, [], ◌∷◌, refl, sym, ap}
use Rattle.sql_grammar.specs.Rule.{Rule}
use Rattle.sql_tree.specs.Tree.{Tree, Trees, no_tree, tree}
use Rattle.sql_tree.specs.View.{trees_of}
use Rattle.sql_tree.specs.Well.{has_tree}
use Rattle.sql_print.specs.Spelling.{tree_text, trees_text, more_trees_text}
use Rattle.sql_syntax.specs.Tokens.{Tok}
use Rattle.sql_syntax.specs.Parts.{exprs}
use Rattle.sql_text.proofs.Reading.{Reading, via, More, no_more, more}
use Rattle.sql_text.proofs.Parts.{list_read}

abbrev pub tree_list : Trees → List Tree
tree_list no_tree = []
tree_list (tree t ts) = t ∷ tree_list ts

trees_same : (ts : Trees) → trees_of (tree_list ts) ≡ ts
trees_same no_tree = refl
trees_same (tree t ts) = ap (tree t) (trees_same ts)

module _ (R : Rule Tok Tree) where
  -- the rule reads each of these expressions as it is written
  abbrev pub AreRead : Trees → Type 0
  AreRead no_tree = Unit {0}
  AreRead (tree t ts) = Reading R.texts t (tree_text t) × AreRead ts

  more_trees : (ts : Trees) → AreRead ts → More R.texts (tree_list ts) (more_trees_text ts)
  more_trees no_tree r = no_more
  more_trees (tree t ts) r = more r.0 (more_trees ts r.1)

  pub exprs_read : (ts : Trees) → has_tree ts ≡ true → AreRead ts → Reading (exprs R).texts ts (trees_text ts)
  exprs_read no_tree h r = cc
  exprs_read (tree t ts) h r = via (λ us rest g. (t ∷ tree_list ts, sym (ap (tree t) (trees_same ts)), g)) (list_read R r.0 (more_trees ts r.1))
