use Rattle.std.proofs.Common.{◌≡◌, ◌+◌, drop}
use Rattle.sql_tree.specs.View.{view_tree}
use Rattle.where_candidates.specs.Candidates.{first_named}
use Rattle.where_candidates.proofs.seeing.unique_named.Given as goal

-- none of the keys so far is named
abbrev pub invariant-loop-i : goal.invariant-loop-i
invariant-loop-i l =
    first_named l.outside l.definition (view_tree l.condition) (l.i + 1) (drop l.i l.definition.uniques)
    ≡ first_named l.outside l.definition (view_tree l.condition) 1 l.definition.uniques
