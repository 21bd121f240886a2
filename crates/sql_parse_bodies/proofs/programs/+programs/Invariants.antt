use Rattle.std.proofs.Common.{◌≡◌, ◌+◌, ◌-◌, ◌*◌, [], ◌∷◌, List, length, map}
use Rattle.sql_lex.specs.declared.keyword.Keyword.TheVariants as words
use Rattle.sql_grammar.specs.Sets.{next_in}
use Rattle.sql_tree.specs.Depth.{depth_of, deepest}
use Rattle.sql_tree.specs.Statement.{Statement}
use Rattle.sql_tree.specs.StatementView.{view, view_branch}
use Rattle.sql_parse_nodes.specs.Kept.{IsKept}
use Rattle.sql_parse_bodies.specs.KeptParts.{depth_of_branch}
use Rattle.sql_syntax.specs.Programs.{a_step, branches, inner, inner_words, more_steps, next_branch}
use Rattle.sql_syntax.specs.Tokens.{code, kind}
use Rattle.sql_parse_nodes.proofs.KeptLists.{Chained}
use Rattle.sql_parse_bodies.proofs.ProgramSteps.{Heading}
use Rattle.sql_parse_bodies.proofs.programs.+programs.Given as goal

abbrev pub decreases-inner : goal.decreases-inner
decreases-inner l = 100 * l.depth + 20

abbrev pub decreases-bodied : goal.decreases-bodied
decreases-bodied l = 100 * l.depth + 19

abbrev pub decreases-inner_core : goal.decreases-inner_core
decreases-inner_core l = 100 * l.depth + 18

abbrev pub decreases-block : goal.decreases-block
decreases-block l = 100 * l.depth + 17

abbrev pub decreases-choice : goal.decreases-choice
decreases-choice l = 100 * l.depth + 17

abbrev pub decreases-repetition : goal.decreases-repetition
decreases-repetition l = 100 * l.depth + 17

abbrev pub decreases-a_step : goal.decreases-a_step
decreases-a_step l = 100 * l.depth + 21

abbrev pub decreases-more_steps : goal.decreases-more_steps
decreases-more_steps l = 100 * l.depth + 22

abbrev pub decreases-steps_if : goal.decreases-steps_if
decreases-steps_if l = 100 * l.depth + 23

abbrev pub decreases-steps : goal.decreases-steps
decreases-steps l = 100 * l.depth + 23

abbrev pub decreases-steps_to_end : goal.decreases-steps_to_end
decreases-steps_to_end l = 100 * l.depth + 24

abbrev pub decreases-then_steps : goal.decreases-then_steps
decreases-then_steps l = 100 * l.depth + 24

abbrev pub decreases-do_steps : goal.decreases-do_steps
decreases-do_steps l = 100 * l.depth + 24

abbrev pub decreases-if_parts : goal.decreases-if_parts
decreases-if_parts l = 100 * l.depth + 30

abbrev pub decreases-a_branch : goal.decreases-a_branch
decreases-a_branch l = 100 * l.depth + 25

abbrev pub decreases-next_branch : goal.decreases-next_branch
decreases-next_branch l = 100 * l.depth + 26

abbrev pub decreases-branches : goal.decreases-branches
decreases-branches l = 100 * l.depth + 27

abbrev pub decreases-otherwise : goal.decreases-otherwise
decreases-otherwise l = 100 * l.depth + 24

abbrev pub decreases-block_body : goal.decreases-block_body
decreases-block_body l = 100 * l.depth + 30

abbrev pub decreases-if_body : goal.decreases-if_body
decreases-if_body l = 100 * l.depth + 31

abbrev pub decreases-while_body : goal.decreases-while_body
decreases-while_body l = 100 * l.depth + 30

abbrev pub invariant-inner-loop-turn : goal.invariant-inner-loop-turn
invariant-inner-loop-turn l = Heading l.depth l.heads (l._turn-end - l._turn) l.rest ≡ (inner l.depth).read l.fn.rest

abbrev pub invariant-more_steps-loop-turn : goal.invariant-more_steps-loop-turn
invariant-more_steps-loop-turn l =
    (ss : List Statement) → IsKept (map view) (deepest depth_of) ss l.fn.items
    → Chained view depth_of (next_in kind inner_words) (a_step (inner l.depth)).read (more_steps (inner l.depth) (length l.fn.rest) ss l.fn.rest) (l._turn-end - l._turn) l.rest l.items

abbrev pub invariant-branches-loop-turn : goal.invariant-branches-loop-turn
invariant-branches-loop-turn l =
    Chained view_branch depth_of_branch (next_in kind (code words.Elseif ∷ [])) (next_branch l.depth (inner l.depth)).read ((branches l.depth (inner l.depth)).read l.fn.rest) (l._turn-end - l._turn) l.rest l.items
