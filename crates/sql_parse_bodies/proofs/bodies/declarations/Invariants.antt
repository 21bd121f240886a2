use Rattle.std.proofs.Common.{◌-◌, [], ◌∷◌}
use Rattle.sql_lex.specs.declared.keyword.Keyword.TheVariants as words
use Rattle.sql_grammar.specs.Sets.{next_in}
use Rattle.sql_tree.specs.Depth.{depth_of_declared}
use Rattle.sql_tree.specs.StatementView.{view_declaration}
use Rattle.sql_syntax.specs.Programs.{declaration, declarations}
use Rattle.sql_syntax.specs.Tokens.{code, kind}
use Rattle.sql_parse_nodes.proofs.KeptLists.{Chained}
use Rattle.sql_parse_bodies.proofs.bodies.declarations.Given as goal

abbrev pub invariant-loop-turn : goal.invariant-loop-turn
invariant-loop-turn l =
    Chained view_declaration depth_of_declared (next_in kind (code words.Declare ∷ [])) (declaration l.depth).read ((declarations l.depth).read l.fn.rest) (l._turn-end - l._turn) l.rest l.items
