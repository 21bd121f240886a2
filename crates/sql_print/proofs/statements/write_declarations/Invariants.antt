use Rattle.std.proofs.Common.{◌≡◌, ◌++◌, drop}
use Rattle.sql_tree.specs.StatementView.{view_declarations}
use Rattle.sql_print.specs.StatementSpelling.{declarations_text}
use Rattle.sql_print.proofs.statements.write_declarations.Given as goal

abbrev pub invariant-loop-declaration : goal.invariant-loop-declaration
invariant-loop-declaration l =
    l.out ++ declarations_text (view_declarations (drop l.declaration-index l.declaration-items)) ≡ l.fn.out ++ declarations_text (view_declarations l.declarations)
