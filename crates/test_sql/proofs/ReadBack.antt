-- A statement that a text is, as it is answered.
use Rattle.std.proofs.Common.{◌≡◌, ℕ, List, Result, Ok, Err, IfOk, IfErr, refl, subst, sym}
use Rattle.sql_parse.specs.Answers.{IsRead}
use Rattle.sql_parse.specs.declared.parsing.ParseRefusal.{ParseRefusal}
use Rattle.sql_parse.specs.declared.parsing.ParseRefusal.TheVariants.{Syntax, Deep, NoMemory}
use Rattle.sql_print.specs.StatementSpelling.{spelling}
use Rattle.sql_syntax.specs.Texts.{reads}
use Rattle.sql_tree.specs.Statement.{Statement}
use Rattle.sql_tree.specs.StatementView.{view}
use Rattle.sql_tree.specs.Well.{IsWell}
use Rattle.sql_tree.specs.declared.statements.Stmt.{Stmt}

-- its canonical text is answered with it
pub read_again : (text : List ℕ) (s : Statement) (r : Result Stmt ParseRefusal) → text ≡ spelling s → IsWell s → ((t : Statement) → IsWell t → reads (spelling t) t)
    → ((t : Statement) → reads text t → IsRead t r) → IsRead s r
read_again text s r e well law read = read s (subst (λ (x : List ℕ). reads x s) (sym e) (law s well))

-- what is read is the statement
pub same_statement : (s : Statement) (r : Result Stmt ParseRefusal) → IsRead s r → IfOk r (λ t. view t ≡ s)
same_statement s (Ok t) h = h
same_statement s (Err e) h = tt

-- and only memory may be wanting
pub only_memory : (s : Statement) (r : Result Stmt ParseRefusal) → IsRead s r → IfErr r (λ e. e ≡ NoMemory)
only_memory s (Ok t) h = tt
only_memory s (Err (Syntax at)) h = absurd h
only_memory s (Err Deep) h = absurd h
only_memory s (Err NoMemory) h = refl
