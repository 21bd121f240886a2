-- Statements as definitions speak of them: plain data, to go by cases and by induction.
use Rattle.std.specs.Prelude.{Bool, List, Option, ℕ}
use Rattle.sql_tree.specs.Tree.{Tree, Trees, Part, Query, Orders}
use Rattle.sql_tree.specs.declared.expressions.Count.{Count}
use Rattle.sql_tree.specs.declared.statements.SqlType.{SqlType}
use Rattle.sql_tree.specs.declared.statements.CreateTable.{CreateTable}
use Rattle.sql_tree.specs.declared.statements.Parameter.{Parameter}
use Rattle.sql_tree.specs.declared.statements.Time.{Time}
use Rattle.sql_tree.specs.declared.statements.Cause.{Cause}
use Rattle.sql_tree.specs.declared.statements.Target.{Target}

-- where the rows of INSERT and REPLACE come from
pub data Supply : Type 0 where
  rows : List Trees → Supply
  rows_of : Query → Supply

-- DECLARE: names, a type and DEFAULT
pub record Declared : Type 0 where
  pub names : List (List ℕ)
  pub kind : SqlType
  pub preset : Part

mutual
  -- a statement; of INSERT: IGNORE, table, columns, rows, ON DUPLICATE KEY UPDATE
  --
  -- `column = value` items and assignments are pairs of what is written and the expression.
  pub data Statement : Type 0 where
    create_table : CreateTable → Statement
    create_function : Program → Statement
    create_procedure : Program → Statement
    create_trigger : Trigger → Statement
    drop_table : List ℕ → Statement
    drop_function : List ℕ → Statement
    drop_procedure : List ℕ → Statement
    drop_trigger : List ℕ → Statement
    truncate : List ℕ → Statement
    insert_into : Bool → List ℕ → Option (List (List ℕ)) → Supply → List (List ℕ × Tree) → Statement
    replace_into : List ℕ → Option (List (List ℕ)) → Supply → Statement
    update_rows : List ℕ → List (List ℕ × Tree) → Part → Orders → Option Count → Statement
    delete_rows : List ℕ → Part → Orders → Option Count → Statement
    select : Query → Statement
    evaluate : Trees → Statement
    set_all : List (Target × Tree) → Statement
    call_procedure : List ℕ → Trees → Statement
    begin : Statement
    commit : Statement
    rollback : Statement
    savepoint : List ℕ → Statement
    rollback_to : List ℕ → Statement
    release_savepoint : List ℕ → Statement
    block : List Declared → Statements → Statement
    if_steps : Branches → Otherwise → Statement
    while_steps : Tree → Statements → Statement
    return_value : Tree → Statement

  -- statements, one after the other
  pub data Statements : Type 0 where
    no_statement : Statements
    statement : Statement → Statements → Statements

  -- the conditions of an IF, each with its steps
  pub data Branches : Type 0 where
    no_branch : Branches
    branch : Tree → Statements → Branches → Branches

  -- the steps behind ELSE
  pub data Otherwise : Type 0 where
    no_else : Otherwise
    else_steps : Statements → Otherwise

  -- a stored function or procedure: name, parameters, type of the result, body
  pub data Program : Type 0 where
    program : List ℕ → List Parameter → Option SqlType → Statement → Program

  -- a trigger: name, time, event, table, body
  pub data Trigger : Type 0 where
    trigger : List ℕ → Time → Cause → List ℕ → Statement → Trigger
