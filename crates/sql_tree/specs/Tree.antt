-- Expressions and SELECTs as definitions speak of them: plain data, to go by cases and by induction.
--
-- Each list inside a tree has a type of its own here. Names are lists of bytes.
use Rattle.std.specs.Prelude.{Bool, List, Option, ℕ}
use Rattle.val_types.specs.declared.value.Value.{Value}
use Rattle.val_types.specs.declared.ops.UnOp.{UnOp}
use Rattle.val_types.specs.declared.ops.BinOp.{BinOp}
use Rattle.val_types.specs.declared.ops.Func.{Func}
use Rattle.val_types.specs.declared.ops.Agg.{Agg}
use Rattle.sql_tree.specs.declared.expressions.Limit.{Limit}

mutual
  -- an expression; `is_in true` is NOT IN
  pub data Tree : Type 0 where
    literal : Value → Tree
    name : List ℕ → Tree
    column : List ℕ → List ℕ → Tree
    new_column : List ℕ → Tree
    old_column : List ℕ → Tree
    user_variable : List ℕ → Tree
    system_variable : List ℕ → Tree
    unary : UnOp → Tree → Tree
    binary : BinOp → Tree → Tree → Tree
    is_in : Bool → Tree → Trees → Tree
    choice : Arms → Part → Tree
    subquery : Query → Tree
    exists : Query → Tree
    call : List ℕ → Trees → Tree
    values_of : List ℕ → Tree
    name_const : List ℕ → Value → Tree
    floor_rand : Tree → Tree
    built_in : Func → Trees → Tree

  -- expressions, one after the other
  pub data Trees : Type 0 where
    no_tree : Trees
    tree : Tree → Trees → Trees

  -- the WHENs of a CASE: a condition and a value
  pub data Arms : Type 0 where
    no_arm : Arms
    arm : Tree → Tree → Arms → Arms

  -- an expression that may be left out
  pub data Part : Type 0 where
    no_part : Part
    part : Tree → Part

  -- a SELECT
  pub data Query : Type 0 where
    query : Selected → Origin → Query

  -- what a SELECT gives
  pub data Selected : Type 0 where
    items : Trees → Selected
    all_columns : Selected
    aggregates : Aggregates → Selected

  -- aggregates, each COUNT(*) or over an expression
  pub data Aggregates : Type 0 where
    no_aggregate : Aggregates
    count_all : Aggregates → Aggregates
    aggregate : Agg → Tree → Aggregates → Aggregates

  -- the table of a SELECT, with WHERE, ORDER BY and LIMIT
  pub data Origin : Type 0 where
    no_origin : Origin
    from_table : List ℕ → Part → Orders → Option Limit → Origin

  -- the items of ORDER BY; `true` is DESC
  pub data Orders : Type 0 where
    no_order : Orders
    order_by : Tree → Bool → Orders → Orders
