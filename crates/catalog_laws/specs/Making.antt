-- A catalog is made again, object by object, by statements that read as their trees.
use Rattle.std.specs.Prelude.{◌≡◌, ◌≤◌, ℕ, List, [], length, Some, None}
use Rattle.std.specs.List.{AllByRecursion}
use Rattle.hex.specs.Hex.{IsBytes}
use Rattle.val_types.specs.declared.definitions.TableDef.{TableDef}
use Rattle.sql_tree.specs.Statement.{Statement}
use Rattle.sql_tree.specs.Well.{IsWell}
use Rattle.sql_print.specs.StatementSpelling.{spelling}
use Rattle.catalog_show_create.specs.catalog_rules.Bases.{Base, defined, creation_of, definitions_in, CanBeMade}
use Rattle.catalog_show_create.specs.catalog_rules.Objects.{Object}
use Rattle.catalog_show_create.specs.catalog_rules.Creating.{ddl_refusal, catalog_after}
use Rattle.catalog_show_create.specs.Stated.{IsMade}
use Rattle.text_answers.specs.Answers.{a_statement, text_answer}

-- an object was made by a statement that the parser can give, and that is the one by which it is made again
pub record IsMadeWell (o : Object) : Type 0 where
  pub made : IsMade o
  pub well : IsWell (creation_of o)

-- all objects were, and can be made again in their order
pub record AreMadeAgain (catalog : List Object) : Type 0 where
  pub each : AllByRecursion IsMadeWell catalog
  pub again : CanBeMade [] catalog

-- ---- laws

-- no object is
abbrev pub NoneAreMade : Type 0
NoneAreMade = AreMadeAgain []

-- after a statement that the parser can give, where nothing refuses it, they still are: one more that it made, or fewer behind a DROP
abbrev pub StillMadeAgain : Type 0
StillMadeAgain = (catalog : List Object) (s : Statement) → IsWell s → ddl_refusal catalog s ≡ None → AreMadeAgain catalog → AreMadeAgain (catalog_after s catalog)

-- and so are those of a base behind a text that reads as a statement, wherever it came from
abbrev pub BasesStillMadeAgain : Type 0
BasesStillMadeAgain =
    (text : List ℕ) (s : Statement) (base next : Base) → IsBytes text → text_answer text ≡ a_statement s → defined s base ≡ Some next
    → AreMadeAgain base.catalog → AreMadeAgain next.catalog

-- the canonical text of the statement that makes an object again reads as it
abbrev pub CreationsAreRead : Type 0
CreationsAreRead = (o : Object) → IsMadeWell o → text_answer (spelling (creation_of o)) ≡ a_statement (creation_of o)

-- tables have names of at most 64 bytes
abbrev pub TablesHaveNames : Type 0
TablesHaveNames = (catalog : List Object) → AreMadeAgain catalog → AllByRecursion (λ (d : TableDef). length d.name ≤ 64) (definitions_in catalog)
