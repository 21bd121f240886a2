-- What a store holds can be made again.
use Rattle.std.specs.Prelude.{◌≡◌, ℕ, List, map, Some, Ok}
use Rattle.std.specs.List.{AllByRecursion}
use Rattle.hex.specs.Hex.{IsBytes}
use Rattle.val_types.specs.declared.change.Change.{Change}
use Rattle.table_rules.specs.Tables.{Table}
use Rattle.table_rules.specs.Changes.{AreKept}
use Rattle.catalog_laws.specs.catalog_rules.Bases.{Base, definitions_in}
use Rattle.disk_model.specs.Story.{Image}
use Rattle.catalog_laws.specs.Making.{AreMadeAgain}
use Rattle.store_model.specs.declared.record.Kind.{Kind}
use Rattle.store_model.specs.Bodies.{IsChange}
use Rattle.store_model.specs.Held.{Held, changed, body_applied}
use Rattle.store_model.specs.Stores.{held_by}

-- each file of an image holds bytes, as what a crash leaves does
abbrev pub IsImageOfBytes : Image → Type 0
IsImageOfBytes image = (f : ℕ) → IsBytes (image f)

-- the objects that an image holds can be made again in their order, by statements that read as their trees
abbrev pub HeldIsMadeAgain : Type 0
HeldIsMadeAgain = (kind : Kind) (image : Image) (held : Held) → IsImageOfBytes image → held_by kind image ≡ Ok held → AreMadeAgain held.base.catalog

-- they still can behind one record more
abbrev pub RecordsKeepIt : Type 0
RecordsKeepIt =
    (kind : Kind) (body : List ℕ) (held now : Held) → IsBytes body → body_applied kind body held ≡ Some now → AreMadeAgain held.base.catalog → AreMadeAgain now.base.catalog

-- changes that can be made to a base that can be made again have the form of a body: its tables have names of at most 64 bytes and
-- few columns, and what a row of theirs may hold has a form
abbrev pub ChangesHaveForms : Type 0
ChangesHaveForms =
    (cs : List Change) (base next : Base) → map (λ (t : Table). t.definition) base.tables ≡ definitions_in base.catalog → AreKept base.tables
    → AreMadeAgain base.catalog → changed cs base ≡ Some next → AllByRecursion IsChange cs
