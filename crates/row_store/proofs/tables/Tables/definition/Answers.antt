use Rattle.std.proofs.Common.{◌≡◌, ◌<◌, ◌≤◌, length, Some, sym, ap, subst, ◌∙◌, arith}
use Rattle.val_types.specs.declared.definitions.TableDef.{TableDef}
use Rattle.table_rules.specs.Stores.{place_of}
use Rattle.row_store.specs.Shelves.{store_of}
use Rattle.row_store.proofs.Shelved.{definition_at, no_definition_at, definition_place, whole}
use Rattle.row_store.proofs.tables.Tables.definition.Goals as goal

pub returns-then-at-len-clause-is : goal.returns-then-at-len-clause-is
returns-then-at-len-clause-is c =
    let past : length c.self.inside.shelves.items ≤ c.args.at = omega arith in
    rw (← c.self.view_is) (no_definition_at c.self.inside.shelves.items c.args.at past)

pub returns-then-at-len-clause-whole : goal.returns-then-at-len-clause-whole
returns-then-at-len-clause-whole c = rw (← c.self.view_is) (whole c.self.inside.shelves.items c.self.invariant)

pub returns-clause-is : goal.returns-clause-is
returns-clause-is c =
    let less : c.args.at < length c.self.inside.shelves.items = omega arith in
    rw (← c.self.view_is) (ap Some c.definition.ensures.is ∙ definition_at c.self.inside.shelves.items c.args.at c.index.result.now less c.index.ensures)

pub returns-clause-place : goal.returns-clause-place
returns-clause-place c =
    let less : c.args.at < length c.self.inside.shelves.items = omega arith in
    rw (← c.self.view_is) (subst (λ (d : TableDef). place_of d.name (store_of c.self.inside.shelves.items).tables ≡ Some c.args.at) (sym c.definition.ensures.is)
    (definition_place c.self.inside.shelves.items c.args.at c.index.result.now c.self.invariant less c.index.ensures))

pub returns-clause-whole : goal.returns-clause-whole
returns-clause-whole c = rw (← c.self.view_is) (whole c.self.inside.shelves.items c.self.invariant)
