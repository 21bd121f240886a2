use Rattle.std.proofs.Common.{◌≡◌, None, ap, ◌∙◌}
use Rattle.table_rules.specs.Stored.{table_named}
use Rattle.table_rules.specs.Stores.{names_differ}
use Rattle.row_store.specs.Shelves.{definitions_on, store_of}
use Rattle.row_store.proofs.Shelved.{names_more, created, keeps_more}
use Rattle.row_store.proofs.Staying.{committed_created}
use Rattle.row_store.proofs.tables.Tables.create.Goals as goal

pub invariant_of-self-2 : goal.invariant_of-self-2
invariant_of-self-2 c =
    let free : table_named c.args.definition.now.name (store_of c.self.inside.shelves.items).tables ≡ None = rw c.self.view_is c.requires in
    ap (λ shelves. names_differ (definitions_on shelves)) c.in_ok-push.ensures.items
    ∙ names_more c.self.inside.shelves.items c.new-shelf.result c.args.definition.now c.self.invariant free (c.new-shelf.ensures.definition ∙ c.in_ok-definition.ensures ∙ c.in_ok-duplicate-2.ensures)

pub returns-clause-ok : goal.returns-clause-ok
returns-clause-ok c =
    rw (← c.self.view_is)
    (ap (λ shelves. (store_of shelves).tables) c.in_ok-push.ensures.items
    ∙ created c.self.inside.shelves.items c.new-shelf.result c.args.definition.now (c.new-shelf.ensures.definition ∙ c.in_ok-definition.ensures ∙ c.in_ok-duplicate-2.ensures) c.new-shelf.ensures.rows)

pub returns-clause-keys : goal.returns-clause-keys
returns-clause-keys c =
    rw (← c.self.view_is, c.in_ok-push.ensures.items) (keeps_more c.self.inside.shelves.items c.new-shelf.result)

pub returns-clause-committed : goal.returns-clause-committed
returns-clause-committed c =
    rw (← c.self.view_is)
    (ap (λ shelves. (store_of shelves).committed) c.in_ok-push.ensures.items
    ∙ committed_created c.self.inside.shelves.items c.new-shelf.result c.args.definition.now (c.new-shelf.ensures.definition ∙ c.in_ok-definition.ensures ∙ c.in_ok-duplicate-2.ensures) c.new-shelf.ensures.committed)
