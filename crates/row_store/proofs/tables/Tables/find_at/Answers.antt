use Rattle.std.proofs.Common.{◌-◌, ◌<◌, ◌≤◌, length, ◌∙◌, arith}
use Rattle.row_store.proofs.Searching.{both_at, got_with, twice_at}
use Rattle.row_store.proofs.Shelved.{none_past}
use Rattle.row_store.proofs.tables.Tables.find_at.Goals as goal

pub returns-then-at-len-clause-row : goal.returns-then-at-len-clause-row
returns-then-at-len-clause-row g c =
    let past : length c.self.inside.shelves.items ≤ c.args.at = omega arith in
    rw (← c.self.view_is) (λ name e. absurd (none_past name c.self.inside.shelves.items c.args.at past e))

pub returns-then-at-len-clause-primary : goal.returns-then-at-len-clause-primary
returns-then-at-len-clause-primary g c = λ first a b one two. omega arith

pub returns-then-at-len-clause-cost : goal.returns-then-at-len-clause-cost
returns-then-at-len-clause-cost g c = λ a b one two. omega arith

pub returns-clause-row : goal.returns-clause-row
returns-clause-row g c =
    rw (← c.self.view_is) (λ name e. c.find_on_key.ensures.row ∙ got_with name c.args.which c.args.values.now c.self.inside.shelves.items c.args.at c.index.result.now c.index.ensures e)

pub returns-clause-primary : goal.returns-clause-primary
returns-clause-primary g c =
    let h : c.args.at < length c.self.inside.shelves.items = omega arith in
    rw (← c.self.view_is) (λ first. both_at c.self.inside.shelves.items c.args.at c.index.result.now h c.index.ensures (c.find_on_key.new.steps - c.args.steps.now) (c.find_on_key.ensures.primary first))

pub returns-clause-cost : goal.returns-clause-cost
returns-clause-cost g c =
    let h : c.args.at < length c.self.inside.shelves.items = omega arith in
    rw (← c.self.view_is) (twice_at c.self.inside.shelves.items c.args.at c.index.result.now h c.index.ensures (c.find_on_key.new.steps - c.args.steps.now) c.find_on_key.ensures.cost)
