use Rattle.std.proofs.Common.{List, Some, sym, ap, ◌∙◌, ◌-◌, arith}
use Rattle.std.specs.Prelude.{option_copied}
use Rattle.val_types.specs.declared.value.Value.{Value}
use Rattle.row_store.proofs.Searching.{both_by, none_with, twice_by}
use Rattle.row_store.proofs.tables.Tables.find.Goals as goal

pub returns-in_err-at-clause-row : goal.returns-in_err-at-clause-row
returns-in_err-at-clause-row g c = ap option_copied c.from_residual.ensures ∙ none_with c.args.table.now c.args.which c.args.values.now c.args.self.now.tables (sym c.in_err-at.ensures)

pub returns-in_err-at-clause-primary : goal.returns-in_err-at-clause-primary
returns-in_err-at-clause-primary g c = λ at place first a b one two. omega arith

pub returns-in_err-at-clause-cost : goal.returns-in_err-at-clause-cost
returns-in_err-at-clause-cost g c = λ at place a b one two. omega arith

pub returns-in-Some-clause-row : goal.returns-in-Some-clause-row
returns-in-Some-clause-row g c = ap (λ (r : List Value). Some r) c.get.ensures ∙ c.in-Some.ensures.row c.args.table.now (sym c.in_ok-at.ensures)

pub returns-in-None-clause-row : goal.returns-in-None-clause-row
returns-in-None-clause-row g c = c.in-None.ensures.row c.args.table.now (sym c.in_ok-at.ensures)

pub returns-in-Some-clause-primary : goal.returns-in-Some-clause-primary
returns-in-Some-clause-primary g c = λ at place first. both_by c.args.self.now c.args.table.now c.in_ok-at.at (c.find_at.new.steps - c.args.steps.now) (sym c.in_ok-at.ensures) at place (c.in-Some.ensures.primary first)

pub returns-in-Some-clause-cost : goal.returns-in-Some-clause-cost
returns-in-Some-clause-cost g c = λ at place. twice_by c.args.self.now c.args.table.now c.in_ok-at.at (c.find_at.new.steps - c.args.steps.now) (sym c.in_ok-at.ensures) at place c.in-Some.ensures.cost

pub returns-in-None-clause-primary : goal.returns-in-None-clause-primary
returns-in-None-clause-primary g c = λ at place first. both_by c.args.self.now c.args.table.now c.in_ok-at.at (c.find_at.new.steps - c.args.steps.now) (sym c.in_ok-at.ensures) at place (c.in-None.ensures.primary first)

pub returns-in-None-clause-cost : goal.returns-in-None-clause-cost
returns-in-None-clause-cost g c = λ at place. twice_by c.args.self.now c.args.table.now c.in_ok-at.at (c.find_at.new.steps - c.args.steps.now) (sym c.in_ok-at.ensures) at place c.in-None.ensures.cost
