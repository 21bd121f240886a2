use Rattle.std.proofs.Common.{◌≡◌, List, Option, None, sym, ap, subst, ◌∙◌}
use Rattle.std.specs.Prelude.{is_some, Result}
use Rattle.val_types.specs.declared.value.Value.{Value}
use Rattle.table_rules.specs.Stored.{row_of_key}
use Rattle.table_sheet.specs.declared.refusal.SheetRefusal.{SheetRefusal}
use Rattle.table_sheet.specs.Pages.{rows_on}
use Rattle.table_sheet.specs.Refusals.{Deleted}
use Rattle.table_sheet.proofs.Shown.{all_stay}
use Rattle.table_sheet.proofs.sheet.Sheet.delete.Goals as goal
use Rattle.table_sheet.proofs.sheet.Sheet.delete.Goals.{in-Some, in-None}

pub returns-clause-stored : goal.returns-clause-stored
returns-clause-stored c =
    elim c.match-branch-2.branch [
      | in-Some w ↦
          subst (λ (r : Result (Unit {0}) SheetRefusal). Deleted r c.args.self.now.definition c.args.key.now (rows_on c.args.self.now) (rows_on c.take.new.self)) (sym w.result-is)
          (ap (λ (p : Option (List Value)). is_some p) (sym c.in_ok-take.ensures.row ∙ w.in-Some.is), c.in_ok-take.ensures.rows)
      | in-None w ↦
          let none : row_of_key c.args.self.now.definition c.args.key.now (rows_on c.args.self.now) ≡ None = sym c.in_ok-take.ensures.row ∙ w.in-None.is in
          subst (λ (r : Result (Unit {0}) SheetRefusal). Deleted r c.args.self.now.definition c.args.key.now (rows_on c.args.self.now) (rows_on c.take.new.self)) (sym w.result-is)
          (none, c.in_ok-take.ensures.rows ∙ all_stay c.args.self.now.definition c.args.key.now (rows_on c.args.self.now) none)
    ]
