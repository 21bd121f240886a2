use Rattle.std.proofs.Common.{sym, subst}
use Rattle.table_sheet.specs.Pages.{Page, Holds}
use Rattle.table_sheet.specs.Parts.{entry_slots}
use Rattle.table_sheet.specs.Indexed.{IsAbove}
use Rattle.table_sheet.proofs.Apart.{above_instead}
use Rattle.table_sheet.proofs.sheet.Sheet.put_back.Goals as goal

pub invariant_of-self : goal.invariant_of-self
invariant_of-self c = record {
  holds = subst (λ (p : Page). Holds p.definition p.committed (entry_slots p.definition c.args.overlay) p.room c.args.overlay.fresh) (sym c.self.view_is) c.requires.holds;
  indexed = above_instead c.self.inside.definition c.self.inside.committed c.self.inside.overlay c.args.overlay c.self.invariant.indexed (subst (λ (p : Page). IsAbove p.definition c.args.overlay) (sym c.self.view_is) c.requires.above);
}
