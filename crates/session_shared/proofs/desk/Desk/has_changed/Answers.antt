use Rattle.std.proofs.Common.{length, ap, ◌∙◌}
use Rattle.session_shared.specs.Desk.{shared_of}
use Rattle.session_shared.proofs.Bases.{changed_behind}
use Rattle.session_shared.proofs.desk.Desk.has_changed.Goals as goal

pub returns-then-not-is_other : goal.returns-then-not-is_other
returns-then-not-is_other c =
    changed_behind c.args.session c.args.mark c.mark.result c.is_other.result (shared_of c.args.self.now) c.is_other.ensures c.if-not-is_other.true (c.mark.ensures ∙ ap length c.undo.ensures)
