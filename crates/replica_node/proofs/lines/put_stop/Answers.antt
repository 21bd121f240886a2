use Rattle.std.proofs.Common.{◌≡◌, ℕ, List, OnOk, append_assoc, subst}
use Rattle.std.specs.Prelude.{codes}
use Rattle.std.specs.Fmt.{decimal}
use Rattle.replica_node.proofs.lines.put_stop.Goals as goal

pub returns-in-Damaged : goal.returns-in-Damaged
returns-in-Damaged c =
    rw c.in-Damaged.is
    (subst (λ (t : List ℕ). OnOk c.put_with.result (c.put_with.new.text ≡ t)) (append_assoc c.args.text.now (codes " stopped damaged ") (decimal c.in-Damaged.pos)) c.put_with.ensures)
