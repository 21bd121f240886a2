use Rattle.std.proofs.Common.{◌≡◌, ◌+◌, ap, ◌∙◌}
use Rattle.std.proofs.Common.{ℕ}
use Rattle.event_codec.specs.Event.{size_of}
use Rattle.apply_model.specs.Groups.{with_bytes}
use Rattle.apply_laws.specs.row_events.Sizes.{bounded}
use Rattle.stmt_apply.proofs.Going.{counted}
use Rattle.stmt_apply.proofs.transaction.apply_event.Goals as goal

pub returns-clause-goes : goal.returns-clause-goes
returns-clause-goes c = λ g h.
    let size = size_of c.args.part.now.event in
    let sum : c.saturating_add-under_way.result ≡ bounded (c.args.under_way.now.bytes + size) =
    c.saturating_add-under_way.ensures ∙ ap (λ (n : ℕ). bounded (c.args.under_way.now.bytes + n)) c.length.ensures in
    c.apply_body.ensures.goes (with_bytes size g) (counted c.args.work.now c.args.under_way.now g size c.saturating_add-under_way.result h sum)
