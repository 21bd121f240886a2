use Rattle.std.proofs.Common.{take, min, ap, ◌∙◌}
use Rattle.std.specs.Prelude.{find, position, slice_get}
use Rattle.session_model.specs.Commands.{is_save_of}
use Rattle.session_model.specs.binlog_sizes.Sizes.{are_too_large}
use Rattle.session_shared.specs.Saving.{changes_at, marks_of, went_back}
use Rattle.session_shared.proofs.Fitting.{fewer_fit}
use Rattle.session_shared.proofs.Places.{gone, stayed, stayed_too}
use Rattle.session_shared.proofs.session.Open.go_back.Goals as goal

pub returns-in_default-clause-changes : goal.returns-in_default-clause-changes
returns-in_default-clause-changes c =
    (stayed c.args.name.now c.args.self.now (c.in_default.ensures.place ∙ ap (position (is_save_of c.args.name.now)) (c.deref.ensures.value ∙ ap (λ o. o.saves) c.self.view_is))).0

pub returns-in_default-clause-cut : goal.returns-in_default-clause-cut
returns-in_default-clause-cut c =
    (stayed c.args.name.now c.args.self.now (c.in_default.ensures.place ∙ ap (position (is_save_of c.args.name.now)) (c.deref.ensures.value ∙ ap (λ o. o.saves) c.self.view_is))).1

pub returns-in_default-marks_at-clause-changes : goal.returns-in_default-marks_at-clause-changes
returns-in_default-marks_at-clause-changes c =
    (stayed_too c.args.name.now c.args.self.now c.in-Some.place (c.in-Some.ensures.place ∙ ap (position (is_save_of c.args.name.now)) (c.deref.ensures.value ∙ ap (λ o. o.saves) c.self.view_is))
    (c.in_default-marks_at.ensures ∙ ap (λ ss. marks_of (slice_get ss c.in-Some.place)) (c.deref-2.ensures.value ∙ ap (λ o. o.saves) c.self.view_is))).0

pub returns-in_default-marks_at-clause-cut : goal.returns-in_default-marks_at-clause-cut
returns-in_default-marks_at-clause-cut c =
    (stayed_too c.args.name.now c.args.self.now c.in-Some.place (c.in-Some.ensures.place ∙ ap (position (is_save_of c.args.name.now)) (c.deref.ensures.value ∙ ap (λ o. o.saves) c.self.view_is))
    (c.in_default-marks_at.ensures ∙ ap (λ ss. marks_of (slice_get ss c.in-Some.place)) (c.deref-2.ensures.value ∙ ap (λ o. o.saves) c.self.view_is))).1

-- fewer items fit, too
pub invariant_of-self : goal.invariant_of-self
invariant_of-self c = ap are_too_large c.cut.ensures ∙ fewer_fit c.min.result c.self.inside.items c.self.invariant

pub returns-clause-changes : goal.returns-clause-changes
returns-clause-changes c =
    (gone c.args.name.now c.self.inside.items c.cut.new.self c.self.inside.saves.items c.self.inside.changed c.in-Some.place c.in-Some-marks_at.items c.in-Some-marks_at.changes
    (c.in-Some.ensures.place ∙ ap (position (is_save_of c.args.name.now)) c.deref.ensures.value)
    (c.in-Some-marks_at.ensures ∙ ap (λ ss. marks_of (slice_get ss c.in-Some.place)) c.deref-2.ensures.value)
    (c.cut.ensures ∙ ap (λ n. take n c.self.inside.items) (c.min.ensures ∙ ap (min c.in-Some-marks_at.items) c.mark.ensures))).0
    ∙ ap (λ o. changes_at (find (is_save_of c.args.name.now) o.saves)) c.self.view_is

pub returns-clause-cut : goal.returns-clause-cut
returns-clause-cut c =
    ap (λ ss. record { items = c.cut.new.self; saves = ss; changed = c.self.inside.changed }) c.truncate.ensures.items
    ∙ (gone c.args.name.now c.self.inside.items c.cut.new.self c.self.inside.saves.items c.self.inside.changed c.in-Some.place c.in-Some-marks_at.items c.in-Some-marks_at.changes
    (c.in-Some.ensures.place ∙ ap (position (is_save_of c.args.name.now)) c.deref.ensures.value)
    (c.in-Some-marks_at.ensures ∙ ap (λ ss. marks_of (slice_get ss c.in-Some.place)) c.deref-2.ensures.value)
    (c.cut.ensures ∙ ap (λ n. take n c.self.inside.items) (c.min.ensures ∙ ap (min c.in-Some-marks_at.items) c.mark.ensures))).1
    ∙ ap (λ o. went_back c.args.name.now (find (is_save_of c.args.name.now) o.saves) o) c.self.view_is
