use Rattle.std.proofs.Common.{is_some, ap, ◌∙◌}
use Rattle.std.specs.Prelude.{position}
use Rattle.session_model.specs.Commands.{is_save_of}
use Rattle.session_shared.proofs.Places.{has_place}
use Rattle.session_shared.proofs.session.Open.has_save.Goals as goal

pub returns : goal.returns
returns c =
    c.is_some.ensures ∙ ap is_some c.place_of.ensures.place
    ∙ ap (λ ss. is_some (position (is_save_of c.args.name.now) ss)) (c.deref.ensures.value ∙ ap (λ o. o.saves) c.self.view_is)
    ∙ has_place c.args.name.now c.args.self.now.saves
