use Rattle.std.proofs.Common.{sym, ◌∙◌}
use Rattle.store_load.proofs.Whose.{is_of, text_within}
use Rattle.store_load.proofs.applying.apply_body.Goals as goal

pub apply-requires-clause-kind : goal.apply-requires-clause-kind
apply-requires-clause-kind c = is_of c.args.stored.now.node c.args.body.now c.in-Some.r (sym c.in_ok-r.ensures ∙ c.in-Some.is)

pub apply-requires-clause-text : goal.apply-requires-clause-text
apply-requires-clause-text c = text_within 4294967295 c.args.stored.now.node c.args.body.now c.in-Some.r c.requires.fits (sym c.in_ok-r.ensures ∙ c.in-Some.is)
