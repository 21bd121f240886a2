use Rattle.run_streams.proofs.Drawing.{drawing}
use Rattle.run_streams.proofs.reports.take_draw.Goals as goal

pub returns-clause-drawn : goal.returns-clause-drawn
returns-clause-drawn g c = drawing _ _ _ _ c.draw-draw.result c.draw-draw.ensures.first c.draw-draw.ensures.after c.in_ok-push.ensures.ok
