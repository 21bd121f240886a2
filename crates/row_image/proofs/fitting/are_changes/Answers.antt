use Rattle.std.proofs.Common.{sym, ◌∙◌, arith}
use Rattle.event_codec.specs.Event.{map_of}
use Rattle.row_image.proofs.Walking.{left_some, stops, ends}
use Rattle.row_image.proofs.fitting.are_changes.Goals as goal

pub loop-rest-smaller : goal.loop-rest-smaller
loop-rest-smaller c = (left_some _ _ _ _ _ (sym c.in-Some.ensures)).1

pub loop-rest-preserved : goal.loop-rest-preserved
loop-rest-preserved c = sym (left_some _ _ _ _ _ (sym c.in-Some.ensures)).0 ∙ c.loop-rest.invariant

pub returns-in-None : goal.returns-in-None
returns-in-None c = stops c.args.kind (map_of c.args.map.now) _ _ c.loop-rest.invariant (sym c.in-None.ensures) (omega arith)

pub returns : goal.returns
returns c = ends c.args.kind (map_of c.args.map.now) _ _ c.loop-rest.invariant (omega arith) (omega arith)
