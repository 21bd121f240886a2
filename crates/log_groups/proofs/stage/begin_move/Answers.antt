use Rattle.std.proofs.Common.{ap, arith}
use Rattle.event_codec.specs.Event.{seen, body_of}
use Rattle.log_groups.specs.Views.{place_of}
use Rattle.log_groups.proofs.Walking.{within_of, first_map, first_stands, stands_then}
use Rattle.log_groups.proofs.stage.begin_move.Goals as goal

pub first_map-requires : goal.first_map-requires
first_map-requires c = first_map (place_of c.args.here) (seen c.args.it.now) _ c.requires (ap body_of c.in-TableMap.is)

pub returns-in-TableMap-clause-stands : goal.returns-in-TableMap-clause-stands
returns-in-TableMap-clause-stands c =
    let within = within_of (place_of c.args.here) (seen c.args.it.now) c.requires in
    stands_then _ _ _ _ c.first_map.ensures.same (first_stands (place_of c.args.here) (seen c.args.it.now) _ c.requires (ap body_of c.in-TableMap.is)) (omega (arith, within.0))
