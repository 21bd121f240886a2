use Rattle.std.proofs.Common.{◌∙◌, ap, arith}
use Rattle.event_codec.specs.Event.{seen, body_of}
use Rattle.log_groups.specs.Views.{place_of, parts}
use Rattle.log_groups.proofs.Walking.{within_of, map_next, drop_more, maps_more, stands_then}
use Rattle.log_groups.proofs.stage.maps_move.Goals as goal

pub more_map-requires-clause-few : goal.more_map-requires-clause-few
more_map-requires-clause-few c =
    let within = within_of (place_of c.args.here) (seen c.args.it.now) c.requires.here in
    omega (arith, c.requires.stands.1, within.2)

pub more_map-requires-clause-more : goal.more_map-requires-clause-more
more_map-requires-clause-more c =
    maps_more c.args.count (parts c.args.items) _ _ _ (c.requires.stands.0 ∙ map_next (place_of c.args.here) (seen c.args.it.now) _ c.requires.here (ap body_of c.in-TableMap.is)) (ap body_of c.in-TableMap.is)

pub returns-in-TableMap-clause-stands : goal.returns-in-TableMap-clause-stands
returns-in-TableMap-clause-stands c =
    let within = within_of (place_of c.args.here) (seen c.args.it.now) c.requires.here in
    stands_then _ _ _ _ c.more_map.ensures.same
    (drop_more c.args.count (parts c.args.items) _ _ (c.requires.stands.0 ∙ map_next (place_of c.args.here) (seen c.args.it.now) _ c.requires.here (ap body_of c.in-TableMap.is))) (omega (arith, c.requires.stands.1, within.0))
