use Rattle.std.proofs.Common.{◌+◌, ◌<◌, ◌≤◌, length, refl, arith}
use Rattle.std.proofs.lemmas.List.{length-map}
use Rattle.session_ctx.specs.catalog_rules.Nodes.{nodes_of}
use Rattle.node_walk.specs.catalog_objects.Keys.{objects_of, seen}
use Rattle.sql_tree.specs.StatementView.{view}
use Rattle.unsafe_rules.specs.Places.{places_of}
use Rattle.unsafe_rules.specs.Reaching.{others, nothing_wanted}
use Rattle.unsafe_rules.proofs.Counting.{one_less}
use Rattle.unsafe_rules.proofs.Rounds.{one_found, place_within}
use Rattle.unsafe_rules.proofs.explaining.+find_reasons.Goals as goal

pub find_reasons-requires : goal.find_reasons-requires
find_reasons-requires t c =
    let new = c.in-Some.ensures in
    let within : c.in-Some.at < length c.args.objects.now = omega (arith, place_within (objects_of c.args.objects.now) c.in-Some.at new.object new.is, length-map c.args.objects.now seen) in
    let fewer : others (places_of c.more.result) (length c.args.objects.now) + 1 ≤ others (places_of c.args.found.now) (length c.args.objects.now) =
    rw c.more.ensures (one_less c.in-Some.at (places_of c.args.found.now) (length c.args.objects.now) new.new within) in (
      omega (arith, fewer, c.decreases),
      rw (c.more.ensures) (one_found (objects_of c.args.objects.now) (nodes_of (view c.args.s.now)) nothing_wanted (places_of c.args.found.now) c.in-Some.at c.requires new refl),
    )
