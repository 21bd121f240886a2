use Rattle.std.proofs.Common.{◌+◌, ◌<◌, ◌≤◌, length, sym, ap, ◌∙◌, arith}
use Rattle.std.proofs.lemmas.List.{length-map}
use Rattle.session_ctx.specs.catalog_rules.Nodes.{nodes_of}
use Rattle.node_walk.specs.catalog_objects.Keys.{objects_of, seen}
use Rattle.sql_tree.specs.StatementView.{view}
use Rattle.sql_reach.specs.Reach.{is_writing_function}
use Rattle.unsafe_rules.specs.Places.{places_of}
use Rattle.unsafe_rules.specs.Reaching.{others}
use Rattle.unsafe_rules.proofs.Counting.{one_less}
use Rattle.unsafe_rules.proofs.Elements.{made_at, made_none}
use Rattle.unsafe_rules.proofs.Rounds.{one_found, wanted_found, none_wanted, place_within}
use Rattle.unsafe_rules.proofs.reaching.+finds_writing.Goals as goal

pub finds_writing-requires : goal.finds_writing-requires
finds_writing-requires t c =
    let new = c.in-Some.ensures in
    let same = made_at seen c.args.objects.now c.in-Some.at c.in-Some-object_at.object.now new.object new.is (sym c.in-Some-object_at.ensures) in
    let within : c.in-Some.at < length c.args.objects.now = omega (arith, place_within (objects_of c.args.objects.now) c.in-Some.at new.object new.is, length-map c.args.objects.now seen) in
    let fewer : others (places_of c.more.result) (length c.args.objects.now) + 1 ≤ others (places_of c.args.found.now) (length c.args.objects.now) =
    rw c.more.ensures (one_less c.in-Some.at (places_of c.args.found.now) (length c.args.objects.now) new.new within) in (
      omega (arith, fewer, c.decreases),
      rw (c.more.ensures) (one_found (objects_of c.args.objects.now) (nodes_of (view c.args.s.now)) is_writing_function (places_of c.args.found.now) c.in-Some.at c.requires new
          (ap is_writing_function same ∙ sym c.is_writing_function.ensures ∙ c.if-is_writing_function.false)),
    )

pub returns-in-None : goal.returns-in-None
returns-in-None t c = sym (none_wanted (objects_of c.args.objects.now) (nodes_of (view c.args.s.now)) is_writing_function (places_of c.args.found.now) c.requires c.in-None.ensures)

pub returns-in-None-object_at : goal.returns-in-None-object_at
returns-in-None-object_at t c = absurd (made_none seen c.args.objects.now c.in-Some.at _ c.in-Some.ensures.is (sym c.in-None-object_at.ensures))

pub returns-then-is_writing_function : goal.returns-then-is_writing_function
returns-then-is_writing_function t c =
    let new = c.in-Some.ensures in
    let same = made_at seen c.args.objects.now c.in-Some.at c.in-Some-object_at.object.now new.object new.is (sym c.in-Some-object_at.ensures) in
    c.if-is_writing_function.true ∙ sym (wanted_found (objects_of c.args.objects.now) (nodes_of (view c.args.s.now)) is_writing_function (places_of c.args.found.now) c.in-Some.at c.requires new
    (ap is_writing_function same ∙ sym c.is_writing_function.ensures ∙ c.if-is_writing_function.true))
