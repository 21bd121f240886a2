use Rattle.std.proofs.Common.{◌≡◌, ◌+◌, ◌∷◌, drop, suc, sym, ap, ◌∙◌, arith}
use Rattle.std.proofs.lemmas.List.{drop_more}
use Rattle.node_walk.specs.catalog_objects.declared.object.Object.{Object}
use Rattle.node_walk.specs.catalog_objects.Keys.{objects_of, seen}
use Rattle.unsafe_rules.specs.Places.{places_of}
use Rattle.unsafe_rules.proofs.Valued.{next_found, next_passed}
use Rattle.unsafe_rules.proofs.carrying.put_programs.Goals as goal
use Rattle.unsafe_rules.proofs.carrying.put_programs.Goals.{then-is_found+in_ok-put_body, else-is_found}

pub loop-at-preserved : goal.loop-at-preserved
loop-at-preserved c =
    let whole : objects_of (drop c.loop-at.at c.args.objects.now) ≡ seen c.index-objects-at.result ∷ objects_of (drop (c.loop-at.at + 1) c.args.objects.now) =
    ap objects_of (drop_more c.args.objects.now c.loop-at.at c.index-objects-at.result (omega arith))
    ∙ ap (λ (o : Object). seen o ∷ objects_of (drop (c.loop-at.at + 1) c.args.objects.now)) (sym c.index-objects-at.is) in
    let after : c.loop-at.at + 1 ≡ suc c.loop-at.at = omega arith in
    elim c.if-is_found.branch [
      | then-is_found+in_ok-put_body w ↦
          next_found (places_of c.args.found.now) c.loop-at.at _ (seen c.index-objects-at.result) _ _ c.loop-at.names c.if-is_found.names after whole (sym c.is_found.ensures ∙ w.if-is_found.true) (w.names-is ∙ w.in_ok-put_body.ensures)
          ∙ c.loop-at.invariant
      | else-is_found w ↦
          next_passed (places_of c.args.found.now) c.loop-at.at _ (seen c.index-objects-at.result) _ _ c.loop-at.names c.if-is_found.names after whole (sym c.is_found.ensures ∙ w.if-is_found.false) w.names-is
          ∙ c.loop-at.invariant
    ]
