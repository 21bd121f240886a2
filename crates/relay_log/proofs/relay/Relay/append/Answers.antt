use Rattle.std.proofs.Common.{◌≡◌, ◌≤◌, ◌+◌, List, ℕ, length, drop, ◌++◌, is_ok, Bool, true, false, sym, ap, refl, ◌∙◌, subst, arith, if◌then◌else◌}
use Rattle.std.proofs.lemmas.List.{length-append}
use Rattle.relay_log.specs.declared.place.Walk.{Walk}
use Rattle.relay_log.specs.Reaching.{Fetched, IsKept, past_all, place_seen}
use Rattle.relay_log.proofs.Keeping.{dropped_more, IsWalk, kept_by, kept_more, kept_walked, of_bytes, walk_by}
use Rattle.relay_log.proofs.relay.Relay.append.Goals as goal

pub invariant_of-self : goal.invariant_of-self
invariant_of-self c =
    let items : List ℕ = c.self.inside.bytes.items in
    let done : ℕ = c.self.inside.done in
    let f : Fetched = of_bytes (place_seen c.self.inside.place) (drop done items) in
    let walked : Walk = c.self.inside.walked in
    let end : Walk = c.walk-end.result in
    let piece : List ℕ = c.args.piece.now in
    let kept : IsKept f walked = c.self.invariant.1 in
    let few : done ≤ length items = c.self.invariant.0 in
    let rest : c.rest.result.now ≡ f.bytes = c.rest.ensures.bytes ∙ ap (λ (g : Fetched). g.bytes) (sym c.self.view_is) in
    let walk : IsWalk f walked end =
    walk_by f walked end c.split_at.result.1.now (c.split_at.ensures.back ∙ ap (drop walked.passed) rest) c.walk-end.ensures.within c.walk-end.ensures.reaches c.walk-end.ensures.ends in
    let room : (past_all f.place f.bytes).pos + length piece ≤ 4294967295 = subst (λ (g : Fetched). (past_all g.place g.bytes).pos + length piece ≤ 4294967295) (sym c.self.view_is) c.requires in
    by (is_ok c.extend_from_slice.result) items done f walked end piece c.extend_from_slice.new.self.items c.extend_from_slice.ensures.items few kept walk room
  where
    by : (ok : Bool) (items : List ℕ) (done : ℕ) (f : Fetched) (walked end : Walk) (piece new : List ℕ) → new ≡ (if ok then items ++ piece else items) → done ≤ length items
        → IsKept (of_bytes f.place (drop done items)) walked → IsWalk (of_bytes f.place (drop done items)) walked end → (past_all f.place (drop done items)).pos + length piece ≤ 4294967295
        → (done ≤ length new) × IsKept (of_bytes f.place (drop done new)) (record { place = end.place; passed = walked.passed + end.passed })
    by true items done f walked end piece new is few kept walk room = (
      omega (arith, few, ap length is, length-append items piece),
      kept_by f.place _ _ _ _ (dropped_more done items piece few ∙ ap (drop done) (sym is)) refl (kept_more (of_bytes f.place (drop done items)) walked end piece kept walk room),
    )
    by false items done f walked end piece new is few kept walk room = (
      omega (arith, few, ap length is),
      kept_by f.place _ _ _ _ (ap (drop done) (sym is)) refl (kept_walked (of_bytes f.place (drop done items)) walked end kept walk),
    )
