use Rattle.std.proofs.Common.{◌≡◌, drop, sym, subst, arith}
use Rattle.relay_log.specs.declared.place.Walk.{Walk}
use Rattle.relay_log.specs.Reaching.{Fetched, IsAhead, IsKept, place_seen}
use Rattle.relay_log.proofs.Keeping.{kept_anew, kept_by, kept_on, of_bytes, passed_on}
use Rattle.relay_log.proofs.relay.Relay.pass.Goals as goal
use Rattle.relay_log.proofs.relay.Relay.pass.Goals.{then-self-to, else-self-to}

pub invariant_of-self : goal.invariant_of-self
invariant_of-self c =
    let f : Fetched = of_bytes (place_seen c.self.inside.place) (drop c.self.inside.done c.self.inside.bytes.items) in
    let to : Walk = c.args.to.now in
    let walked : Walk = c.self.inside.walked in
    let kept : IsKept f walked = c.self.invariant.1 in
    let ahead : IsAhead f to = subst (λ (g : Fetched). IsAhead g to) (sym c.self.view_is) c.requires in
    let same : drop to.passed f.bytes ≡ drop c.compact-self-inside.result c.compact-self-inside.new.bytes.items =
    passed_on c.self.inside.done to.passed c.compact-self-inside.result c.self.inside.bytes.items c.compact-self-inside.new.bytes.items c.compact-self-inside.ensures.same in (
      c.compact-self-inside.ensures.within,
      elim c.if-self-to.branch [
        | then-self-to w ↦ kept_by (place_seen to.place) _ _ _ c.if-self-to.self same (sym w.self-is) (kept_anew f walked to kept ahead)
        | else-self-to w ↦ kept_by (place_seen to.place) _ _ _ c.if-self-to.self same (sym w.self-is) (kept_on f walked to kept ahead (omega arith))
      ],
    )
