use Rattle.std.proofs.Common.{◌<◌, ◌+◌, ◌-◌, ◌^◌, length, drop, sym, arith}
use Rattle.relay_log.specs.Reaching.{place_seen}
use Rattle.relay_log.proofs.Keeping.{of_bytes, want_is, want_low}
use Rattle.relay_log.proofs.relay.Relay.want.Goals as goal

pub overflow_cast-result : goal.overflow_cast-result
overflow_cast-result c =
    let low : c.walk-end.result.place.pos + (length c.split_at.result.1.now - c.walk-end.result.passed) < 2 ^ 32 =
    want_low (of_bytes (place_seen c.self.inside.place) (drop c.self.inside.done c.self.inside.bytes.items)) c.args.self.now c.self.inside.walked c.walk-end.result c.rest.result.now c.split_at.result.1.now
    c.self.view_is c.self.invariant.1 c.rest.ensures.bytes c.split_at.ensures.back c.walk-end.ensures.within c.walk-end.ensures.reaches c.walk-end.ensures.ends in
    omega (arith, low)

pub overflow_add-result : goal.overflow_add-result
overflow_add-result c =
    let low : c.walk-end.result.place.pos + (length c.split_at.result.1.now - c.walk-end.result.passed) < 2 ^ 32 =
    want_low (of_bytes (place_seen c.self.inside.place) (drop c.self.inside.done c.self.inside.bytes.items)) c.args.self.now c.self.inside.walked c.walk-end.result c.rest.result.now c.split_at.result.1.now
    c.self.view_is c.self.invariant.1 c.rest.ensures.bytes c.split_at.ensures.back c.walk-end.ensures.within c.walk-end.ensures.reaches c.walk-end.ensures.ends in
    omega (arith, low)

pub returns : goal.returns
returns c =
    sym (want_is (of_bytes (place_seen c.self.inside.place) (drop c.self.inside.done c.self.inside.bytes.items)) c.args.self.now c.self.inside.walked c.walk-end.result c.rest.result.now c.split_at.result.1.now
    c.self.view_is c.self.invariant.1 c.rest.ensures.bytes c.split_at.ensures.back c.walk-end.ensures.within c.walk-end.ensures.reaches c.walk-end.ensures.ends)
