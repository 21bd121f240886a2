use Rattle.std.proofs.Common.{◌≡◌, List, ℕ, sym, ap, ◌∙◌}
use Rattle.log_groups.specs.Views.{group_seen}
use Rattle.log_groups.specs.log_model.Groups.{group, group_at}
use Rattle.relay_log.specs.Reaching.{ahead_of, Fetched, place_seen}
use Rattle.relay_log.proofs.Keeping.{ahead_on}
use Rattle.relay_log.proofs.walking.walk.Goals as goal

pub loop-group-preserved : goal.loop-group-preserved
loop-group-preserved c =
    let f : Fetched = record { place = place_seen c.args.start; bytes = c.args.bytes.now } in
    let is : group_at (ahead_of f c.loop-group.here) ≡ group (group_seen c.in-Group.group) =
    ap (λ (bs : List ℕ). group_at (record { bytes = bs; pos = c.loop-group.here.place.pos })) (sym c.split_at.ensures.back)
    ∙ ap (λ (n : ℕ). group_at (record { bytes = c.split_at.result.1.now; pos = n })) (sym c.from.ensures)
    ∙ sym c.in-Group.ensures in
    ahead_on f c.loop-group.here c.behind-here.result (group_seen c.in-Group.group) c.loop-group.invariant is c.behind-here.ensures.place c.behind-here.ensures.passed
