use Rattle.std.proofs.Common.{◌≡◌, ◌-◌, ◌+◌, ℕ, sym, ◌∙◌, ap, arith, take}
use Rattle.row_image.specs.log_model.Groups.{find}
use Rattle.log_groups.specs.Views.{parts, maps_in}
use Rattle.log_groups.proofs.Walking.{find_on}
use Rattle.log_groups.proofs.items.find_map.Goals as goal

pub loop-step-preserved : goal.loop-step-preserved
loop-step-preserved c =
    let same : c.args.count - (c.loop-step._step + 1) ≡ c.args.count - c.loop-step._step - 1 = omega arith in
    ap (λ (n : ℕ). find c.args.id (maps_in (take n (parts c.next.new.self)))) same
    ∙ sym (find_on (c.args.count - c.loop-step._step) c.args.id _ _ _ c.in-Some.ensures.walk (omega arith) c.in-None.ensures)
    ∙ c.loop-step.invariant
