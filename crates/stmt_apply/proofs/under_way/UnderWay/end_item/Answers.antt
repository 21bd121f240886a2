use Rattle.std.proofs.Common.{◌≡◌, false, rules}
use Rattle.apply_model.specs.Groups.{is_too_large}
use Rattle.stmt_apply.proofs.Going.{ended_well}
use Rattle.stmt_apply.proofs.under_way.UnderWay.end_item.Goals as goal

pub returns : goal.returns
returns c = λ work g h.
    let small : is_too_large g ≡ false = search (rules, c.is_too_large.ensures work g h) in
    rw (c.new.ensures, c.clear.ensures) (ended_well c.args.first work c.args.self.now g h small)
