use Rattle.std.proofs.Common.{◌≡◌, ◌∙◌, ◌++◌, ◌-◌, ℕ, List, OnOk, ap, subst, codes, append_assoc}
use Rattle.std.specs.Fmt.{decimal}
use Rattle.load_script.proofs.changes.put_update.Goals as goal

pub returns : goal.returns
returns c =
    let front = codes "UPDATE g SET v = CONCAT(v, 'x') WHERE k = " in
    let all = ap (λ n. (c.args.text.now ++ front) ++ decimal n) c.saturating_sub.ensures ∙ append_assoc c.args.text.now front (decimal (c.args.i - 1)) in
    subst (λ (t : List ℕ). OnOk c.put_with.result (c.put_with.new.text ≡ t)) all c.put_with.ensures
