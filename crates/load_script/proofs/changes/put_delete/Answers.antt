use Rattle.std.proofs.Common.{◌≡◌, ◌∙◌, ◌++◌, ◌-◌, ℕ, List, OnOk, ap, subst, codes}
use Rattle.std.specs.Fmt.{decimal}
use Rattle.load_script.proofs.Joins.{three}
use Rattle.load_script.proofs.changes.put_delete.Goals as goal

pub returns : goal.returns
returns c =
    let number = decimal (c.args.i - 1) in
    let before = c.in_ok-put_with.ensures ∙ ap (λ n. (c.args.text.now ++ codes "DELETE FROM g WHERE k = ") ++ decimal n) c.saturating_sub.ensures in
    let all = ap (λ t. t ++ codes " LIMIT 1") before ∙ three c.args.text.now (codes "DELETE FROM g WHERE k = ") number (codes " LIMIT 1") in
    subst (λ (t : List ℕ). OnOk c.extend_from_slice.result (c.extend_from_slice.new.self ≡ t)) all c.extend_from_slice.ensures.ok
