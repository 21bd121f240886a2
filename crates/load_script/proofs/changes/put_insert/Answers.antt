use Rattle.std.proofs.Common.{◌≡◌, ◌∙◌, ◌++◌, ℕ, List, OnOk, ap, subst, codes}
use Rattle.std.specs.Fmt.{decimal}
use Rattle.load_script.proofs.Joins.{five}
use Rattle.load_script.proofs.changes.put_insert.Goals as goal

pub returns : goal.returns
returns c =
    let number = decimal c.args.i in
    let before = c.in_ok-put_with-2.ensures ∙ ap (λ t. (t ++ codes ", 'a") ++ number) c.in_ok-put_with.ensures in
    let all = ap (λ t. t ++ codes "')") before ∙ five c.args.text.now (codes "INSERT INTO g (k, v) VALUES (") number (codes ", 'a") number (codes "')") in
    subst (λ (t : List ℕ). OnOk c.extend_from_slice.result (c.extend_from_slice.new.self ≡ t)) all c.extend_from_slice.ensures.ok
