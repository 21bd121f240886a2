use Rattle.std.proofs.Common.{◌≡◌, ◌∙◌, ◌++◌, ◌+◌, ℕ, List, OnOk, ap, subst, codes}
use Rattle.std.specs.Fmt.{decimal}
use Rattle.load_script.specs.Script.{pair_text}
use Rattle.load_script.proofs.Joins.{seven}
use Rattle.load_script.proofs.changes.put_pair.Goals as goal

pub returns : goal.returns
returns c =
    let number = decimal c.from-number.result in
    let second = decimal (c.from-number.result + 100000) in
    let two = c.in_ok-put_with-2.ensures ∙ ap (λ t. (t ++ codes ", 'b") ++ number) c.in_ok-put_with.ensures in
    let before = c.in_ok-put_with-3.ensures ∙ ap (λ t. (t ++ codes "'), (") ++ second) two in
    let all = ap (λ t. t ++ codes ", 'c')") before ∙ seven c.args.text.now (codes "INSERT INTO g (k, v) VALUES (") number (codes ", 'b") number (codes "'), (") second (codes ", 'c')")
    ∙ ap (λ n. c.args.text.now ++ pair_text n) c.from-number.ensures in
    subst (λ (t : List ℕ). OnOk c.extend_from_slice.result (c.extend_from_slice.new.self ≡ t)) all c.extend_from_slice.ensures.ok
