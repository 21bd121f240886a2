use Rattle.std.proofs.Common.{◌≡◌, ◌∙◌, ◌++◌, ℕ, List, OnOk, ap, subst, codes}
use Rattle.load_script.specs.Script.{replica_line}
use Rattle.load_script.proofs.Joins.{three}
use Rattle.load_script.proofs.lines.put_last.Goals as goal

pub returns : goal.returns
returns c =
    let fetch = replica_line (codes "FETCH 1000000000") in
    let apply = replica_line (codes "APPLY 4294967295") in
    let count = replica_line (codes "SELECT COUNT(*) FROM g") in
    let before = c.in_ok-put_replica_line-2.ensures ∙ ap (λ t. t ++ apply) c.in_ok-put_replica_line.ensures in
    let all = ap (λ t. t ++ count) before ∙ three c.args.text.now fetch apply count in
    subst (λ (t : List ℕ). OnOk c.put_replica_line-3.result (c.put_replica_line-3.new.text ≡ t)) all c.put_replica_line-3.ensures
