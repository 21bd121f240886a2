use Rattle.std.proofs.Common.{◌≡◌, ◌∙◌, ◌++◌, ℕ, List, OnOk, ap, subst, codes, append_assoc}
use Rattle.load_script.specs.Script.{replica_line}
use Rattle.load_script.proofs.lines.put_steps.Goals as goal

pub returns : goal.returns
returns c =
    let fetch = replica_line (codes "FETCH 1000000") in
    let apply = replica_line (codes "APPLY 1000") in
    let all = ap (λ t. t ++ apply) c.in_ok-put_replica_line.ensures ∙ append_assoc c.args.text.now fetch apply in
    subst (λ (t : List ℕ). OnOk c.put_replica_line-2.result (c.put_replica_line-2.new.text ≡ t)) all c.put_replica_line-2.ensures
