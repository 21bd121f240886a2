use Rattle.std.proofs.Common.{◌≡◌, ◌<◌, ◌≤◌, ℕ, ◌-◌, suc, List, get_or, length, sym, ◌∙◌, ap, subst, arith}
use Rattle.std.proofs.lemmas.Bool.{ltb-true, ltb-false}
use Rattle.commit_store.specs.Keeping.{positions}
use Rattle.durable_runs.specs.Sources.{end_of}
use Rattle.store_source.proofs.Served.{end_zero, end_there, end_none}
use Rattle.store_source.proofs.serving.end_of_log.Goals as goal

pub returns-then-log-eq0 : goal.returns-then-log-eq0
returns-then-log-eq0 c all is = sym (ap (λ (n : ℕ). end_of n all) c.if-log-eq0.true ∙ end_zero all)

pub returns-in-Some : goal.returns-in-Some
returns-in-Some c all is =
    let same : suc (c.args.log - 1) ≡ c.args.log = omega (arith, c.if-log-eq0.false) in
    let low : c.args.log - 1 < length (positions all) =
    subst (λ (l : List ℕ). c.args.log - 1 < length l) is (ltb-true (c.args.log - 1) (length c.args.ends.now) (sym c.in-Some.ensures.lookup.0)) in
    end_there all (c.args.log - 1) c.in-Some.end.now low (c.in-Some.ensures.lookup.1 ∙ ap (λ (l : List ℕ). get_or l (c.args.log - 1) c.in-Some.end.now) is)
    ∙ ap (λ (n : ℕ). end_of n all) same

pub returns-in-None : goal.returns-in-None
returns-in-None c all is =
    let same : suc (c.args.log - 1) ≡ c.args.log = omega (arith, c.if-log-eq0.false) in
    let past : length (positions all) ≤ c.args.log - 1 =
    subst (λ (l : List ℕ). length l ≤ c.args.log - 1) is (ltb-false (c.args.log - 1) (length c.args.ends.now) (sym c.in-None.ensures.lookup.0)) in
    end_none all (c.args.log - 1) past ∙ ap (λ (n : ℕ). end_of n all) same
