use Rattle.std.proofs.Common.{◌≡◌, ◌∙◌, sym, true, false, refl, rules}
use Rattle.prog_work.specs.Contents.{base_of}
use Rattle.store_load.specs.Loading.{held_in}
use Rattle.store_load.proofs.RecordsMade.{goes_on, held_made, not_next}
use Rattle.store_load.proofs.applying.apply.Goals as goal

pub returns-then-not-is_next-clause-held : goal.returns-then-not-is_next-clause-held
returns-then-not-is_next-clause-held c =
    let no : c.is_next.result ≡ false = search rules in
    not_next c.args.r (held_in c.args.stored.now) (sym (c.is_next.ensures (base_of c.args.stored.now.work)) ∙ no)

pub returns-clause-held : goal.returns-clause-held
returns-clause-held c =
    let yes : c.is_next.result ≡ true = search rules in
    held_made c.args.r c.args.stored.now c.take.new.self c.make_base.new.work c.make_base.result (sym (c.is_next.ensures (base_of c.args.stored.now.work)) ∙ yes) c.in_ok-take.ensures c.make_base.ensures

pub returns-clause-rest : goal.returns-clause-rest
returns-clause-rest c =
    let yes : c.is_next.result ≡ true = search rules in
    goes_on c.args.r c.args.stored.now (record c.args.stored.now { work = c.make_base.new.work; reached = c.take.new.self }) c.make_base.result c.requires.kind
    (sym (c.is_next.ensures (base_of c.args.stored.now.work)) ∙ yes) refl refl refl c.in_ok-take.ensures c.make_base.ensures
