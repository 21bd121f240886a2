use Rattle.std.proofs.Common.{ℕ, ◌+◌, List, subst, refl, arith, ◌∙◌}
use Rattle.store_source.specs.Writing.{PutsBehind, only_for}
use Rattle.store_source.proofs.Images.{durable, told_long, put_stays, put_on, put_behind, least_at, within_at}
use Rattle.store_source.proofs.Steps.{ok_two}
use Rattle.store_source.proofs.entry.put_in_log.Goals as goal

pub put-requires-clause-durable : goal.put-requires-clause-durable
put-requires-clause-durable g c = durable _ c.args.store.now c.requires.on.0 c.requires.on.1.0 (7 + c.args.log)

pub put-requires-clause-within : goal.put-requires-clause-within
put-requires-clause-within g c =
    within_at _ c.requires.on.0.held.ends c.args.log c.from.result c.args.at c.from.ensures c.requires.on.1.1
    (told_long _ c.args.store.now c.requires.on.0 c.requires.on.1.0)

pub returns-clause-stays : goal.returns-clause-stays
returns-clause-stays g c s on is =
    put_stays _ c.args.store.now s on _ (7 + c.args.log) c.from.result _ (omega (arith, c.requires.some))
    (least_at s.held.ends c.args.log c.from.result c.args.at c.from.ensures is) c.put.ensures.puts

pub returns-clause-on : goal.returns-clause-on
returns-clause-on g c s on is = ok_two c.put.result c.put.ensures.durable c.put.ensures.reads (λ only reads.
    put_on _ c.args.store.now s on _ (7 + c.args.log) c.from.result _ (omega (arith, c.requires.some))
    (least_at s.held.ends c.args.log c.from.result c.args.at c.from.ensures is) c.put.ensures.puts only reads)

pub returns-clause-puts : goal.returns-clause-puts
returns-clause-puts g c s on is = ok_two c.put.result c.put.ensures.durable c.put.ensures.reads (λ only reads.
    subst (λ (p : List ℕ). PutsBehind (g.D.Disk.told c.args.d.now) (g.D.Disk.told c.put.new.d) s.held.ends (only_for c.args.log p)) c.as_slice.ensures
    (put_behind _ c.args.store.now s on _ (7 + c.args.log) c.from.result _ (omega (arith, c.requires.some))
    (least_at s.held.ends c.args.log c.from.result c.args.at c.from.ensures is) c.put.ensures.puts only reads c.args.log refl (c.from.ensures ∙ is)))
