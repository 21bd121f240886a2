use Rattle.std.proofs.Common.{ℕ, subst, refl, length}
use Rattle.std.specs.Prelude.{OnOk}
use Rattle.store_source.specs.Writing.{PutsBehind, only_for}
use Rattle.store_source.proofs.Images.{no_call}
use Rattle.store_source.proofs.Steps.{count_is, tail_end}
use Rattle.store_source.proofs.entry.write_tail.Goals as goal

pub returns-then-count-eq0-clause-stays : goal.returns-then-count-eq0-clause-stays
returns-then-count-eq0-clause-stays g c s on = no_call _ c.args.store.now s on

pub put_in_log-requires-clause-on : goal.put_in_log-requires-clause-on
put_in_log-requires-clause-on g c = (c.requires.0, (c.requires.1, tail_end _ c.args.store.now c.requires.0 c.requires.1 c.ends-count.result.now c.ends.result.now c.ends-count.ensures c.ends.ensures c.if-count-eq0.false))

pub returns-clause-stays : goal.returns-clause-stays
returns-clause-stays g c s on = c.put_in_log.ensures.stays s on (tail_end _ c.args.store.now s on c.ends-count.result.now c.ends.result.now c.ends-count.ensures c.ends.ensures c.if-count-eq0.false)

pub returns-clause-on : goal.returns-clause-on
returns-clause-on g c s on = c.put_in_log.ensures.on s on (tail_end _ c.args.store.now s on c.ends-count.result.now c.ends.result.now c.ends-count.ensures c.ends.ensures c.if-count-eq0.false)

pub returns-clause-puts : goal.returns-clause-puts
returns-clause-puts g c s on none =
    subst (λ (n : ℕ). OnOk c.put_in_log.result (PutsBehind (g.D.Disk.told c.args.d.now) (g.D.Disk.told c.put_in_log.new.d) s.held.ends (only_for n c.args.tail.now)))
    (count_is _ c.args.store.now s on (length c.ends-count.result.now) c.ends-count.result.now refl c.ends-count.ensures)
    (c.put_in_log.ensures.puts s on (tail_end _ c.args.store.now s on c.ends-count.result.now c.ends.result.now c.ends-count.ensures c.ends.ensures c.if-count-eq0.false))
