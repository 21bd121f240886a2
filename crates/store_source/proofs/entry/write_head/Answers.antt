use Rattle.std.proofs.Common.{rules, ℕ, ◌+◌, subst, refl, length}
use Rattle.std.specs.Prelude.{OnOk}
use Rattle.store_source.specs.Writing.{PutsBehind, only_for}
use Rattle.store_source.proofs.Images.{no_call}
use Rattle.store_source.proofs.Steps.{count_is, next_end, none_put}
use Rattle.store_source.proofs.entry.write_head.Goals as goal

pub returns-then-is_empty-clause-stays : goal.returns-then-is_empty-clause-stays
returns-then-is_empty-clause-stays g c s on = no_call _ c.args.store.now s on

pub returns-then-is_empty-clause-puts : goal.returns-then-is_empty-clause-puts
returns-then-is_empty-clause-puts g c s on = none_put _ s.held.ends _ c.args.head.now (search rules)

pub put_in_log-requires-clause-on : goal.put_in_log-requires-clause-on
put_in_log-requires-clause-on g c =
    (c.requires.0, (c.requires.1, next_end _ c.args.store.now c.requires.0 c.requires.1 (length c.ends.result.now) c.ends.result.now refl c.ends.ensures))

pub returns-clause-stays : goal.returns-clause-stays
returns-clause-stays g c s on =
    c.put_in_log.ensures.stays s on (next_end _ c.args.store.now s on (length c.ends.result.now) c.ends.result.now refl c.ends.ensures)

pub returns-clause-on : goal.returns-clause-on
returns-clause-on g c s on =
    c.put_in_log.ensures.on s on (next_end _ c.args.store.now s on (length c.ends.result.now) c.ends.result.now refl c.ends.ensures)

pub returns-clause-puts : goal.returns-clause-puts
returns-clause-puts g c s on =
    subst (λ (n : ℕ). OnOk c.put_in_log.result (PutsBehind (g.D.Disk.told c.args.d.now) (g.D.Disk.told c.put_in_log.new.d) s.held.ends (only_for (n + 1) c.args.head.now)))
    (count_is _ c.args.store.now s on (length c.ends.result.now) c.ends.result.now refl c.ends.ensures)
    (c.put_in_log.ensures.puts s on (next_end _ c.args.store.now s on (length c.ends.result.now) c.ends.result.now refl c.ends.ensures))
