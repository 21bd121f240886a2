use Rattle.std.proofs.Common.{rules, ◌≡◌, ◌+◌, ◌<◌, ◌^◌, ap, subst, arith}
use Rattle.session_model.specs.log_entries.declared.entries.Entry.TheVariants.{Transaction}
use Rattle.waiting_entries.specs.store_model.declared.record.Head.{Head}
use Rattle.waiting_entries.specs.Making.{has_place}
use Rattle.waiting_entries.specs.Waiting.{Leaves}
use Rattle.session_shared.specs.Desk.{place_of}
use Rattle.session_shared.proofs.Bases.{committed_now}
use Rattle.session_shared.proofs.Logging.{entry_place, one_entry}
use Rattle.session_shared.proofs.desk.Desk.commit.Goals as goal

pub returns-clause-shared : goal.returns-clause-shared
returns-clause-shared c =
    let next : c.in-Some.committed ≡ c.args.self.now.committed + 1 = search rules in
    let leaves : Leaves (Transaction c.args.stamp c.args.server_id c.args.items.now) c.args.self.now.committed (place_of c.args.self.now.log) c.in_ok-made.made =
    subst (λ (h : Head). Leaves (Transaction c.args.stamp c.args.server_id c.args.items.now) h.number (has_place h) c.in_ok-made.made) c.place.ensures c.in_ok-made.ensures in
    committed_now c.args.self.now.work c.commit.new.self c.args.self.now.lock c.args.self.now.committed c.in-Some.committed (place_of c.args.self.now.log) (place_of c.put.new.self)
    (Transaction c.args.stamp c.args.server_id c.args.items.now) c.together.ensures c.commit.ensures next
    (entry_place (Transaction c.args.stamp c.args.server_id c.args.items.now) c.args.self.now.log c.put.new.self c.in_ok-made.made c.args.self.now.committed c.in_ok-put.ensures.ok leaves)

pub returns-clause-log : goal.returns-clause-log
returns-clause-log c =
    let leaves : Leaves (Transaction c.args.stamp c.args.server_id c.args.items.now) c.args.self.now.committed (place_of c.args.self.now.log) c.in_ok-made.made =
    subst (λ (h : Head). Leaves (Transaction c.args.stamp c.args.server_id c.args.items.now) h.number (has_place h) c.in_ok-made.made) c.place.ensures c.in_ok-made.ensures in
    one_entry (Transaction c.args.stamp c.args.server_id c.args.items.now) c.args.self.now.log c.put.new.self c.in_ok-made.made c.args.self.now.committed c.in_ok-put.ensures.ok leaves

-- the count behind it has 64 bits
pub made_transaction-requires-clause-few : goal.made_transaction-requires-clause-few
made_transaction-requires-clause-few c =
    let next : c.in-Some.committed ≡ c.args.self.now.committed + 1 = search rules in
    let low : c.in-Some.committed < 2 ^ 64 = search rules in
    omega (arith, next, low, ap (λ (h : Head). h.number) c.place.ensures)
