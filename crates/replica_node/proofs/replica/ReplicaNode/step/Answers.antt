use Rattle.std.proofs.Common.{◌≡◌, ℕ, ap, refl, sym, subst, ◌∙◌}
use Rattle.log_groups.specs.Views.{group_seen}
use Rattle.relay_log.specs.log_model.Groups.{Form, next_log}
use Rattle.replica_node.specs.Kept.{Kept, replica_of}
use Rattle.replica_node.specs.Records.{IsDefinition, IsTransaction}
use Rattle.replica_node.specs.Steps.{IsOver}
use Rattle.replica_node.proofs.Stepping.{StandsAt, definition_carries, form_is, moved_goes, moved_leaves, moved_step, so_carried, so_goes, so_leaves, stands_so, transaction_carries}
use Rattle.replica_node.proofs.replica.ReplicaNode.step.Goals as goal

-- ---- the end of a log

pub returns-in-Rotate-clause-step : goal.returns-in-Rotate-clause-step
returns-in-Rotate-clause-step c =
    let stands : StandsAt c.args.self.now c.args.ahead.now c.behind-behind.result (group_seen c.in-Group.group) =
    stands_so c.args.self.now c.self.inside.relay c.args.ahead.now c.behind-behind.result c.next.result c.in-Group.group (ap (λ (n : Kept). n.relay) c.self.view_is) c.requires c.next.ensures c.in-Group.is
    c.behind-behind.ensures.place c.behind-behind.ensures.passed c.behind-behind.ensures.lies in
    moved_step c.args.self.now.identity c.args.draw.now c.args.self.now c.args.ahead.now c.behind-behind.result (group_seen c.in-Group.group) stands c.move_on.result c.move_on.new.self c.in-Rotate.next
    (form_is (λ (form : Form). form ≡ next_log c.in-Rotate.next) c.in-Group.group _ c.in-Rotate.is refl) c.move_on.ensures.moves

pub returns-in-Rotate-clause-goes_on : goal.returns-in-Rotate-clause-goes_on
returns-in-Rotate-clause-goes_on c =
    let stands : StandsAt c.args.self.now c.args.ahead.now c.behind-behind.result (group_seen c.in-Group.group) =
    stands_so c.args.self.now c.self.inside.relay c.args.ahead.now c.behind-behind.result c.next.result c.in-Group.group (ap (λ (n : Kept). n.relay) c.self.view_is) c.requires c.next.ensures c.in-Group.is
    c.behind-behind.ensures.place c.behind-behind.ensures.passed c.behind-behind.ensures.lies in
    moved_goes c.args.self.now.identity c.args.draw.now c.args.self.now c.args.ahead.now c.behind-behind.result (group_seen c.in-Group.group) stands c.move_on.result c.move_on.new.self c.move_on.ensures.moves

pub returns-in-Rotate-clause-leaves : goal.returns-in-Rotate-clause-leaves
returns-in-Rotate-clause-leaves c =
    let stands : StandsAt c.args.self.now c.args.ahead.now c.behind-behind.result (group_seen c.in-Group.group) =
    stands_so c.args.self.now c.self.inside.relay c.args.ahead.now c.behind-behind.result c.next.result c.in-Group.group (ap (λ (n : Kept). n.relay) c.self.view_is) c.requires c.next.ensures c.in-Group.is
    c.behind-behind.ensures.place c.behind-behind.ensures.passed c.behind-behind.ensures.lies in
    moved_leaves c.args.self.now.identity c.args.draw.now c.args.self.now c.args.ahead.now c.behind-behind.result (group_seen c.in-Group.group) stands c.move_on.result c.move_on.new.self c.move_on.ensures.moves

-- ---- a definition

pub returns-in_ok-step-in-Ddl-clause-step : goal.returns-in_ok-step-in-Ddl-clause-step
returns-in_ok-step-in-Ddl-clause-step c =
    let k : Kept = record { identity = c.self.inside.identity; work = c.self.inside.work; number = c.self.inside.number; relay = c.self.inside.relay } in
    let stands : StandsAt k c.args.ahead.now c.behind-behind.result (group_seen c.in-Group.group) =
    stands_so k c.self.inside.relay c.args.ahead.now c.behind-behind.result c.next.result c.in-Group.group refl (subst (λ (n : Kept). IsOver (replica_of n) c.args.ahead.now) (sym c.self.view_is) c.requires)
    c.next.ensures c.in-Group.is c.behind-behind.ensures.place c.behind-behind.ensures.passed c.behind-behind.ensures.lies in
    so_carried c.args.draw.now k c.args.self.now c.pass_carried.new.self c.args.ahead.now c.behind-behind.result (group_seen c.in-Group.group) stands c.pass_carried.result c.in_ok-step-in-Ddl.step c.carry_definition.new.work c.self.view_is
    c.pass_carried.ensures.step c.pass_carried.ensures.passes c.in_ok-step-in-Ddl.ensures.carried
    (definition_carries k.identity c.args.draw.now c.in-Ddl.query.text.now (group_seen c.in-Group.group) (form_is (IsDefinition c.in-Ddl.query.text.now) c.in-Group.group _ c.in-Ddl.is refl))

pub returns-in_ok-step-in-Ddl-clause-goes_on : goal.returns-in_ok-step-in-Ddl-clause-goes_on
returns-in_ok-step-in-Ddl-clause-goes_on c =
    let k : Kept = record { identity = c.self.inside.identity; work = c.self.inside.work; number = c.self.inside.number; relay = c.self.inside.relay } in
    let stands : StandsAt k c.args.ahead.now c.behind-behind.result (group_seen c.in-Group.group) =
    stands_so k c.self.inside.relay c.args.ahead.now c.behind-behind.result c.next.result c.in-Group.group refl (subst (λ (n : Kept). IsOver (replica_of n) c.args.ahead.now) (sym c.self.view_is) c.requires)
    c.next.ensures c.in-Group.is c.behind-behind.ensures.place c.behind-behind.ensures.passed c.behind-behind.ensures.lies in
    so_goes c.args.draw.now k c.args.self.now c.pass_carried.new.self c.args.ahead.now c.behind-behind.result (group_seen c.in-Group.group) stands c.pass_carried.result c.in_ok-step-in-Ddl.step c.carry_definition.new.work c.self.view_is
    c.pass_carried.ensures.step c.pass_carried.ensures.passes c.in_ok-step-in-Ddl.ensures.carried

pub returns-in_ok-step-in-Ddl-clause-leaves : goal.returns-in_ok-step-in-Ddl-clause-leaves
returns-in_ok-step-in-Ddl-clause-leaves c =
    let k : Kept = record { identity = c.self.inside.identity; work = c.self.inside.work; number = c.self.inside.number; relay = c.self.inside.relay } in
    let stands : StandsAt k c.args.ahead.now c.behind-behind.result (group_seen c.in-Group.group) =
    stands_so k c.self.inside.relay c.args.ahead.now c.behind-behind.result c.next.result c.in-Group.group refl (subst (λ (n : Kept). IsOver (replica_of n) c.args.ahead.now) (sym c.self.view_is) c.requires)
    c.next.ensures c.in-Group.is c.behind-behind.ensures.place c.behind-behind.ensures.passed c.behind-behind.ensures.lies in
    so_leaves c.args.draw.now k c.args.self.now c.pass_carried.new.self c.args.ahead.now c.behind-behind.result (group_seen c.in-Group.group) stands c.pass_carried.result c.in_ok-step-in-Ddl.step c.carry_definition.new.work c.self.view_is
    c.pass_carried.ensures.step c.pass_carried.ensures.passes c.in_ok-step-in-Ddl.ensures.carried c.head_at.result c.in_ok-step-in-Ddl.ensures.makes (c.head_at.ensures ∙ ap (λ (n : ℕ). record { number = n; log = c.behind-behind.result.place.log; pos = c.behind-behind.result.place.pos }) c.saturating_add.ensures)

-- ---- a transaction

pub returns-in_ok-step-in-Txn-clause-step : goal.returns-in_ok-step-in-Txn-clause-step
returns-in_ok-step-in-Txn-clause-step c =
    let k : Kept = record { identity = c.self.inside.identity; work = c.self.inside.work; number = c.self.inside.number; relay = c.self.inside.relay } in
    let stands : StandsAt k c.args.ahead.now c.behind-behind.result (group_seen c.in-Group.group) =
    stands_so k c.self.inside.relay c.args.ahead.now c.behind-behind.result c.next.result c.in-Group.group refl (subst (λ (n : Kept). IsOver (replica_of n) c.args.ahead.now) (sym c.self.view_is) c.requires)
    c.next.ensures c.in-Group.is c.behind-behind.ensures.place c.behind-behind.ensures.passed c.behind-behind.ensures.lies in
    so_carried c.args.draw.now k c.args.self.now c.pass_carried-in-Txn.new.self c.args.ahead.now c.behind-behind.result (group_seen c.in-Group.group) stands c.pass_carried-in-Txn.result c.in_ok-step-in-Txn.step c.carry_transaction.new.work c.self.view_is
    c.pass_carried-in-Txn.ensures.step c.pass_carried-in-Txn.ensures.passes c.in_ok-step-in-Txn.ensures.carried
    (transaction_carries k.identity c.args.draw.now (group_seen c.in-Group.group) (form_is IsTransaction c.in-Group.group _ c.in-Txn.is tt))

pub returns-in_ok-step-in-Txn-clause-goes_on : goal.returns-in_ok-step-in-Txn-clause-goes_on
returns-in_ok-step-in-Txn-clause-goes_on c =
    let k : Kept = record { identity = c.self.inside.identity; work = c.self.inside.work; number = c.self.inside.number; relay = c.self.inside.relay } in
    let stands : StandsAt k c.args.ahead.now c.behind-behind.result (group_seen c.in-Group.group) =
    stands_so k c.self.inside.relay c.args.ahead.now c.behind-behind.result c.next.result c.in-Group.group refl (subst (λ (n : Kept). IsOver (replica_of n) c.args.ahead.now) (sym c.self.view_is) c.requires)
    c.next.ensures c.in-Group.is c.behind-behind.ensures.place c.behind-behind.ensures.passed c.behind-behind.ensures.lies in
    so_goes c.args.draw.now k c.args.self.now c.pass_carried-in-Txn.new.self c.args.ahead.now c.behind-behind.result (group_seen c.in-Group.group) stands c.pass_carried-in-Txn.result c.in_ok-step-in-Txn.step c.carry_transaction.new.work c.self.view_is
    c.pass_carried-in-Txn.ensures.step c.pass_carried-in-Txn.ensures.passes c.in_ok-step-in-Txn.ensures.carried

pub returns-in_ok-step-in-Txn-clause-leaves : goal.returns-in_ok-step-in-Txn-clause-leaves
returns-in_ok-step-in-Txn-clause-leaves c =
    let k : Kept = record { identity = c.self.inside.identity; work = c.self.inside.work; number = c.self.inside.number; relay = c.self.inside.relay } in
    let stands : StandsAt k c.args.ahead.now c.behind-behind.result (group_seen c.in-Group.group) =
    stands_so k c.self.inside.relay c.args.ahead.now c.behind-behind.result c.next.result c.in-Group.group refl (subst (λ (n : Kept). IsOver (replica_of n) c.args.ahead.now) (sym c.self.view_is) c.requires)
    c.next.ensures c.in-Group.is c.behind-behind.ensures.place c.behind-behind.ensures.passed c.behind-behind.ensures.lies in
    so_leaves c.args.draw.now k c.args.self.now c.pass_carried-in-Txn.new.self c.args.ahead.now c.behind-behind.result (group_seen c.in-Group.group) stands c.pass_carried-in-Txn.result c.in_ok-step-in-Txn.step c.carry_transaction.new.work c.self.view_is
    c.pass_carried-in-Txn.ensures.step c.pass_carried-in-Txn.ensures.passes c.in_ok-step-in-Txn.ensures.carried c.head_at-in-Txn.result c.in_ok-step-in-Txn.ensures.makes (c.head_at-in-Txn.ensures ∙ ap (λ (n : ℕ). record { number = n; log = c.behind-behind.result.place.log; pos = c.behind-behind.result.place.pos }) c.saturating_add-in-Txn.ensures)
