use Rattle.log_groups.specs.log_entries.Variables.{variable_set}
use Rattle.event_codec.specs.Event.{value_of}
use Rattle.apply_model.specs.Texts.{Needs}
use Rattle.apply_model.specs.Groups.{with_number}
use Rattle.std.proofs.Common.{Some}
use Rattle.stmt_apply.proofs.Going.{mapped, needed}
use Rattle.stmt_apply.proofs.transaction.apply_body.Goals as goal

pub returns-in_ok-push-in-TableMap-clause-goes : goal.returns-in_ok-push-in-TableMap-clause-goes
returns-in_ok-push-in-TableMap-clause-goes c = λ g h.
    rw c.in-TableMap.is (mapped c.args.work.now c.args.under_way.now g c.push.new.self c.in-TableMap.map h c.in_ok-push-in-TableMap.ensures.ok)

pub returns-in-IntVar-clause-goes : goal.returns-in-IntVar-clause-goes
returns-in-IntVar-clause-goes c = λ g h.
    rw c.in-IntVar.is (needed c.args.work.now c.args.under_way.now g c.put_number.new.self (with_number c.in-IntVar.kind c.in-IntVar.value) h c.put_number.ensures)

pub returns-in-Rand-clause-goes : goal.returns-in-Rand-clause-goes
returns-in-Rand-clause-goes c = λ g h.
    rw c.in-Rand.is
    (needed c.args.work.now c.args.under_way.now g c.put_seeds.new.self (λ (n : Needs). record n { seeds = Some (c.in-Rand.first, c.in-Rand.second) }) h c.put_seeds.ensures)

pub returns-in_ok-put_variable-in-UserVar-clause-goes : goal.returns-in_ok-put_variable-in-UserVar-clause-goes
returns-in_ok-put_variable-in-UserVar-clause-goes c = λ g h.
    rw c.in-UserVar.is
    (needed c.args.work.now c.args.under_way.now g c.put_variable.new.self
    (λ (n : Needs). record n { vars = variable_set n.vars c.in-UserVar.variable.name.now (value_of c.in-UserVar.variable.value) }) h c.in_ok-put_variable-in-UserVar.ensures)
