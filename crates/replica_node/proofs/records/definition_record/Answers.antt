use Rattle.std.proofs.Common.{◌<◌, ℕ, List, length, ap, sym, subst, arith}
use Rattle.commit_store.specs.store_model.declared.record.Kind.TheVariants as kind
use Rattle.commit_store.specs.store_model.declared.record.Record.TheVariants.{DefinitionApplied}
use Rattle.replica_node.proofs.Recording.{definition_body, made_of}
use Rattle.replica_node.proofs.records.definition_record.Goals as goal

pub new-requires-clause-form : goal.new-requires-clause-form
new-requires-clause-form c =
    let few : length c.in_ok-text.text < 2147483648 = subst (λ (t : List ℕ). length t < 2147483648) (sym c.in_ok-text.ensures) (omega (arith, c.if-text-ge-TOO_LONG.false)) in
    (kind.Replica, (definition_body c.args.head c.in_ok-text.text c.is_head.ensures few).form)

pub new-requires-clause-fits : goal.new-requires-clause-fits
new-requires-clause-fits c =
    let few : length c.in_ok-text.text < 2147483648 = subst (λ (t : List ℕ). length t < 2147483648) (sym c.in_ok-text.ensures) (omega (arith, c.if-text-ge-TOO_LONG.false)) in
    (definition_body c.args.head c.in_ok-text.text c.is_head.ensures few).fits

pub returns : goal.returns
returns c =
    made_of c.new.result (DefinitionApplied c.args.head c.in_ok-text.text) (DefinitionApplied c.args.head c.args.text.now) c.new.ensures (ap (λ (t : List ℕ). DefinitionApplied c.args.head t) c.in_ok-text.ensures)
    (definition_body c.args.head c.args.text.now c.is_head.ensures (omega (arith, c.if-text-ge-TOO_LONG.false)))
