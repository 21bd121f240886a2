use Rattle.std.proofs.Common.{List, ap, ◌∙◌, subst}
use Rattle.std.proofs.lemmas.Bool.{OnTrue_at}
use Rattle.val_types.specs.declared.change.Change.{Change}
use Rattle.commit_store.specs.store_model.declared.record.Kind.TheVariants as kind
use Rattle.commit_store.specs.store_model.declared.record.Record.TheVariants.{TransactionApplied}
use Rattle.replica_node.proofs.Recording.{HasBody, made_of, transaction_body}
use Rattle.replica_node.proofs.records.transaction_record.Goals as goal

pub new-requires-clause-form : goal.new-requires-clause-form
new-requires-clause-form c =
    let fit = OnTrue_at c.if-not-have_body.false c.have_body.ensures in
    let body : HasBody (TransactionApplied c.args.head c.in_ok-changes.changes) =
    subst (λ (cs : List Change). HasBody (TransactionApplied c.args.head cs)) c.as_slice.ensures
    (transaction_body c.args.head c.as_slice.result.now c.is_head.ensures c.bodies_are_counted.ensures.changes fit.0 fit.1) in
    (kind.Replica, body.form)

pub new-requires-clause-fits : goal.new-requires-clause-fits
new-requires-clause-fits c =
    let fit = OnTrue_at c.if-not-have_body.false c.have_body.ensures in
    let body : HasBody (TransactionApplied c.args.head c.in_ok-changes.changes) =
    subst (λ (cs : List Change). HasBody (TransactionApplied c.args.head cs)) c.as_slice.ensures
    (transaction_body c.args.head c.as_slice.result.now c.is_head.ensures c.bodies_are_counted.ensures.changes fit.0 fit.1) in
    body.fits

pub returns : goal.returns
returns c =
    let fit = OnTrue_at c.if-not-have_body.false c.have_body.ensures in
    let body : HasBody (TransactionApplied c.args.head c.in_ok-changes.changes) =
    subst (λ (cs : List Change). HasBody (TransactionApplied c.args.head cs)) c.as_slice.ensures
    (transaction_body c.args.head c.as_slice.result.now c.is_head.ensures c.bodies_are_counted.ensures.changes fit.0 fit.1) in
    let same = ap (λ (cs : List Change). TransactionApplied c.args.head cs) (c.in_ok-changes.ensures ∙ c.undo.ensures) in
    made_of c.new.result (TransactionApplied c.args.head c.in_ok-changes.changes) (TransactionApplied c.args.head c.args.work.now.changes) c.new.ensures same (subst HasBody same body)
