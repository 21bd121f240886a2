use Rattle.std.proofs.Common.{List, subst}
use Rattle.std.specs.List.{AllByRecursion}
use Rattle.std.proofs.lemmas.Bool.{OnTrue_at}
use Rattle.val_types.specs.declared.change.Change.{Change}
use Rattle.commit_store.specs.store_model.declared.record.Kind.TheVariants.{Source}
use Rattle.commit_store.specs.store_model.Bodies.{IsChange}
use Rattle.waiting_entries.proofs.Recording.{ok_of, transaction_body}
use Rattle.waiting_entries.proofs.making.transaction_record.Goals as goal

pub new-requires-clause-form : goal.new-requires-clause-form
new-requires-clause-form c = (
  Source,
  (transaction_body c.args.head c.args.changes c.is_head.ensures c.bodies_are_counted.ensures.changes
      (subst (λ (cs : List Change). AllByRecursion IsChange cs) c.as_slice.ensures (OnTrue_at c.if-not-are_changes.false c.are_changes.ensures)) c.requires).form,
)

pub new-requires-clause-fits : goal.new-requires-clause-fits
new-requires-clause-fits c =
    (transaction_body c.args.head c.args.changes c.is_head.ensures c.bodies_are_counted.ensures.changes
    (subst (λ (cs : List Change). AllByRecursion IsChange cs) c.as_slice.ensures (OnTrue_at c.if-not-are_changes.false c.are_changes.ensures)) c.requires).fits

pub returns-clause-body : goal.returns-clause-body
returns-clause-body c =
    ok_of c.new.result
    (transaction_body c.args.head c.args.changes c.is_head.ensures c.bodies_are_counted.ensures.changes
    (subst (λ (cs : List Change). AllByRecursion IsChange cs) c.as_slice.ensures (OnTrue_at c.if-not-are_changes.false c.are_changes.ensures)) c.requires)
